use Rattle.std.proofs.Common.{◌++◌, ◌∙◌, sym, ap, subst, arith, List, length}
use Rattle.std.specs.Prelude.{All}
use Rattle.series_model.specs.declared.times.Times.{Times}
use Rattle.series_model.specs.Options.{options_of}
use Rattle.season_report.specs.Private.{TimesAreNear, found_reasons}
use Rattle.season_report.proofs.FoundLemmas.{near_all}
use Rattle.season_report.proofs.rows.put_cheaper.Goals as goal

pub put_options-requires-clause-count : goal.put_options-requires-clause-count
put_options-requires-clause-count c =
    ap (λ (its : List Times). length its) (c.deref.ensures.value ∙ c.in_ok-options.ensures) ∙ c.requires.placed.options

pub put_options-requires-clause-few : goal.put_options-requires-clause-few
put_options-requires-clause-few c =
    omega (
      arith,
      ap (λ (its : List Times). length its) (c.deref.ensures.value ∙ c.in_ok-options.ensures),
      c.option_bounds.ensures.few c.args.tried.declaration.now c.args.unit.now c.requires.placed.fits,
    )

pub put_options-requires-clause-times : goal.put_options-requires-clause-times
put_options-requires-clause-times c =
    let d = c.args.tried.declaration.now in
    subst (All TimesAreNear) (sym (c.deref.ensures.value ∙ c.in_ok-options.ensures))
    (near_all d.refuse (options_of d c.args.unit.now) (c.option_bounds.ensures.times d c.args.unit.now c.requires.placed.fits))

pub returns-clause-text : goal.returns-clause-text
returns-clause-text c =
    c.in_ok-put_options.ensures.text
    ∙ ap (λ (its : List Times). c.args.out.now.items ++ found_reasons c.args.tried c.args.place c.args.unit.now.request c.args.cost c.args.others.now its) (c.deref.ensures.value ∙ c.in_ok-options.ensures)
