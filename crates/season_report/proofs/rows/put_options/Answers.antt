use Rattle.std.proofs.Common.{◌<◌, ◌≤◌, ◌∙◌, refl, sym, ap, subst, rules, List, ℕ, length}
use Rattle.std.proofs.lemmas.List.Elements.{All-get_or}
use Rattle.choice_problem.specs.Problems.{resource_count}
use Rattle.window_counts.specs.Placed.{KeepsLimits}
use Rattle.season_report.specs.Private.{TimesAreNear}
use Rattle.season_report.proofs.FoundLemmas.{options_next, options_end, there_so_far}
use Rattle.season_report.proofs.rows.put_options.Goals as goal

pub loop-i-init : goal.loop-i-init
loop-i-init c = record { text = refl; row = tt; others = refl }

pub after_alt-requires-clause-times : goal.after_alt-requires-clause-times
after_alt-requires-clause-times c = All-get_or TimesAreNear c.args.options.now c.loop-i.i _ (search rules) c.requires.times

pub after_alt-requires-clause-within : goal.after_alt-requires-clause-within
after_alt-requires-clause-within c = subst (KeepsLimits c.args.tried.problem.now) (sym c.loop-i.invariant.others) c.requires.within

pub loop-i-preserved : goal.loop-i-preserved
loop-i-preserved c =
    let lt : c.loop-i.i < length c.args.options.now = search rules in
    record {
      text = options_next c.args.tried c.args.place c.args.line.now c.args.cost c.args.options.now c.loop-i.i _ c.loop-i.row _ c.loop-i.others _ c.loop-i.out.items _ _ lt
          c.in_ok-row.ensures.others c.in_ok-row.ensures.row c.in_ok-row.ensures.text c.loop-i.invariant.text;
      row = c.in_ok-row.ensures.under_way;
      others = c.in_ok-row.ensures.others ∙ c.loop-i.invariant.others;
    }

pub put_last-requires-clause-count : goal.put_last-requires-clause-count
put_last-requires-clause-count c = ap (λ (ns : List ℕ). length ns) c.loop-i.invariant.others ∙ c.requires.within.length

pub put_last-requires-clause-there : goal.put_last-requires-clause-there
put_last-requires-clause-there c = there_so_far (resource_count c.args.tried.problem.now) c.loop-i.i c.loop-i.row c.loop-i.invariant.row

pub returns-clause-text : goal.returns-clause-text
returns-clause-text c =
    let past : length c.args.options.now ≤ c.loop-i.i = search rules in
    c.in_ok-put_last.ensures
    ∙ options_end c.args.tried c.args.place c.args.line.now c.args.cost c.args.options.now c.loop-i.i c.loop-i.row c.loop-i.others c.loop-i.out.items _ past c.loop-i.invariant.text
