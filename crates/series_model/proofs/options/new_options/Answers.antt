use Rattle.std.proofs.Common.{◌++◌, ◌∷◌, [], ◌∙◌, ap, sym, List}
use Rattle.series_model.specs.declared.times.Times.{Times}
use Rattle.series_model.specs.declared.times.Times.TheVariants.{Refused}
use Rattle.series_model.proofs.OptionLemmas.{refused_made, refused_none}
use Rattle.series_model.proofs.options.new_options.Goals as goal

pub returns-then-not-refusable : goal.returns-then-not-refusable
returns-then-not-refusable c =
    c.in_ok-options.ensures ∙ refused_none c.args.declaration.now.refuse _ (sym c.is_some-refusable.ensures ∙ c.if-not-refusable.true)

pub returns : goal.returns
returns c =
    c.in_ok-push.ensures.items ∙ ap (λ (xs : List Times). xs ++ Refused ∷ []) c.in_ok-options.ensures
    ∙ refused_made c.args.declaration.now.refuse _ (sym c.is_some-refusable.ensures ∙ c.if-not-refusable.false)
