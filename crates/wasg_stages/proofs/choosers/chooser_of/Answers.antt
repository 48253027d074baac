use Rattle.std.proofs.Common.{rules, ◌≡◌, ◌+◌, ◌<◌, ◌^◌, ℕ, length, List, ◌∷◌, [], ◌++◌, get_or, sym, ◌∙◌, ap, subst, arith}
use Rattle.choice_problem.specs.declared.problems.Alt.{Alt}
use Rattle.series_model.specs.declared.times.Times.{Times}
use Rattle.series_model.specs.declared.times.Times.TheVariants.{Refused}
use Rattle.series_model.specs.Options.{options_of}
use Rattle.series_model.specs.Displacement.{displacement_of}
use Rattle.capacity_windows.specs.Windows.{capacity_of}
use Rattle.wasg_stages.specs.StageProblems.{IsAltOf, IsChooserOf}
use Rattle.wasg_stages.specs.Parts.{AreAlts}
use Rattle.wasg_stages.proofs.PartLemmas.{AreAlts-push, AreAlts-IsChooserOf, AreAlts-IsChooser}
use Rattle.wasg_stages.proofs.choosers.chooser_of.Goals as goal

pub alt_of-requires-clause-cost : goal.alt_of-requires-clause-cost
alt_of-requires-clause-cost c =
    let d = c.args.declaration.now in
    let unit = c.args.unit.now in
    let lt : c.loop-times.times-index < length c.deref-times-items.result.now = search rules in
    let there : c.loop-times.times-index < length (options_of d unit) = omega (arith, ap (λ (xs : List Times). length xs) c.loop-times.invariant.options, lt) in
    subst (λ (xs : List Times). displacement_of d unit (get_or xs c.loop-times.times-index Refused) < 2 ^ 24) (sym c.loop-times.invariant.options)
    (c.option_bounds.ensures.costs d unit c.requires.unit c.requires.keeps.price c.loop-times.times-index Refused there)

pub alt_of-requires-clause-few : goal.alt_of-requires-clause-few
alt_of-requires-clause-few c =
    let d = c.args.declaration.now in
    let unit = c.args.unit.now in
    let lt : c.loop-times.times-index < length c.deref-times-items.result.now = search rules in
    omega (arith, ap (λ (xs : List Times). length xs) c.loop-times.invariant.options, lt, c.loop-times.invariant.alts.few, c.option_bounds.ensures.few d unit c.requires.unit)

pub loop-times-preserved : goal.loop-times-preserved
loop-times-preserved c =
    let d = c.args.declaration.now in
    let unit = c.args.unit.now in
    let n = c.loop-times.times-index in
    let is : IsAltOf d unit (record { parts = c.alt_of.new.parts.items; alts = [] }) (get_or (options_of d unit) n Refused) c.in_ok-alt.alt =
    subst (λ (xs : List Times). IsAltOf d unit (record { parts = c.alt_of.new.parts.items; alts = [] }) (get_or xs n Refused) c.in_ok-alt.alt)
    c.loop-times.invariant.options c.in_ok-alt.ensures.alt in
    let pushed : c.push.new.self.items ≡ c.loop-times.alts.items ++ c.in_ok-alt.alt ∷ [] = c.in_ok-push.ensures.items in
    record {
      options = c.loop-times.invariant.options;
      alts = subst (λ (xs : List Alt). AreAlts d unit (options_of d unit) c.alt_of.new.parts.items xs (n + 1)) (sym pushed)
          (AreAlts-push d unit (options_of d unit) c.loop-times.parts.items c.alt_of.new.parts.items c.loop-times.alts.items n c.in_ok-alt.alt
          c.loop-times.invariant.alts c.in_ok-alt.ensures.grows is c.in_ok-alt.ensures.named);
      table = c.in_ok-alt.ensures.table;
    }

pub new-requires : goal.new-requires
new-requires c =
    let d = c.args.declaration.now in
    let unit = c.args.unit.now in
    let end : length c.deref-times-items.result.now ≡ c.loop-times.times-index = omega (arith, c.loop-times.auto.times-index-end, c.loop-times-test.false) in
    let all : length (options_of d unit) ≡ c.loop-times.times-index = sym (ap (λ (xs : List Times). length xs) c.loop-times.invariant.options) ∙ end in
    AreAlts-IsChooser c.few_uses.ensures d unit (capacity_of d) c.loop-times.parts.items c.loop-times.alts.items c.loop-times.times-index c.loop-times.invariant.alts c.loop-times.invariant.table.parts_are
    (omega (arith, all, c.option_bounds.ensures.some d unit c.requires.unit)) (omega (arith, all, c.option_bounds.ensures.few d unit c.requires.unit))

pub returns-clause-chooser : goal.returns-clause-chooser
returns-clause-chooser c =
    let d = c.args.declaration.now in
    let unit = c.args.unit.now in
    let end : length c.deref-times-items.result.now ≡ c.loop-times.times-index = omega (arith, c.loop-times.auto.times-index-end, c.loop-times-test.false) in
    let all : length (options_of d unit) ≡ c.loop-times.times-index = sym (ap (λ (xs : List Times). length xs) c.loop-times.invariant.options) ∙ end in
    let alts = subst (λ (n : ℕ). AreAlts d unit (options_of d unit) c.loop-times.parts.items c.loop-times.alts.items n) (sym all) c.loop-times.invariant.alts in
    subst (IsChooserOf d unit) (sym c.new.ensures) (AreAlts-IsChooserOf d unit c.loop-times.parts.items c.loop-times.alts.items alts)
