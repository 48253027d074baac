use Rattle.std.proofs.Common.{arith, ◌≡◌, ◌+◌, ℕ, suc, List, ◌∷◌, [], ◌++◌, length, take, sym, ap, subst}
use Rattle.std.specs.Prelude.{All}
use Rattle.std.specs.List.{AllZip}
use Rattle.std.proofs.lemmas.List.{take_all, length-append}
use Rattle.std.proofs.lemmas.List.Elements.{All-push}
use Rattle.capacity_windows.specs.Windows.{capacity_of, declared_resources}
use Rattle.choice_problem.specs.Problems.{ChooserView, ArePartsInRange}
use Rattle.series_model.specs.declared.unit.Unit.{Unit as SlotUnit}
use Rattle.wasg_stages.specs.StageProblems.{IsChooserOf}
use Rattle.wasg_stages.proofs.BuildLemmas.{choosers-on}
use Rattle.wasg_stages.proofs.problems.all_choosers.Goals as goal

pub loop-unit-preserved : goal.loop-unit-preserved
loop-unit-preserved c =
    let d = c.args.declaration.now in
    let units = c.args.units.now in
    let i = c.loop-unit.unit-index in
    let old = c.loop-unit.choosers.items in
    let m = c.in_ok-chooser.chooser in
    let within : ChooserView → Type 0 = ArePartsInRange (declared_resources (capacity_of d)) in
    let next : suc i ≡ i + 1 = omega arith in
    let pushed : c.push.new.self.items ≡ old ++ m ∷ [] = c.in_ok-push.ensures.items in
    record {
      units = subst (λ (ms : List ChooserView). AllZip (IsChooserOf d) (take (i + 1) units) ms) (sym pushed)
          (subst (λ (k : ℕ). AllZip (IsChooserOf d) (take k units) (old ++ m ∷ [])) next
          (choosers-on d units old i _ m c.loop-unit-test.true c.loop-unit.invariant.units c.in_ok-chooser.ensures.chooser));
      range = subst (λ (ms : List ChooserView). All within ms) (sym pushed) (All-push within old m c.loop-unit.invariant.range c.in_ok-chooser.ensures.range);
      few = omega (arith, ap (λ (ms : List ChooserView). length ms) pushed, length-append old (m ∷ []), c.loop-unit.invariant.few);
    }

pub returns-clause-units : goal.returns-clause-units
returns-clause-units c =
    let units = c.args.units.now in
    subst (λ (list : List SlotUnit). AllZip (IsChooserOf c.args.declaration.now) list c.loop-unit.choosers.items) (take_all c.loop-unit.unit-index units (omega arith)) c.loop-unit.invariant.units
