use Rattle.std.proofs.Common.{rules, ◌<◌, List, ℕ, [], length, sym, ap, ◌∙◌, subst}
use Rattle.std.specs.Prelude.{All}
use Rattle.std.proofs.lemmas.List.{get_or_default}
use Rattle.std.proofs.lemmas.List.Elements.{All-push}
use Rattle.choice_problem.specs.Problems.{ChooserView, ArePartsInRange, resource_count, chooser_at}
use Rattle.cost_fixing.specs.Fixings.{unit_with}
use Rattle.cost_fixing.specs.Loops.{alts_in}
use Rattle.cost_fixing.proofs.StepLemmas.{map-push}
use Rattle.cost_fixing.proofs.units.units_with.Goals as goal

pub loop-unit-preserved : goal.loop-unit-preserved
loop-unit-preserved c =
    let p = c.args.problem.now in
    let numbers = c.args.numbers.now in
    let unit = c.loop-unit.unit in
    let made = c.in_ok-unit_with.field-0 in
    let there : unit < length numbers = search rules in
    let own = c.items-alts.ensures ∙ c.index-numbers-unit.is ∙ get_or_default numbers unit c.index-numbers-unit.result [] there in
    record {
      value = c.in_ok-push.ensures.items
          ∙ map-push {X = ChooserView} (λ u. unit_with (chooser_at p u) (alts_in numbers u)) unit c.loop-unit.units.items made c.loop-unit.invariant.value
          (c.in_ok-unit_with.ensures.value ∙ ap (λ (l : List ℕ). unit_with (chooser_at p unit) l) own);
      there = subst (λ (us : List ChooserView). All (ArePartsInRange (resource_count p)) us) (sym c.in_ok-push.ensures.items)
          (All-push (ArePartsInRange (resource_count p)) c.loop-unit.units.items made c.loop-unit.invariant.there c.in_ok-unit_with.ensures.there);
    }
