use Rattle.std.proofs.Common.{[], refl, arith}
use Rattle.std.proofs.lemmas.List.Elements.{All-from_get_or}
use Rattle.choice_problem.specs.Problems.{ArePartsInRange}
use Rattle.choice_problem.proofs.allowed.are_units_within.Goals as goal

pub returns : goal.returns
returns c = (
  (λ _. All-from_get_or (ArePartsInRange c.args.resources) c.args.units.now (record { parts = []; alts = [] })
      (λ k l. c.loop-unit.invariant k (omega (arith, c.loop-unit-test.false, l)))),
  (λ _. refl),
)
