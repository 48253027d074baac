use Rattle.std.proofs.Common.{List, [], refl, arith}
use Rattle.std.proofs.lemmas.List.Elements.{All-from_get_or}
use Rattle.choice_problem.specs.declared.strips.Strip.{Strip}
use Rattle.choice_problem.specs.Strips.{IsPartInRange}
use Rattle.choice_problem.proofs.allowed.are_parts_within.Goals as goal

pub returns : goal.returns
returns c = (
  (λ _. All-from_get_or (λ (strips : List Strip). IsPartInRange c.args.resources strips) c.args.parts.now []
      (λ k l. c.loop-part.invariant k (omega (arith, c.loop-part-test.false, l)))),
  (λ _. refl),
)
