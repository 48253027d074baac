use Rattle.std.proofs.Common.{◌≡◌, reverse, true, refl, arith}
use Rattle.std.proofs.lemmas.Grind.{common_steps}
use Rattle.choice_problem.proofs.WalkLemmas.{on_valid}
use Rattle.choice_problem.proofs.walks.RangeWalk.advance.Goals as goal

pub returns-clause-valid : goal.returns-clause-valid
returns-clause-valid c = λ p all.
    let on : c.self.inside.is_on ≡ true = grind (arith, common_steps) in
    on_valid p c.self.inside.is_on c.self.inside.ranges (reverse c.self.inside.frames.items) c.args.node _ on
    (c.if-not-can_stand.ensures.0 refl) c.in_ok-self-inside.ensures.walk (rw (← c.self.view_is) at all)
