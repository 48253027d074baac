use Rattle.std.proofs.Common.{◌≡◌, length, refl, arith}
use Rattle.std.proofs.lemmas.List.Elements.{All-from_get_or}
use Rattle.choice_problem.specs.Strips.{IsStripInRange, IsPartInRange}
use Rattle.choice_problem.proofs.strips.Part.is_within.Goals as goal

pub returns : goal.returns
returns c =
    let strips = c.deref-strip-items.result.now in
    let all : length strips ≡ c.loop-strip.strip-index = omega (arith, c.loop-strip.auto.strip-index-end, c.loop-strip-test.false) in
    let within : IsPartInRange c.args.resources strips =
    All-from_get_or (IsStripInRange c.args.resources) strips (record { first = 0; width = 0; gap = 0; times = 0 })
    (λ k l. c.loop-strip.invariant k (omega (arith, all, l))) in
    rw (← c.self.view_is) ((λ _. rw c.deref-strip-items.ensures.value at within), (λ _. refl))
