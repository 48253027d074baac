use Rattle.std.proofs.Common.{◌≡◌, ℕ, ◌+◌, refl, arith}
use Rattle.choice_problem.specs.Problems.{chooser_at, named_uses, alt_uses}
use Rattle.dual_bound.proofs.EndLemmas.{AreEnds-same}
use Rattle.dual_bound.proofs.loads.add_alt.Goals as goal

pub returns : goal.returns
returns c = λ n uses h room.
    let p = c.args.problem.now in
    let unit = c.args.unit in
    let one : ℕ → ℕ = λ r. named_uses (chooser_at p unit) c.alt-chosen.result.one r in
    let two : ℕ → ℕ = λ r. named_uses (chooser_at p unit) c.alt-chosen.result.two r in
    let both : (r : ℕ) → alt_uses p unit c.args.alt r ≡ one r + two r = λ r. rw c.alt-chosen.ensures.value refl in
    AreEnds-same n (λ r. (uses r + one r) + two r) (λ r. uses r + alt_uses p unit c.args.alt r) c.add_named-2.new.begins c.add_named-2.new.ends
    (λ r. omega (arith, both r))
    (c.add_named-2.ensures n (λ r. uses r + one r) (c.add_named.ensures n uses h (λ r l. omega (arith, both r, room r l))) (λ r l. omega (arith, both r, room r l)))
