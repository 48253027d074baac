-- Least values over rows of alternatives.
use Rattle.std.proofs.Common.{◌≡◌, ℕ, ◌+◌, ◌-◌, ◌≤◌, arith, inl, inr, List, ◌++◌}
use Rattle.std.proofs.lemmas.Bool.{cases_lt}
use Rattle.std.proofs.lemmas.List.Sums.{sum_by-append}
use Rattle.std.specs.Prelude.{if◌then◌else◌, ◌==◌}
use Rattle.finite_sums.specs.Sums.{least_within, first_least}
use Rattle.choice_problem.specs.Problems.{ProblemView, alt_uses}
use Rattle.finite_sums.proofs.SumLemmas.{least_within-le, least_within-ge, first_least-IsFirstLeast}
use Rattle.branch_tree.specs.Lists.{times_in, AreWithin}
use Rattle.branch_tree.specs.Rows.{one_uses, two_uses, IsRow, EndAlike}

-- the least of some is at least the least of all
pub least_within-part : (low high from to : ℕ) (f : ℕ → ℕ) → low ≤ from → from ≤ to → to ≤ high → least_within low high f ≤ least_within from to f
least_within-part low high from to f a b c =
    least_within-ge from to (least_within low high f) f b (λ k l m. least_within-le low high k f (omega arith) (omega arith))

-- rows that end alike have the same least uses of second parts
pub least-alike : (p : ProblemView) (u first last end r : ℕ) → first ≤ last → last - first ≤ end → EndAlike p u first last end →
    least_within (end - (last - first)) end (λ a. two_uses p u a r) ≡ least_within first last (λ a. two_uses p u a r)
least-alike p u first last end r l m h =
    let start = end - (last - first) in
    let two : ℕ → ℕ = λ a. two_uses p u a r in
    let above = least_within-ge first last (least_within start end two) two l (λ a from to.
    let e : last - (last - a) ≡ a = omega arith in
    let there = least_within-le start end (end - (last - a)) two (omega arith) (omega arith) in
    omega (arith, there, rw e at (h (last - a) r (omega arith)))) in
    let below = least_within-ge start end (least_within first last two) two (omega arith) (λ a from to.
    let e : end - (end - a) ≡ a = omega arith in
    let there = least_within-le first last (last - (end - a)) two (omega arith) (omega arith) in
    omega (arith, there, rw e at (h (end - a) r (omega arith)))) in
    omega (arith, above, below)

-- what a row has in common: the first part's uses, and the least of the second parts'
pub row-least : (p : ProblemView) (u first last r : ℕ) → first ≤ last → IsRow p u first last →
    least_within first last (λ a. alt_uses p u a r) ≡ one_uses p u last r + least_within first last (λ a. two_uses p u a r)
row-least p u first last r l h =
    let two : ℕ → ℕ = λ a. two_uses p u a r in
    let best = first_least first last two in
    let is = first_least-IsFirstLeast first last two l in
    let there = least_within-le first last best (λ a. alt_uses p u a r) is.from is.to in
    let least = least_within-ge first last (two best) two l (λ a m n. is.least a m n) in
    let below = least_within-ge first last (one_uses p u last r + least_within first last two) (λ a. alt_uses p u a r) l (λ a m n.
    omega (arith, h a r m n, least_within-le first last a two m n)) in
    omega (arith, there, least, below, h best r is.from is.to)

-- two lists one after the other
pub times-append : (one other : List ℕ) (r : ℕ) → times_in (one ++ other) r ≡ times_in one r + times_in other r
times-append one other r = sum_by-append (λ c. if c == r then 1 else 0) one other

pub append-within : (n : ℕ) (one other : List ℕ) → AreWithin n one → AreWithin n other → AreWithin n (one ++ other)
append-within n one other v w = λ r h.
    elim (cases_lt 0 (times_in one r)) [
      | inl some ↦ v r some
      | inr none ↦ w r (omega (arith, h, times-append one other r))
    ]
