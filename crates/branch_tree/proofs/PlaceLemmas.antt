-- Ranks of resources among listed ones.
use Rattle.std.proofs.Common.{◌≡◌, ℕ, ◌<◌, ◌≤◌, arith, inl, inr, List, length}
use Rattle.std.specs.Prelude.{slice_index}
use Rattle.std.proofs.lemmas.Bool.{cases_lt}
use Rattle.std.proofs.lemmas.Grind.{common_steps}
use Rattle.choice_problem.specs.Loops.{run_uses}
use Rattle.branch_tree.specs.Lists.{IsRankAt, AreRanksOf}

run-in : (a b r : ℕ) → a ≤ r → r < b → run_uses a b r ≡ 1
run-in a b r l m = grind (arith, common_steps)

run-before : (a b r : ℕ) → r < a → run_uses a b r ≡ 0
run-before a b r l = grind (arith, common_steps)

run-behind : (a b r : ℕ) → b ≤ r → run_uses a b r ≡ 0
run-behind a b r l = grind (arith, common_steps)

-- the places of a run of resources
module _ (n : ℕ) (listed ranks : List ℕ) (h : AreRanksOf n listed ranks) (start end : ℕ) (ordered : start ≤ end) (there : end ≤ n) where
  abbrev from : ℕ
  from = slice_index ranks start

  abbrev to : ℕ
  to = slice_index ranks end

  first : IsRankAt listed start from
  first = h.each start (omega (arith, ordered, there))

  last : IsRankAt listed end to
  last = h.each end there

  pub ranks-rise : from ≤ to
  ranks-rise = elim (cases_lt to from) [
    | inl less ↦ absurd (omega (arith, ordered, first.below to less, last.above to (omega arith) (omega (arith, less, first.most))))
    | inr more ↦ more
  ]

  pub run-placed : (i : ℕ) → i < length listed → run_uses from to i ≡ run_uses start end (slice_index listed i)
  run-placed i l =
      let r = slice_index listed i in
      elim (cases_lt i from) [
        | inl before ↦ omega (arith, run-before from to i before, run-before start end r (first.below i before))
        | inr after ↦ elim (cases_lt i to) [
          | inl inside ↦ omega (arith, run-in from to i after inside, run-in start end r (first.above i after l) (last.below i inside))
          | inr behind ↦ omega (arith, run-behind from to i behind, run-behind start end r (last.above i behind l))
        ]
      ]
