-- Lists of resources and how often each comes.
use Rattle.std.proofs.Common.{◌≡◌, ℕ, ◌+◌, ◌-◌, ◌<◌, ◌≤◌, min, refl, sym, ◌∙◌, ap, arith, inl, inr, List, [], ◌∷◌, ◌++◌, length, take, set}
use Rattle.std.specs.Prelude.{slice_index, if◌then◌else◌, ◌==◌}
use Rattle.std.proofs.lemmas.Bool.{cases_lt}
use Rattle.std.proofs.lemmas.Grind.{common_steps}
use Rattle.std.proofs.lemmas.List.{get_or_append_left, get_or_push, take_more_set, get_or-set_same, get_or-set_other}
use Rattle.std.proofs.lemmas.List.Sums.{sum_by_push, sum_by_more, sum_by_more_le, get_or-le-sum_by}
use Rattle.choice_problem.specs.Loops.{run_uses}
use Rattle.branch_tree.specs.Lists.{times_in, AreWithin, IsRankAt}

-- one where the resource is the other, and none elsewhere
abbrev pub one_at : ℕ → ℕ → ℕ
one_at c r = if c == r then 1 else 0

pub one_at-same : (c : ℕ) → one_at c c ≡ 1
one_at-same c = grind (arith, common_steps)

pub times-push : (list : List ℕ) (c r : ℕ) → times_in (list ++ c ∷ []) r ≡ times_in list r + one_at c r
times-push list c r = sum_by_push (λ d. if d == r then 1 else 0) list c

pub times-more : (list : List ℕ) (k r : ℕ) → k < length list → times_in (take (k + 1) list) r ≡ times_in (take k list) r + one_at (slice_index list k) r
times-more list k r l = sum_by_more (λ d. if d == r then 1 else 0) list k 0 l

pub times-more_le : (list : List ℕ) (k r : ℕ) → k < length list → times_in (take k list) r + one_at (slice_index list k) r ≤ times_in list r
times-more_le list k r l = sum_by_more_le (λ d. if d == r then 1 else 0) list k 0 l

-- what stands in the list comes in it
pub listed-within : (n : ℕ) (list : List ℕ) (k : ℕ) → AreWithin n list → k < length list → slice_index list k < n
listed-within n list k w l =
    w (slice_index list k)
    (omega (arith, get_or-le-sum_by (λ d. if d == slice_index list k then 1 else 0) list k 0 l, one_at-same (slice_index list k)))

-- a run of numbers, one more
pub run-more : (a m r : ℕ) → a ≤ m → run_uses a (m + 1) r ≡ run_uses a m r + one_at m r
run-more a m r l = grind (arith, common_steps)

one_at-other : (c r : ℕ) → (r ≡ c → ⊥) → one_at c r ≡ 0
one_at-other c r n = grind (arith, common_steps)

-- a resource pushed
pub pushed-within : (n : ℕ) (list : List ℕ) (c : ℕ) → c < n → AreWithin n list → AreWithin n (list ++ c ∷ [])
pushed-within n list c l w = λ r h.
    elim (cases_lt 0 (times_in list r)) [
      | inl some ↦ w r some
      | inr none ↦ elim (cases_lt r c) [
        | inl below ↦ omega (arith, l)
        | inr more ↦ elim (cases_lt c r) [
          | inl above ↦ absurd (omega (arith, h, none, times-push list c r, one_at-other c r (λ e. omega (arith, e, above))))
          | inr same ↦ omega (arith, l, more, same)
        ]
      ]
    ]

-- one step of keeping
module _ (old list free counts : List ℕ) (at kept : ℕ) (few : kept ≤ at) (there : at < length old) (same : length list ≡ length old)
    (as_many : length counts ≡ length free) (stands : slice_index list at ≡ slice_index old at) (inside : slice_index old at < length free)
    (kept_is : (r : ℕ) → times_in (take kept list) r ≡ min (times_in (take at old) r) (slice_index free r))
    (taken : (r : ℕ) → r < length free → slice_index free r ≡ slice_index counts r + times_in (take kept list) r) where
  abbrev next : ℕ
  next = slice_index list at

  -- where some are left, one more is kept
  times-kept : (r : ℕ) → times_in (take (kept + 1) (set list kept next)) r ≡ times_in (take kept list) r + one_at next r
  times-kept r =
      let e : take (kept + 1) (set list kept next) ≡ take kept list ++ next ∷ [] = take_more_set list kept next (omega arith) in
      ap (λ xs. times_in xs r) e ∙ times-push (take kept list) next r

  times-read : (r : ℕ) → times_in (take (at + 1) old) r ≡ times_in (take at old) r + one_at next r
  times-read r = times-more old at r there ∙ ap (λ c. times_in (take at old) r + one_at c r) (sym stands)

  pub kept-more : 0 < slice_index counts next → (r : ℕ) →
      times_in (take (kept + 1) (set list kept next)) r ≡ min (times_in (take (at + 1) old) r) (slice_index free r)
  kept-more left r =
      elim (cases_lt (one_at next r) 1) [
        | inl other ↦ omega (arith, times-kept r, times-read r, kept_is r)
        | inr here ↦ elim (cases_lt r next) [
          | inl below ↦ absurd (omega (arith, here, one_at-other next r (λ e. omega arith)))
          | inr more ↦ elim (cases_lt next r) [
            | inl above ↦ absurd (omega (arith, here, one_at-other next r (λ e. omega arith)))
            | inr equal ↦
                let e : r ≡ next = omega arith in
                rw e (omega (arith, times-kept next, times-read next, kept_is next, taken next (omega arith), one_at-same next, left))
          ]
        ]
      ]

  pub kept-same : slice_index counts next ≡ 0 → (r : ℕ) → times_in (take kept list) r ≡ min (times_in (take (at + 1) old) r) (slice_index free r)
  kept-same none r =
      elim (cases_lt (one_at next r) 1) [
        | inl other ↦ omega (arith, times-read r, kept_is r)
        | inr here ↦ elim (cases_lt r next) [
          | inl below ↦ absurd (omega (arith, here, one_at-other next r (λ e. omega arith)))
          | inr more ↦ elim (cases_lt next r) [
            | inl above ↦ absurd (omega (arith, here, one_at-other next r (λ e. omega arith)))
            | inr equal ↦
                let e : r ≡ next = omega arith in
                rw e (omega (arith, times-read next, kept_is next, taken next (omega arith), one_at-same next, none))
          ]
        ]
      ]

  pub taken-more : 0 < slice_index counts next → (r : ℕ) → r < length free →
      slice_index free r ≡ slice_index (set counts next (slice_index counts next - 1)) r + times_in (take (kept + 1) (set list kept next)) r
  taken-more left r l =
      elim (cases_lt r next) [
        | inl below ↦ apart r l (λ e. omega (arith, e, below))
        | inr more ↦ elim (cases_lt next r) [
          | inl above ↦ apart r l (λ e. omega (arith, e, above))
          | inr equal ↦
              let e : r ≡ next = omega arith in
              let here : next < length counts = omega arith in
              let at_next : slice_index (set counts next (slice_index counts next - 1)) next ≡ slice_index counts next - 1 = get_or-set_same counts next (slice_index counts next - 1) 0 here in
              rw e (omega (arith, at_next, times-kept next, taken next (omega arith), one_at-same next, left))
        ]
      ]
    where
      apart : (q : ℕ) → q < length free → (q ≡ next → ⊥) →
          slice_index free q ≡ slice_index (set counts next (slice_index counts next - 1)) q + times_in (take (kept + 1) (set list kept next)) q
      apart q m n =
          let other : slice_index (set counts next (slice_index counts next - 1)) q ≡ slice_index counts q = get_or-set_other counts next q (slice_index counts next - 1) 0 n in
          omega (arith, other, times-kept q, taken q m, one_at-other next q n)

-- nothing comes in an empty list
pub times-empty : (list : List ℕ) (r : ℕ) → length list ≡ 0 → times_in list r ≡ 0
times-empty [] r e = refl
times-empty (c ∷ list) r e = absurd (omega arith)

-- one rank more
pub ranks-push : (listed ranks : List ℕ) (n k : ℕ) → length ranks ≡ n → ((r : ℕ) → r < n → IsRankAt listed r (slice_index ranks r)) →
    IsRankAt listed n k → (r : ℕ) → r < n + 1 → IsRankAt listed r (slice_index (ranks ++ k ∷ []) r)
ranks-push listed ranks n k long before here r l = elim (cases_lt r n) [
  | inl below ↦ rw (get_or_append_left ranks (k ∷ []) 0 r (omega (arith, long, below))) (before r below)
  | inr after ↦ let is : r ≡ n = omega (arith, l, after) in rw (get_or_push ranks k 0 r (omega (arith, long, is))) (rw is here)
]
