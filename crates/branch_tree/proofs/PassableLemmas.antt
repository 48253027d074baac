-- The first of all resources above its limit is the first of those that a walk lists.
use Rattle.std.proofs.Common.{◌≡◌, ℕ, zero, suc, refl, ◌<◌, ◌≤◌, sym, ◌∙◌, ap, arith, inl, inr, ◌⊎◌, List, length}
use Rattle.std.specs.Prelude.{slice_index}
use Rattle.std.proofs.lemmas.Bool.{cases_lt, cases_eq}
use Rattle.std.proofs.Math.Path.{fun_ext}
use Rattle.finite_sums.specs.Sums.{least_within}
use Rattle.finite_sums.proofs.SumLemmas.{sum_below-le, sum_below-same, least_within-le}
use Rattle.choice_problem.specs.Problems.{ProblemView, unit_count, resource_count, alt_uses, limit_of}
use Rattle.choice_problem.specs.Choices.{IsChoice, Fits, IsFirstPassed, load_of}
use Rattle.choice_problem.specs.Bounds.{AreRanges, IsOver, least_load, low_of, high_of}
use Rattle.choice_problem.specs.Splits.{IsFirstOver, least_uses}
use Rattle.dual_bound.specs.Kept.{ListPassable}
use Rattle.branch_tree.specs.Walks.{AreLeast, AreLoadsAt, AreLimitsAt, IsFirstListed, AreWithinListed, AreWithinPlaces}

-- where a resource stands in the list
record IsListed (list : List ℕ) (n r : ℕ) : Type 0 where
  place : ℕ
  there : place < n
  is : slice_index list place ≡ r

listed : (list : List ℕ) (n r : ℕ) → IsListed list n r ⊎ ((i : ℕ) → i < n → slice_index list i ≡ r → ⊥)
listed list zero r = inr (λ i l e. omega (arith, l))
listed list (suc n) r = elim (listed list n r) [
  | inl found ↦ inl (record { place = found.place; there = omega (arith, found.there); is = found.is })
  | inr none ↦ elim (cases_eq (slice_index list n) r) [
    | inl here ↦ inl (record { place = n; there = omega arith; is = here })
    | inr other ↦ inr (λ i l e. elim (cases_lt i n) [
      | inl below ↦ none i below e
      | inr last ↦ let same : i ≡ n = omega (arith, l, last) in other (ap (λ k. slice_index list k) (sym same) ∙ e)
    ])
  ]
]

-- a lower resource is listed that has the same count and the same limit
record HasListedSame (p : ProblemView) (counts : ℕ → ℕ) (list : List ℕ) (r : ℕ) : Type 0 where
  place : ℕ
  there : place < length list
  lower : slice_index list place < r
  limit : limit_of p (slice_index list place) ≡ limit_of p r
  count : counts (slice_index list place) ≡ counts r

-- each resource that is not listed is within its limit, or has a lower one of the same count and limit in the list
abbrev AreOthersLow : ProblemView → (ℕ → ℕ) → List ℕ → Type 0
AreOthersLow p counts list = (r : ℕ) → r < resource_count p → ((i : ℕ) → i < length list → slice_index list i ≡ r → ⊥) →
    (counts r ≤ limit_of p r) ⊎ HasListedSame p counts list r

-- counts of which those of the listed resources tell whether others are above their limits
module _ (p : ProblemView) (counts : ℕ → ℕ) (list : List ℕ) (h : ListPassable p list) (low : AreOthersLow p counts list) where
  listed-below : (r place : ℕ) → IsFirstListed p counts list r → place < length list → slice_index list place < r →
      counts (slice_index list place) ≤ limit_of p (slice_index list place)
  listed-below r place f there l = elim (cases_lt place f.place) [
    | inl before ↦ f.first place before
    | inr after ↦ elim (cases_eq f.place place) [
      | inl same ↦ absurd (omega (arith, l, f.is, ap (λ k. slice_index list k) same))
      | inr other ↦ absurd (omega (arith, l, f.is, h.rising f.place place (omega (arith, after, other)) there))
    ]
  ]

  below-first : (r q : ℕ) → IsFirstListed p counts list r → q < r → counts q ≤ limit_of p q
  below-first r q f l = elim (listed list (length list) q) [
    | inl found ↦
        let c : counts (slice_index list found.place) ≤ limit_of p (slice_index list found.place) =
        listed-below r found.place f found.there (omega (arith, l, found.is)) in
        rw found.is at c
    | inr none ↦ elim (low q (omega (arith, l, f.is, h.there f.place f.there)) none) [
      | inl within ↦ within
      | inr same ↦ omega (arith, same.limit, same.count, listed-below r same.place f same.there (omega (arith, l, same.lower)))
    ]
  ]

  all-within : AreWithinListed p counts list (length list) → (r : ℕ) → r < resource_count p → counts r ≤ limit_of p r
  all-within w r l = elim (listed list (length list) r) [
    | inl found ↦ let c : counts (slice_index list found.place) ≤ limit_of p (slice_index list found.place) = w found.place found.there in rw found.is at c
    | inr none ↦ elim (low r l none) [
      | inl within ↦ within
      | inr same ↦ omega (arith, same.limit, same.count, w same.place same.there)
    ]
  ]

-- counts that stand by places, beside the limits
module _ (p : ProblemView) (load : ℕ → ℕ) (list : List ℕ) (h : ListPassable p list)
    (low : AreOthersLow p load list)
    (counts limits : List ℕ) (a : (i : ℕ) → i < length list → slice_index counts i ≡ load (slice_index list i)) (b : AreLimitsAt p list limits) where
  within-listed : (n : ℕ) → n ≤ length list → AreWithinPlaces counts limits n → AreWithinListed p load list n
  within-listed n few w = λ i l. omega (arith, w i l, a i (omega (arith, l, few)), b i (omega (arith, l, few)))

  below-place : (place : ℕ) → place < length list → slice_index limits place < slice_index counts place → AreWithinPlaces counts limits place →
      (q : ℕ) → q < slice_index list place → load q ≤ limit_of p q
  below-place place there above w q l =
      let f : IsFirstListed p load list (slice_index list place) = record {
        place = place;
        there = there;
        is = refl;
        above = omega (arith, above, a place there, b place there);
        first = within-listed place (omega (arith, there)) w;
      } in
      below-first p load list h low (slice_index list place) q f l

  all-below : AreWithinPlaces counts limits (length list) → (r : ℕ) → r < resource_count p → load r ≤ limit_of p r
  all-below w r l = all-within p load list h low (within-listed (length list) (omega arith) w) r l

-- least loads
module _ (p : ProblemView) (ranges : List (ℕ × ℕ)) (list : List ℕ) (v : AreRanges p ranges) (h : ListPassable p list) where
  abbrev least_at : ℕ → ℕ
  least_at r = least_load p ranges r

  least-same : (q r : ℕ) → ((u a : ℕ) → alt_uses p u a q ≡ alt_uses p u a r) → least_at q ≡ least_at r
  least-same q r same = sum_below-same (unit_count p) (λ u. least_uses p ranges u q) (λ u. least_uses p ranges u r)
      (λ u _. ap (λ f. least_within (low_of ranges u) (high_of ranges u) f) (fun_ext (same u)))

  least-low : AreOthersLow p (λ r. least_at r) list
  least-low r l none = elim (h.rest r l none) [
    | inl never ↦
        let most = never (λ u. low_of ranges u) (λ u m. omega (arith, v.ordered u m, v.there u m)) in
        let fewer = sum_below-le (unit_count p) (λ u. least_uses p ranges u r) (λ u. alt_uses p u (low_of ranges u) r)
        (λ u m. least_within-le (low_of ranges u) (high_of ranges u) (low_of ranges u) (λ b. alt_uses p u b r) (omega arith) (v.ordered u m)) in
        inl (omega (arith, most, fewer))
    | inr equal ↦ inr (record {
      place = equal.place;
      there = equal.there;
      lower = equal.lower;
      limit = equal.limit;
      count = least-same (slice_index list equal.place) r equal.uses;
    })
  ]

  module _ (least limits : List ℕ) (a : AreLeast p ranges list least) (b : AreLimitsAt p list limits) where
    pub first_place-IsFirstOver : (place : ℕ) → place < length list → slice_index limits place < slice_index least place →
        AreWithinPlaces least limits place → IsFirstOver p ranges (slice_index list place)
    first_place-IsFirstOver place there above w = record {
      there = h.there place there;
      over = omega (arith, above, a place there, b place there);
      first = λ q l o. omega (arith, o, below-place p (λ r. least_at r) list h least-low least limits a b place there above w q l);
    }

    pub none_listed-none_over : AreWithinPlaces least limits (length list) → (r : ℕ) → r < resource_count p → IsOver p ranges r → ⊥
    none_listed-none_over w r l o = omega (arith, o, all-below p (λ q. least_at q) list h least-low least limits a b w r l)

-- loads of a choice
module _ (p : ProblemView) (x list : List ℕ) (c : IsChoice p x) (h : ListPassable p list) where
  loads-same : (q r : ℕ) → ((u a : ℕ) → alt_uses p u a q ≡ alt_uses p u a r) → load_of p x q ≡ load_of p x r
  loads-same q r same = sum_below-same (unit_count p) (λ u. alt_uses p u (slice_index x u) q) (λ u. alt_uses p u (slice_index x u) r)
      (λ u _. same u (slice_index x u))

  loads-low : AreOthersLow p (λ r. load_of p x r) list
  loads-low r l none = elim (h.rest r l none) [
    | inl never ↦ inl (never (λ u. slice_index x u) c.there)
    | inr equal ↦ inr (record {
      place = equal.place;
      there = equal.there;
      lower = equal.lower;
      limit = equal.limit;
      count = loads-same (slice_index list equal.place) r equal.uses;
    })
  ]

  module _ (loads limits : List ℕ) (a : AreLoadsAt p x list loads) (b : AreLimitsAt p list limits) where
    pub first_place-IsFirstPassed : (place : ℕ) → place < length list → slice_index limits place < slice_index loads place →
        AreWithinPlaces loads limits place → IsFirstPassed p x (slice_index list place)
    first_place-IsFirstPassed place there above w = record {
      there = h.there place there;
      passed = omega (arith, above, a place there, b place there);
      first = λ q l. below-place p (λ r. load_of p x r) list h loads-low loads limits a b place there above w q l;
    }

    pub none_listed-Fits : AreWithinPlaces loads limits (length list) → Fits p x
    none_listed-Fits w = λ r l. all-below p (λ q. load_of p x q) list h loads-low loads limits a b w r l
