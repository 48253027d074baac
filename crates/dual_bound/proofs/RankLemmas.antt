-- Ranks of resources, and what is made by them.
use Rattle.std.proofs.Common.{◌≡◌, ℕ, zero, suc, ◌+◌, ◌<◌, ◌≤◌, ◌^◌, refl, sym, ◌∙◌, arith, List, [], ◌∷◌, ◌++◌, length, pos, inl, inr, Option, Some, None}
use Rattle.std.specs.Prelude.{slice_index, slice_index_or, ℤ, ◌≤ℤ◌, All}
use Rattle.std.specs.Option.{ForSome}
use Rattle.std.proofs.lemmas.Grind.{common_steps}
use Rattle.std.proofs.lemmas.Int.{ints}
use Rattle.std.proofs.lemmas.Bool.{cases_lt}
use Rattle.std.proofs.lemmas.List.{length-append, get_or_append_left, get_or_push}
use Rattle.std.proofs.lemmas.List.Elements.{All-push}
use Rattle.choice_problem.specs.declared.strips.Strip.{Strip}
use Rattle.choice_problem.specs.Strips.{part_uses, IsPartInRange}
use Rattle.choice_problem.specs.Loops.{run_uses}
use Rattle.choice_problem.specs.Problems.{ProblemView, ChooserView, IsChooser, ArePartsInRange, alt_at, part_at, named_uses, resource_count, limit_of}
use Rattle.dual_bound.specs.Kept.{AreRanks, IsKept, kept_count, IsUnitOnKept}

-- ranks never fall
pub rank-le : (n : ℕ) (ranks : List ℕ) (a b : ℕ) → AreRanks n ranks → a ≤ b → b ≤ n → slice_index ranks a ≤ slice_index ranks b
rank-le n ranks a zero h l m = let e : a ≡ 0 = omega arith in rw e (omega arith)
rank-le n ranks a (suc b) h l m = elim (cases_lt a (suc b)) [
  | inl below ↦
      let e : b + 1 ≡ suc b = omega arith in
      omega (arith, rank-le n ranks a b h (omega arith) (omega arith), rw e at (h.rises b (omega arith)))
  | inr last ↦ let e : a ≡ suc b = omega arith in rw e (omega arith)
]

pub rank-small : (n : ℕ) (ranks : List ℕ) (m : ℕ) → AreRanks n ranks → m ≤ n → slice_index ranks m ≤ m
rank-small n ranks zero h l = omega (arith, h.first)
rank-small n ranks (suc m) h l =
    let e : m + 1 ≡ suc m = omega arith in
    omega (arith, rank-small n ranks m h (omega arith), rw e at (h.by_one m (omega arith)))

in_run : (a b r : ℕ) → a ≤ r → r < b → run_uses a b r ≡ 1
in_run a b r l m = grind (arith, common_steps)

before_run : (a b r : ℕ) → r < a → run_uses a b r ≡ 0
before_run a b r l = grind (arith, common_steps)

after_run : (a b r : ℕ) → b ≤ r → run_uses a b r ≡ 0
after_run a b r l = grind (arith, common_steps)

-- a kept resource lies in a run where its rank lies between the ranks of the run's ends
pub run_uses-kept : (n : ℕ) (ranks : List ℕ) (start end r : ℕ) → AreRanks n ranks → r < n → IsKept ranks r → start ≤ n → end ≤ n →
    run_uses (slice_index ranks start) (slice_index ranks end) (slice_index ranks r) ≡ run_uses start end r
run_uses-kept n ranks start end r h l k s e = elim (cases_lt r start) [
  | inl before ↦
      before_run (slice_index ranks start) (slice_index ranks end) (slice_index ranks r) (omega (arith, k, rank-le n ranks (r + 1) start h (omega arith) s))
      ∙ sym (before_run start end r before)
  | inr from ↦ elim (cases_lt r end) [
    | inl within ↦
        in_run (slice_index ranks start) (slice_index ranks end) (slice_index ranks r) (rank-le n ranks start r h from (omega arith))
        (omega (arith, k, rank-le n ranks (r + 1) end h (omega arith) e))
        ∙ sym (in_run start end r from within)
    | inr after ↦
        after_run (slice_index ranks start) (slice_index ranks end) (slice_index ranks r) (rank-le n ranks end r h after (omega arith))
        ∙ sym (after_run start end r after)
  ]
]

-- the kept resource of a rank
record HasRank (ranks : List ℕ) (m j : ℕ) : Type 0 where
  resource : ℕ
  there : resource < m
  kept : IsKept ranks resource
  rank : slice_index ranks resource ≡ j

rank-there : (n : ℕ) (ranks : List ℕ) (m j : ℕ) → AreRanks n ranks → m ≤ n → j < slice_index ranks m → HasRank ranks m j
rank-there n ranks zero j h l b = absurd (omega (arith, h.first))
rank-there n ranks (suc m) j h l b =
    let e : m + 1 ≡ suc m = omega arith in
    let by_one : slice_index ranks (suc m) ≤ slice_index ranks m + 1 = rw e at (h.by_one m (omega arith)) in
    elim (cases_lt j (slice_index ranks m)) [
      | inl below ↦
          let found = rank-there n ranks m j h (omega arith) below in
          record { resource = found.resource; there = omega (arith, found.there); kept = found.kept; rank = found.rank }
      | inr last ↦ record { resource = m; there = omega arith; kept = rw e (omega (arith, last, b)); rank = omega (arith, last, b, by_one) }
    ]

-- a unit on the kept resources keeps the limits on units
pub IsChooser-kept : (p : ProblemView) (ranks : List ℕ) (m k : ChooserView) → AreRanks (resource_count p) ranks → IsChooser m → IsUnitOnKept p ranks m k →
    ArePartsInRange (kept_count p ranks) k → ((strips : List Strip) (resources r : ℕ) → IsPartInRange resources strips → resources ≤ r → part_uses strips r ≡ 0) →
    IsChooser k
IsChooser-kept p ranks m k h v o there beyond = record {
  some = rw (← o.alts) at v.some;
  few_alts = rw (← o.alts) at v.few_alts;
  few_parts = omega (arith, o.parts, v.few_parts);
  cost = λ a l. rw o.alts (v.cost a (rw o.alts at l));
  one = λ a l. rw (o.alts, o.parts) (v.one a (rw o.alts at l));
  two = λ a l. rw (o.alts, o.parts) (v.two a (rw o.alts at l));
  uses = λ a j l. elim (cases_lt j (kept_count p ranks)) [
    | inl within ↦
        let found = rank-there (resource_count p) ranks (resource_count p) j h (omega arith) within in
        let there' : a < length m.alts = rw o.alts at l in
        let one = named_is (alt_at m a).one found.resource found.there found.kept (v.one a there') in
        let two = named_is (alt_at m a).two found.resource found.there found.kept (v.two a there') in
        rw (o.alts, ← found.rank, one, two) (v.uses a found.resource there')
    | inr past ↦ let there' : a < length m.alts = rw o.alts at l in
        rw (o.alts, none_of (alt_at m a).one j past (v.one a there'), none_of (alt_at m a).two j past (v.two a there')) (omega arith)
  ];
}
  where
    named_is : (named : Option ℕ) (r : ℕ) → r < resource_count p → IsKept ranks r → ForSome named (λ n. n < length m.parts) →
        named_uses k named (slice_index ranks r) ≡ named_uses m named r
    named_is None r l b f = refl
    named_is (Some n) r l b f = o.uses n (f n refl) r l b

    none_of : (named : Option ℕ) (j : ℕ) → kept_count p ranks ≤ j → ForSome named (λ n. n < length m.parts) → named_uses k named j ≡ 0
    none_of None j l f = refl
    none_of (Some n) j l f = beyond (part_at k n) (kept_count p ranks) j (there n [] (omega (arith, f n refl, o.parts))) l

-- limits of the kept ones of the first resources
pub record AreLimitsTo (p : ProblemView) (ranks : List ℕ) (n : ℕ) (limits : List ℤ) : Type 0 where
  pub count : length limits ≡ slice_index ranks n
  pub each : (r : ℕ) → r < n → IsKept ranks r → slice_index_or limits (slice_index ranks r) (pos 0) ≡ pos (limit_of p r)
  pub limits_from : All (λ z. pos 0 ≤ℤ z) limits
  pub limits_to : All (λ z. z ≤ℤ pos 999999) limits

pub AreLimitsTo-push : (p : ProblemView) (ranks : List ℕ) (n : ℕ) (limits : List ℤ) (limit : ℤ) → AreRanks (resource_count p) ranks → n < resource_count p → IsKept ranks n →
    limit ≡ pos (limit_of p n) → limit_of p n ≤ 999999 → AreLimitsTo p ranks n limits → AreLimitsTo p ranks (n + 1) (limits ++ limit ∷ [])
AreLimitsTo-push p ranks n limits limit h l k e small a = record {
  count = omega (arith, length-append limits (limit ∷ []), a.count, h.by_one n l, k);
  each = λ r m b. elim (cases_lt r n) [
    | inl below ↦
        let within : slice_index ranks r < length limits = omega (arith, a.count, b, rank-le (resource_count p) ranks (r + 1) n h (omega arith) (omega arith)) in
        get_or_append_left limits (limit ∷ []) (pos 0) (slice_index ranks r) within ∙ a.each r below b
    | inr last ↦
        let same : n ≡ r = omega arith in
        rw (← same) (get_or_push limits limit (pos 0) (slice_index ranks n) a.count ∙ e)
  ];
  limits_from = All-push (λ z. pos 0 ≤ℤ z) limits limit a.limits_from (rw e (omega (arith, ints)));
  limits_to = All-push (λ z. z ≤ℤ pos 999999) limits limit a.limits_to (rw e (omega (arith, ints, small)));
}

pub AreLimitsTo-same : (p : ProblemView) (ranks : List ℕ) (n : ℕ) (limits : List ℤ) → AreRanks (resource_count p) ranks → n < resource_count p →
    slice_index ranks (n + 1) ≤ slice_index ranks n → AreLimitsTo p ranks n limits → AreLimitsTo p ranks (n + 1) limits
AreLimitsTo-same p ranks n limits h l k a = record {
  count = omega (arith, a.count, h.rises n l, k);
  each = λ r m b. elim (cases_lt r n) [
    | inl below ↦ a.each r below b
    | inr last ↦ let same : n ≡ r = omega arith in absurd (omega (arith, rw (← same) at b, k))
  ];
  limits_from = a.limits_from;
  limits_to = a.limits_to;
}

-- ranks of the first resources by counts, of which those that are not kept have counts within their limits
pub record AreRanksTo (p : ProblemView) (counts : List ℕ) (n : ℕ) (ranks : List ℕ) (rank : ℕ) : Type 0 where
  pub ranks_are : AreRanks n ranks
  pub rest : (r : ℕ) → r < n → slice_index ranks (r + 1) ≤ slice_index ranks r → slice_index counts r ≤ limit_of p r
  pub small : (r : ℕ) → r < n → limit_of p r < 2 ^ 20
  pub last : slice_index ranks n ≡ rank
  pub few : rank ≤ n

pub AreRanksTo-none : (p : ProblemView) (counts : List ℕ) → AreRanksTo p counts 0 (0 ∷ []) 0
AreRanksTo-none p counts = record {
  ranks_are = record { count = refl; first = refl; rises = λ r l. absurd (omega arith); by_one = λ r l. absurd (omega arith) };
  rest = λ r l. absurd (omega arith);
  small = λ r l. absurd (omega arith);
  last = refl;
  few = omega arith;
}

pub AreRanksTo-more : (p : ProblemView) (counts : List ℕ) (n : ℕ) (ranks : List ℕ) (rank next : ℕ) → AreRanksTo p counts n ranks rank → limit_of p n < 2 ^ 20 →
    rank ≤ next → next ≤ rank + 1 → (next ≤ rank → slice_index counts n ≤ limit_of p n) → AreRanksTo p counts (n + 1) (ranks ++ next ∷ []) next
AreRanksTo-more p counts n ranks rank next a small from to rest = record {
  ranks_are = record {
    count = omega (arith, length-append ranks (next ∷ []), a.ranks_are.count);
    first = before 0 (omega arith) ∙ a.ranks_are.first;
    rises = λ r l. elim (cases_lt r n) [
      | inl below ↦ rw (before r (omega arith), before (r + 1) (omega arith)) (a.ranks_are.rises r below)
      | inr last ↦ let e : n ≡ r = omega arith in rw (← e, before n (omega arith), new, a.last) from
    ];
    by_one = λ r l. elim (cases_lt r n) [
      | inl below ↦ rw (before r (omega arith), before (r + 1) (omega arith)) (a.ranks_are.by_one r below)
      | inr last ↦ let e : n ≡ r = omega arith in rw (← e, before n (omega arith), new, a.last) to
    ];
  };
  rest = λ r l b. elim (cases_lt r n) [
    | inl below ↦ a.rest r below (rw (before r (omega arith), before (r + 1) (omega arith)) at b)
    | inr last ↦ let e : n ≡ r = omega arith in rw (← e) (rest (rw (← e, before n (omega arith), new, a.last) at b))
  ];
  small = λ r l. elim (cases_lt r n) [
    | inl below ↦ a.small r below
    | inr last ↦ let e : n ≡ r = omega arith in rw (← e) small
  ];
  last = new;
  few = omega (arith, a.few, to);
}
  where
    before : (r : ℕ) → r ≤ n → slice_index (ranks ++ next ∷ []) r ≡ slice_index ranks r
    before r l = get_or_append_left ranks (next ∷ []) 0 r (omega (arith, a.ranks_are.count))

    new : slice_index (ranks ++ next ∷ []) (n + 1) ≡ next
    new = get_or_push ranks next 0 (n + 1) a.ranks_are.count
