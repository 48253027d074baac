-- What a walk keeps, and how it changes with one unit's range.
use Rattle.std.proofs.Common.{◌≡◌, ℕ, ◌+◌, ◌*◌, ◌<◌, ◌≤◌, sym, ◌∙◌, ap, subst, arith, inl, inr, ◌⊎◌, List, [], ◌∷◌, ◌++◌, length, take, drop, Some, None, set}
use Rattle.std.proofs.Math.Seq.{take-append_seam}
use Rattle.std.specs.Prelude.{slice_index, slice_index_or, slice_set}
use Rattle.std.proofs.lemmas.Bool.{cases_lt}
use Rattle.std.proofs.lemmas.Int.{ints}
use Rattle.std.proofs.lemmas.List.{get_or-set_same, get_or-set_other, length-set, length-append, get_or_append_left, get_or_push}
use Rattle.finite_sums.specs.Sums.{least_within, IsFirstLeast}
use Rattle.choice_problem.specs.Problems.{ProblemView, IsChooser, unit_count, alt_count, chooser_at, alt_cost, alt_uses}
use Rattle.choice_problem.specs.Choices.{IsChoice, choice_cost, load_of}
use Rattle.choice_problem.specs.Bounds.{AreRanges, Closes, low_of, high_of, least_load, least_total, priced_cost}
use Rattle.choice_problem.specs.Splits.{IsCheapest, IsFirstCheapest, least_uses}
use Rattle.finite_sums.proofs.SumLemmas.{sum_below-same, least_within-le, least_within-ge}
use Rattle.finite_sums.proofs.ChangeLemmas.{sum_below-change, sum_below-const, term-le}
use Rattle.branch_tree.specs.Lists.{times_in, AreWithin}
use Rattle.branch_tree.specs.Walks.{IsKept, AreLists}

-- the first cheapest alternatives cost what is least in range
least-cheapest : (p : ProblemView) (ranges : List (ℕ × ℕ)) (u a : ℕ) → low_of ranges u ≤ high_of ranges u → IsFirstCheapest p ranges u a →
    least_within (low_of ranges u) (high_of ranges u) (λ b. priced_cost p [] 1 u b) ≡ alt_cost p u a
least-cheapest p ranges u a l h =
    let below = least_within-le (low_of ranges u) (high_of ranges u) a (λ b. priced_cost p [] 1 u b) h.from h.to in
    let above = least_within-ge (low_of ranges u) (high_of ranges u) (alt_cost p u a) (λ b. priced_cost p [] 1 u b) l (λ b m n. omega (arith, h.least b m n)) in
    omega (arith, below, above)

least_total-cheapest : (p : ProblemView) (ranges : List (ℕ × ℕ)) (x : List ℕ) → AreRanges p ranges → IsCheapest p ranges x →
    least_total p ranges [] 1 ≡ choice_cost p x
least_total-cheapest p ranges x r h =
    sum_below-same (unit_count p) (λ u. least_within (low_of ranges u) (high_of ranges u) (λ b. priced_cost p [] 1 u b)) (λ u. alt_cost p u (slice_index x u))
    (λ u l. least-cheapest p ranges u (slice_index x u) (r.ordered u l) (h.each u l))

-- vector 0 closes exactly where they cost as much as what was seen
pub zero-closes : (p : ProblemView) (ranges : List (ℕ × ℕ)) (x : List ℕ) (seen : ℕ) → AreRanges p ranges → IsCheapest p ranges x →
    seen ≤ choice_cost p x → Closes p ranges [] 1 (Some seen)
zero-closes p ranges x seen r h l = omega (arith, ints, least_total-cheapest p ranges x r h, l)

pub closes-zero : (p : ProblemView) (ranges : List (ℕ × ℕ)) (x : List ℕ) (seen : ℕ) → AreRanges p ranges → IsCheapest p ranges x →
    Closes p ranges [] 1 (Some seen) → seen ≤ choice_cost p x
closes-zero p ranges x seen r h c = omega (arith, ints, least_total-cheapest p ranges x r h, c)

pub closes-none : (p : ProblemView) (ranges : List (ℕ × ℕ)) → Closes p ranges [] 1 None → ⊥
closes-none p ranges c = let h : 1 ≡ 0 = c.0 in omega (arith, h)

-- loads stay small
pub load-small : (p : ProblemView) (x : List ℕ) (r : ℕ) → ((u : ℕ) → u < unit_count p → IsChooser (chooser_at p u)) → IsChoice p x → load_of p x r ≤ unit_count p * 434
load-small p x r units c = sum_below-const (unit_count p) 434 (λ u. alt_uses p u (slice_index x u) r) (λ u l. (units u l).uses (slice_index x u) r (c.there u l))

pub least-small : (p : ProblemView) (ranges : List (ℕ × ℕ)) (r : ℕ) → ((u : ℕ) → u < unit_count p → IsChooser (chooser_at p u)) → AreRanges p ranges →
    least_load p ranges r ≤ unit_count p * 434
least-small p ranges r units v = sum_below-const (unit_count p) 434 (λ u. least_uses p ranges u r)
    (λ u l. omega (
      arith,
      least_within-le (low_of ranges u) (high_of ranges u) (low_of ranges u) (λ a. alt_uses p u a r) (omega arith) (v.ordered u l),
      (units u l).uses (low_of ranges u) r (omega (arith, v.ordered u l, v.there u l)),
    ))

pub cost-small : (p : ProblemView) (x : List ℕ) → ((u : ℕ) → u < unit_count p → IsChooser (chooser_at p u)) → IsChoice p x → choice_cost p x ≤ unit_count p * 16777216
cost-small p x units c = sum_below-const (unit_count p) 16777216 (λ u. alt_cost p u (slice_index x u)) (λ u l. omega (arith, (units u l).cost (slice_index x u) (c.there u l)))

-- what a slice of a vector leaves in it
pub written-back : {X : Type 0} (new items : List X) (n : ℕ) → length new ≡ n → take n (new ++ drop (length new) items) ≡ new
written-back new items n e = rw (← e) (take-append_seam new (drop (length new) items))

-- one more list
pub lists-pushed : (p : ProblemView) (ranges : List (ℕ × ℕ)) (listed : List ℕ) (n : ℕ) (lists : List (List ℕ)) (list : List ℕ) → AreLists p ranges listed n lists →
    ((i : ℕ) → i < length listed → times_in list i ≡ least_uses p ranges n (slice_index listed i)) → AreWithin (length listed) list →
    AreLists p ranges listed (n + 1) (lists ++ list ∷ [])
lists-pushed p ranges listed n lists list h e w = record {
  count = omega (arith, length-append lists (list ∷ []), h.count);
  each = λ u i l m. elim (cases_lt u n) [
    | inl before ↦ rw (get_or_append_left lists (list ∷ []) [] u (omega (arith, before, h.count))) (h.each u i before m)
    | inr none ↦
        let same : u ≡ n = omega (arith, l, none) in
        rw (same, get_or_push lists list [] n h.count) (e i m)
  ];
  within = λ u l. elim (cases_lt u n) [
    | inl before ↦ rw (get_or_append_left lists (list ∷ []) [] u (omega (arith, before, h.count))) (h.within u before)
    | inr none ↦
        let same : u ≡ n = omega (arith, l, none) in
        rw (same, get_or_push lists list [] n h.count) w
  ];
}

-- what a walk keeps has room, and holds what one unit adds to it
module _ (p : ProblemView) (ranges : List (ℕ × ℕ)) (alts : List ℕ) (cost : ℕ) (loads least zeros listed : List ℕ) (k : IsKept p ranges alts cost loads least zeros listed) where
  pub least-few : (r : ℕ) → r < length least → slice_index least r < 2147483648
  least-few r l =
      let there : r < length listed = omega (arith, l, k.least_count) in
      omega (arith, k.least_are r there, least-small p ranges (slice_index listed r) k.units k.valid, k.few_units)

  pub loads-room : (i : ℕ) → i < length loads → slice_index loads i < 2147483648
  loads-room i l =
      let there : i < length listed = omega (arith, l, k.loads_count) in
      omega (arith, k.loads_are i there, load-small p alts (slice_index listed i) k.units k.choice, k.few_units)

  module _ (u : ℕ) (l : u < unit_count p) where
    pub least-has : (i : ℕ) → i < length listed → least_uses p ranges u (slice_index listed i) ≤ slice_index least i
    least-has i m = omega (arith, k.least_are i m, term-le (unit_count p) u (λ v. least_uses p ranges v (slice_index listed i)) l)

    pub loads-have : (i : ℕ) → i < length listed → alt_uses p u (slice_index alts u) (slice_index listed i) ≤ slice_index loads i
    loads-have i m = omega (arith, k.loads_are i m, term-le (unit_count p) u (λ v. alt_uses p v (slice_index alts v) (slice_index listed i)) l)

    pub cost-has : alt_cost p u (slice_index alts u) ≤ cost
    cost-has = omega (arith, k.cost_is, term-le (unit_count p) u (λ v. alt_cost p v (slice_index alts v)) l)

    pub cost-few : cost ≤ 68719476736
    cost-few = omega (arith, k.cost_is, cost-small p alts k.units k.choice, k.few_units)

    -- with another range of the unit
    module _ (low high a : ℕ) (ordered : low ≤ high) (there : high < alt_count p u) (first : IsFirstLeast low high (λ b. alt_cost p u b) a) where
      abbrev spans : List (ℕ × ℕ)
      spans = set ranges u (low, high)

      abbrev chosen : List ℕ
      chosen = set alts u a

      span-same : slice_index_or spans u (0, 0) ≡ (low, high)
      span-same = get_or-set_same ranges u (low, high) (0, 0) (omega (arith, k.valid.length, l))

      span-other : (v : ℕ) → (v ≡ u → ⊥) → slice_index_or spans v (0, 0) ≡ slice_index_or ranges v (0, 0)
      span-other v ne = get_or-set_other ranges u v (low, high) (0, 0) ne

      alt-same : slice_index chosen u ≡ a
      alt-same = get_or-set_same alts u a 0 (omega (arith, k.cheapest.length, l))

      alt-other : (v : ℕ) → (v ≡ u → ⊥) → slice_index chosen v ≡ slice_index alts v
      alt-other v ne = get_or-set_other alts u v a 0 ne

      apart : (v : ℕ) → (v ≡ u) ⊎ (v ≡ u → ⊥)
      apart v = elim (cases_lt v u) [
        | inl below ↦ inr (λ e. omega (arith, e, below))
        | inr more ↦ elim (cases_lt u v) [
          | inl above ↦ inr (λ e. omega (arith, e, above))
          | inr same ↦ inl (omega arith)
        ]
      ]

      cheapest-moved : IsCheapest p spans chosen
      cheapest-moved = record {
        length = length-set alts u a ∙ k.cheapest.length;
        each = λ v m. elim (apart v) [
          | inl e ↦ subst (λ (w : ℕ). IsFirstCheapest p spans w (slice_index chosen w)) (sym e)
              (subst (λ (b : ℕ). IsFirstCheapest p spans u b) (sym alt-same)
              (subst (λ (s : ℕ × ℕ). IsFirstLeast s.0 s.1 (λ b. alt_cost p u b) a) (sym span-same) first))
          | inr ne ↦ subst (λ (b : ℕ). IsFirstCheapest p spans v b) (sym (alt-other v ne))
              (subst (λ (s : ℕ × ℕ). IsFirstLeast s.0 s.1 (λ b. alt_cost p v b) (slice_index alts v)) (sym (span-other v ne)) (k.cheapest.each v m))
        ];
      }

      choice-moved : IsChoice p chosen
      choice-moved = record {
        length = length-set alts u a ∙ k.choice.length;
        there = λ v m. elim (apart v) [
          | inl e ↦ rw (e, alt-same) (omega (arith, first.to, there))
          | inr ne ↦ rw (alt-other v ne) (k.choice.there v m)
        ];
      }

      cost-moved : choice_cost p chosen + alt_cost p u (slice_index alts u) ≡ choice_cost p alts + alt_cost p u a
      cost-moved =
          let same : alt_cost p u (slice_index chosen u) ≡ alt_cost p u a = ap (λ b. alt_cost p u b) alt-same in
          omega (
            arith,
            same,
            sum_below-change (unit_count p) u (λ v. alt_cost p v (slice_index chosen v)) (λ v. alt_cost p v (slice_index alts v)) l
                (λ v m ne. ap (λ b. alt_cost p v b) (alt-other v ne)),
          )

      load-moved : (r : ℕ) → load_of p chosen r + alt_uses p u (slice_index alts u) r ≡ load_of p alts r + alt_uses p u a r
      load-moved r =
          let same : alt_uses p u (slice_index chosen u) r ≡ alt_uses p u a r = ap (λ b. alt_uses p u b r) alt-same in
          omega (
            arith,
            same,
            sum_below-change (unit_count p) u (λ v. alt_uses p v (slice_index chosen v) r) (λ v. alt_uses p v (slice_index alts v) r) l
                (λ v m ne. ap (λ b. alt_uses p v b r) (alt-other v ne)),
          )

      least-moved : (r : ℕ) → least_load p spans r + least_uses p ranges u r ≡ least_load p ranges r + least_within low high (λ b. alt_uses p u b r)
      least-moved r =
          let same : least_uses p spans u r ≡ least_within low high (λ b. alt_uses p u b r) =
          ap (λ (s : ℕ × ℕ). least_within s.0 s.1 (λ b. alt_uses p u b r)) span-same in
          omega (
            arith,
            same,
            sum_below-change (unit_count p) u (λ v. least_uses p spans v r) (λ v. least_uses p ranges v r) l
                (λ v m ne. ap (λ (s : ℕ × ℕ). least_within s.0 s.1 (λ b. alt_uses p v b r)) (span-other v ne)),
          )

      pub lists-moved : (lists : List (List ℕ)) (now : List ℕ) → AreLists p ranges listed (unit_count p) lists →
          ((i : ℕ) → i < length listed → times_in now i ≡ least_within low high (λ b. alt_uses p u b (slice_index listed i))) → AreWithin (length listed) now →
          AreLists p (slice_set ranges u (low, high)) listed (unit_count p) (slice_set lists u now)
      lists-moved lists now h e w =
          let there : u < length lists = omega (arith, l, h.count) in
          record {
            count = length-set lists u now ∙ h.count;
            each = λ v i m n. elim (apart v) [
              | inl same ↦
                  let used : least_uses p spans u (slice_index listed i) ≡ least_within low high (λ b. alt_uses p u b (slice_index listed i)) =
                  ap (λ (s : ℕ × ℕ). least_within s.0 s.1 (λ b. alt_uses p u b (slice_index listed i))) span-same in
                  rw (same, get_or-set_same lists u now [] there) (e i n ∙ sym used)
              | inr ne ↦
                  let used : least_uses p spans v (slice_index listed i) ≡ least_uses p ranges v (slice_index listed i) =
                  ap (λ (s : ℕ × ℕ). least_within s.0 s.1 (λ b. alt_uses p v b (slice_index listed i))) (span-other v ne) in
                  rw (get_or-set_other lists u v now [] ne) (h.each v i m n ∙ sym used)
            ];
            within = λ v m. elim (apart v) [
              | inl same ↦ rw (same, get_or-set_same lists u now [] there) w
              | inr ne ↦ rw (get_or-set_other lists u v now [] ne) (h.within v m)
            ];
          }

      pub IsKept-moved : AreRanges p (slice_set ranges u (low, high)) → (more : ℕ) (uses fewest was now : List ℕ) → more + alt_cost p u (slice_index alts u) ≡ cost + alt_cost p u a →
          length uses ≡ length loads → length fewest ≡ length least →
          ((i : ℕ) → i < length listed → slice_index uses i + alt_uses p u (slice_index alts u) (slice_index listed i) ≡ slice_index loads i + alt_uses p u a (slice_index listed i)) →
          ((r : ℕ) → r < length least → slice_index fewest r + times_in was r ≡ slice_index least r + times_in now r) →
          ((i : ℕ) → i < length listed → times_in was i ≡ least_uses p ranges u (slice_index listed i)) →
          ((i : ℕ) → i < length listed → times_in now i ≡ least_within low high (λ b. alt_uses p u b (slice_index listed i))) →
          IsKept p (slice_set ranges u (low, high)) (slice_set alts u a) more uses fewest zeros listed
      IsKept-moved valid more uses fewest was now paid e f g h i j = record {
        valid = valid;
        few_units = k.few_units;
        units = k.units;
        cheapest = cheapest-moved;
        choice = choice-moved;
        cost_is = omega (arith, paid, cost-moved, k.cost_is);
        loads_count = e ∙ k.loads_count;
        loads_are = λ q m. omega (arith, g q m, load-moved (slice_index listed q), k.loads_are q m);
        least_count = f ∙ k.least_count;
        least_are = λ q m. omega (arith, h q (omega (arith, m, k.least_count)), least-moved (slice_index listed q), k.least_are q m, i q m, j q m);
        zeros_count = k.zeros_count;
        zeros_are = k.zeros_are;
      }
