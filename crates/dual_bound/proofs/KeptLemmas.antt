-- Subgradient runs on the resources that can be passed are those on all.
use Rattle.std.proofs.Common.{◌≡◌, ℕ, zero, suc, ◌+◌, ◌-◌, ◌*◌, ◌<◌, ◌≤◌, refl, sym, ◌∙◌, ap, arith, List, [], length, pos, inl, inr, Option, Some, None}
use Rattle.std.specs.Prelude.{slice_index, ℤ, ◌-ℤ◌, nat_lt, if◌then◌else◌}
use Rattle.std.proofs.lemmas.Grind.{common_steps}
use Rattle.std.proofs.Math.Path.{fun_ext}
use Rattle.std.proofs.lemmas.Bool.{cases_lt}
use Rattle.std.proofs.lemmas.List.{get_or_past}
use Rattle.std.proofs.Math.Nat.{mul-le-mul_left}
use Rattle.choice_problem.specs.declared.problems.Alt.{Alt}
use Rattle.choice_problem.specs.declared.strips.Strip.{Strip}
use Rattle.finite_sums.specs.Sums.{sum_below, first_least, least_within, IsFirstLeast}
use Rattle.finite_sums.proofs.SumLemmas.{sum_below-more, sum_below-same, first_least-IsFirstLeast}
use Rattle.choice_problem.specs.Strips.{part_uses}
use Rattle.choice_problem.specs.Problems.{ProblemView, ChooserView, chooser_at, alt_at, named_uses, chooser_uses, unit_count, alt_count, resource_count, limit_of, alt_cost, alt_uses}
use Rattle.choice_problem.specs.Bounds.{AreRanges, bound_of, least_total, priced, priced_cost, low_of, high_of}
use Rattle.choice_problem.specs.Roots.{vector_of, priced_alt, priced_load, price_after, step_length, step_vector}
use Rattle.price_table.specs.Strips.{ArePrices}
use Rattle.dual_bound.specs.Loops.{IsGreatestUpTo}
use Rattle.dual_bound.specs.Kept.{AreRanks, IsKept, KeepPassed, IsOnKept, AreSpread, price_in}
use Rattle.dual_bound.proofs.StepLemmas.{priced-vector_of}
use Rattle.dual_bound.proofs.RankLemmas.{rank-le}

-- numbers of all resources that are 0 off the kept ones
record Spreads (n : ℕ) (ranks : List ℕ) (f g : ℕ → ℕ) : Type 0 where
  kept : (r : ℕ) → r < n → IsKept ranks r → f r ≡ g (slice_index ranks r)
  rest : (r : ℕ) → r < n → slice_index ranks (r + 1) ≤ slice_index ranks r → f r ≡ 0

sum-spread : (n : ℕ) (ranks : List ℕ) (f g : ℕ → ℕ) (m : ℕ) → AreRanks n ranks → Spreads n ranks f g → m ≤ n → sum_below m f ≡ sum_below (slice_index ranks m) g
sum-spread n ranks f g zero h s l = rw h.first refl
sum-spread n ranks f g (suc m) h s l =
    let e : m + 1 ≡ suc m = omega arith in
    let before : sum_below m f ≡ sum_below (slice_index ranks m) g = sum-spread n ranks f g m h s (omega arith) in
    let rises : slice_index ranks m ≤ slice_index ranks (suc m) = rw e at (h.rises m (omega arith)) in
    let by_one : slice_index ranks (suc m) ≤ slice_index ranks m + 1 = rw e at (h.by_one m (omega arith)) in
    elim (cases_lt (slice_index ranks m) (slice_index ranks (suc m))) [
      | inl kept ↦
          let next : slice_index ranks (suc m) ≡ slice_index ranks m + 1 = omega (arith, by_one, kept) in
          let same : f m ≡ g (slice_index ranks m) = s.kept m (omega arith) (rw e kept) in
          rw next (omega (arith, before, same, sum_below-more (slice_index ranks m) g))
      | inr rest ↦
          let next : slice_index ranks (suc m) ≡ slice_index ranks m = omega (arith, rises, rest) in
          let none : f m ≡ 0 = s.rest m (omega arith) (rw e rest) in
          rw next (omega (arith, before, none))
    ]

-- the first least and the least of equal numbers
least-same : (low high : ℕ) (f g : ℕ → ℕ) → ((a : ℕ) → f a ≡ g a) → (first_least low high f ≡ first_least low high g) × (least_within low high f ≡ least_within low high g)
least-same low high f g h = (ap (λ k. first_least low high k) (fun_ext h), ap (λ k. least_within low high k) (fun_ext h))

price_in-kept : (ranks prices : List ℕ) (r : ℕ) → IsKept ranks r → price_in ranks prices r ≡ slice_index prices (slice_index ranks r)
price_in-kept ranks prices r b = chosen (slice_index ranks r) (slice_index ranks (r + 1)) (slice_index prices (slice_index ranks r)) b
  where
    chosen : (a b' v : ℕ) → a < b' → (if nat_lt a b' then v else 0) ≡ v
    chosen a b' v l = grind (arith, common_steps)

price_in-rest : (ranks prices : List ℕ) (r : ℕ) → slice_index ranks (r + 1) ≤ slice_index ranks r → price_in ranks prices r ≡ 0
price_in-rest ranks prices r b = none (slice_index ranks r) (slice_index ranks (r + 1)) (slice_index prices (slice_index ranks r)) b
  where
    none : (a b' v : ℕ) → b' ≤ a → (if nat_lt a b' then v else 0) ≡ 0
    none a b' v l = grind (arith, common_steps)

-- a problem p, and the problem k on its kept resources
module _ (p k : ProblemView) (ranks : List ℕ) (o : IsOnKept p ranks k) where
  abbrev no_chooser : ChooserView
  no_chooser = record { parts = []; alts = [] }

  pub same_alts : (u : ℕ) → (chooser_at k u).alts ≡ (chooser_at p u).alts
  same_alts u = elim (cases_lt u (unit_count p)) [
    | inl l ↦ (o.each u l).alts
    | inr past ↦
        ap (λ (m : ChooserView). m.alts) (get_or_past k.units u no_chooser (omega (arith, past, o.units)))
        ∙ sym (ap (λ (m : ChooserView). m.alts) (get_or_past p.units u no_chooser past))
  ]

  pub same_cost : (u a : ℕ) → alt_cost k u a ≡ alt_cost p u a
  same_cost u a = ap (λ (alts : List Alt). (alt_at (record { parts = []; alts = alts }) a).cost) (same_alts u)

  same_named : (u : ℕ) (named : Option ℕ) (r : ℕ) → u < unit_count p → r < resource_count p → IsKept ranks r →
      named_uses (chooser_at k u) named (slice_index ranks r) ≡ named_uses (chooser_at p u) named r
  same_named u None r l m b = refl
  same_named u (Some n) r l m b = elim (cases_lt n (length (chooser_at p u).parts)) [
    | inl there ↦ (o.each u l).uses n there r m b
    | inr past ↦
        ap (λ (strips : List Strip). part_uses strips (slice_index ranks r)) (get_or_past (chooser_at k u).parts n [] (omega (arith, past, (o.each u l).parts)))
        ∙ sym (ap (λ (strips : List Strip). part_uses strips r) (get_or_past (chooser_at p u).parts n [] past))
  ]

  pub same_uses : (u a r : ℕ) → r < resource_count p → IsKept ranks r → alt_uses k u a (slice_index ranks r) ≡ alt_uses p u a r
  same_uses u a r m b = elim (cases_lt u (unit_count p)) [
    | inl l ↦
        ap (λ (alts : List Alt). named_uses (chooser_at k u) (alt_at (record { parts = []; alts = alts }) a).one (slice_index ranks r) + named_uses (chooser_at k u) (alt_at (record { parts = []; alts = alts }) a).two (slice_index ranks r)) (same_alts u)
        ∙ ap (λ n. n + named_uses (chooser_at k u) (alt_at (chooser_at p u) a).two (slice_index ranks r)) (same_named u (alt_at (chooser_at p u) a).one r l m b)
        ∙ ap (λ n. named_uses (chooser_at p u) (alt_at (chooser_at p u) a).one r + n) (same_named u (alt_at (chooser_at p u) a).two r l m b)
    | inr past ↦
        ap (λ (m : ChooserView). chooser_uses m a (slice_index ranks r)) (get_or_past k.units u no_chooser (omega (arith, past, o.units)))
        ∙ sym (ap (λ (m : ChooserView). chooser_uses m a r) (get_or_past p.units u no_chooser past))
  ]

-- the same, where no resource that is not kept can be passed
module _ (p k : ProblemView) (ranks : List ℕ) (h : KeepPassed p ranks) (o : IsOnKept p ranks k) where
  -- uses at prices that are 0 off the kept resources
  same_priced : (f g uses others : ℕ → ℕ) → Spreads (resource_count p) ranks f g →
      ((r : ℕ) → r < resource_count p → IsKept ranks r → uses r ≡ others (slice_index ranks r)) →
      priced (vector_of (resource_count p) f) uses ≡ priced (vector_of (resource_count k) g) others
  same_priced f g uses others s e =
      priced-vector_of (resource_count p) f uses
      ∙ sum-spread (resource_count p) ranks (λ r. f r * uses r) (λ j. g j * others j) (resource_count p) h.ranks_are
      (record {
        kept = λ r l b. ap (λ v. v * uses r) (s.kept r l b) ∙ ap (λ v. g (slice_index ranks r) * v) (e r l b);
        rest = λ r l b. ap (λ v. v * uses r) (s.rest r l b) ∙ omega arith;
      })
      (omega arith)
      ∙ ap (λ n. sum_below n (λ j. g j * others j)) (sym o.resources)
      ∙ sym (priced-vector_of (resource_count k) g others)

  same_priced_cost : (f g : ℕ → ℕ) (u a : ℕ) → Spreads (resource_count p) ranks f g →
      priced_cost p (vector_of (resource_count p) f) 1024 u a ≡ priced_cost k (vector_of (resource_count k) g) 1024 u a
  same_priced_cost f g u a s =
      ap (λ v. 1024 * v + priced (vector_of (resource_count p) f) (λ r. alt_uses p u a r)) (sym (same_cost p k ranks o u a))
      ∙ ap (λ v. 1024 * alt_cost k u a + v) (same_priced f g (λ r. alt_uses p u a r) (λ j. alt_uses k u a j) s (λ r l b. sym (same_uses p k ranks o u a r l b)))

  same_priced_alt : (ranges : List (ℕ × ℕ)) (f g : ℕ → ℕ) (u : ℕ) → Spreads (resource_count p) ranks f g → priced_alt p ranges f u ≡ priced_alt k ranges g u
  same_priced_alt ranges f g u s =
      (least-same (low_of ranges u) (high_of ranges u) (λ a. priced_cost p (vector_of (resource_count p) f) 1024 u a) (λ a. priced_cost k (vector_of (resource_count k) g) 1024 u a)
      (λ a. same_priced_cost f g u a s)).0

  same_load : (ranges : List (ℕ × ℕ)) (f g : ℕ → ℕ) (r : ℕ) → Spreads (resource_count p) ranks f g → r < resource_count p → IsKept ranks r →
      priced_load p ranges f r ≡ priced_load k ranges g (slice_index ranks r)
  same_load ranges f g r s l b =
      sum_below-same (unit_count p) (λ u. alt_uses p u (priced_alt p ranges f u) r) (λ u. alt_uses k u (priced_alt k ranges g u) (slice_index ranks r))
      (λ u m. ap (λ a. alt_uses p u a r) (same_priced_alt ranges f g u s) ∙ sym (same_uses p k ranks o u (priced_alt k ranges g u) r l b))
      ∙ ap (λ n. sum_below n (λ u. alt_uses k u (priced_alt k ranges g u) (slice_index ranks r))) (sym o.units)

  low_load : (ranges : List (ℕ × ℕ)) (f : ℕ → ℕ) (r : ℕ) → AreRanges p ranges → r < resource_count p → slice_index ranks (r + 1) ≤ slice_index ranks r →
      priced_load p ranges f r ≤ limit_of p r
  low_load ranges f r a l b = h.rest r l b (λ u. priced_alt p ranges f u) (λ u m. there u m)
    where
      there : (u : ℕ) → u < unit_count p → priced_alt p ranges f u < alt_count p u
      there u m =
          let least : IsFirstLeast (low_of ranges u) (high_of ranges u) (λ b. priced_cost p (vector_of (resource_count p) f) 1024 u b) (priced_alt p ranges f u) =
          first_least-IsFirstLeast (low_of ranges u) (high_of ranges u) (λ b. priced_cost p (vector_of (resource_count p) f) 1024 u b) (a.ordered u m) in
          omega (arith, least.to, a.there u m)

  -- the prices after each step
  spread_after : (ranges : List (ℕ × ℕ)) (step : ℕ) → AreRanges p ranges → Spreads (resource_count p) ranks (λ r. price_after p ranges step r) (λ j. price_after k ranges step j)
  spread_after ranges zero a = record { kept = λ r l b. refl; rest = λ r l b. refl }
  spread_after ranges (suc step) a =
      let before = spread_after ranges step a in
      record {
        kept = λ r l b.
            ap (λ v. (v + step_length step * priced_load p ranges (λ q. price_after p ranges step q) r) - step_length step * limit_of p r) (before.kept r l b)
            ∙ ap (λ v. (price_after k ranges step (slice_index ranks r) + step_length step * v) - step_length step * limit_of p r) (same_load ranges (λ q. price_after p ranges step q) (λ q. price_after k ranges step q) r before l b)
            ∙ ap (λ v. (price_after k ranges step (slice_index ranks r) + step_length step * priced_load k ranges (λ q. price_after k ranges step q) (slice_index ranks r)) - step_length step * v) (sym (o.limits r l b));
        rest = λ r l b.
            let was : price_after p ranges step r ≡ 0 = before.rest r l b in
            let low = mul-le-mul_left (step_length step) (low_load ranges (λ q. price_after p ranges step q) r a l b) in
            omega (arith, was, low);
      }

  same_bound : (ranges : List (ℕ × ℕ)) (step : ℕ) → AreRanges p ranges → bound_of k ranges (step_vector k ranges step) 1024 ≡ bound_of p ranges (step_vector p ranges step) 1024
  same_bound ranges step a =
      let s = spread_after ranges step a in
      let f : ℕ → ℕ = λ r. price_after p ranges step r in
      let g : ℕ → ℕ = λ j. price_after k ranges step j in
      let total : least_total p ranges (step_vector p ranges step) 1024 ≡ least_total k ranges (step_vector k ranges step) 1024 =
      sum_below-same (unit_count p) (λ u. least_within (low_of ranges u) (high_of ranges u) (λ b. priced_cost p (step_vector p ranges step) 1024 u b))
      (λ u. least_within (low_of ranges u) (high_of ranges u) (λ b. priced_cost k (step_vector k ranges step) 1024 u b))
      (λ u m. (least-same (low_of ranges u) (high_of ranges u) (λ b. priced_cost p (vector_of (resource_count p) f) 1024 u b) (λ b. priced_cost k (vector_of (resource_count k) g) 1024 u b) (λ b. same_priced_cost f g u b s)).1)
      ∙ ap (λ n. sum_below n (λ u. least_within (low_of ranges u) (high_of ranges u) (λ b. priced_cost k (step_vector k ranges step) 1024 u b))) (sym o.units) in
      let limits : priced (step_vector p ranges step) (λ r. limit_of p r) ≡ priced (step_vector k ranges step) (λ r. limit_of k r) =
      same_priced f g (λ r. limit_of p r) (λ r. limit_of k r) s (λ r l b. sym (o.limits r l b)) in
      ap (λ n. pos n -ℤ pos (priced (step_vector k ranges step) (λ r. limit_of k r))) (sym total)
      ∙ ap (λ n. pos (least_total p ranges (step_vector p ranges step) 1024) -ℤ pos n) (sym limits)

  -- the best prices on the kept resources, spread over all
  pub IsGreatestUpTo-spread : (ranges : List (ℕ × ℕ)) (n : ℕ) (numbers spread : List ℕ) (bound : ℤ) → AreRanges p ranges → IsGreatestUpTo k ranges n numbers bound →
      AreSpread (resource_count p) ranks numbers spread → ArePrices p spread → IsGreatestUpTo p ranges n spread bound
  IsGreatestUpTo-spread ranges n numbers spread bound a b s v =
      let after = spread_after ranges b.step a in
      record {
        step = b.step;
        counted = b.counted;
        prices = v;
        prices_are = λ r l. elim (cases_lt (slice_index ranks r) (slice_index ranks (r + 1))) [
          | inl kept ↦
              let there : slice_index ranks r < resource_count k = omega (arith, kept, o.resources, rank-le (resource_count p) ranks (r + 1) (resource_count p) h.ranks_are (omega arith) (omega arith)) in
              s.each r l ∙ price_in-kept ranks numbers r kept ∙ b.prices_are (slice_index ranks r) there ∙ sym (after.kept r l kept)
          | inr rest ↦ s.each r l ∙ price_in-rest ranks numbers r rest ∙ sym (after.rest r l rest)
        ];
        bound_is = b.bound_is ∙ same_bound ranges b.step a;
        greatest = λ j l. rw (same_bound ranges j a) at (b.greatest j l);
        first = λ j l. rw (same_bound ranges j a) at (b.first j l);
      }
