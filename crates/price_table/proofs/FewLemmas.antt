-- Prices that are looked up strip by strip.
use Rattle.std.proofs.Common.{◌≡◌, ℕ, zero, suc, ◌+◌, ◌-◌, ◌*◌, ◌%◌, ◌<◌, ◌≤◌, ◌^◌, min, refl, sym, ◌∙◌, ap, arith, List, [], ◌∷◌, length, take, inl, inr, Bool, true, false, ltb, ltb-true, lt-ltb, Option, Some, None}
use Rattle.std.specs.Prelude.{slice_index, slice_index_or, AllPairs, nat_le, nat_lt, ◌&&◌, sum_by}
use Rattle.std.specs.Option.{ForSome}
use Rattle.std.proofs.lemmas.Nat.{mul-le}
use Rattle.std.proofs.Math.Nat.{mul-add-mod_self_right, mod-le}
use Rattle.std.proofs.lemmas.Bool.{cases_lt, cases_eq}
use Rattle.std.specs.List.Sorted.{IsPartitionedBy}
use Rattle.std.proofs.lemmas.Grind.{common_steps}
use Rattle.std.proofs.lemmas.List.Sums.{sum_by-cons, sum_by_more}
use Rattle.choice_problem.specs.declared.strips.Strip.{Strip}
use Rattle.choice_problem.specs.declared.vectors.Price.{Price}
use Rattle.choice_problem.specs.Strips.{run_start, is_in_run, strip_uses, part_uses}
use Rattle.choice_problem.specs.Problems.{ProblemView, ChooserView, IsChooser, resource_count, part_count, chooser_at, alt_at, part_at, named_uses, alt_uses, amount}
use Rattle.choice_problem.specs.Bounds.{price_at, priced, IsVector}
use Rattle.finite_sums.proofs.SumLemmas.{count_below-none}
use Rattle.price_table.specs.Tables.{named_price, PricesUnit}
use Rattle.price_table.specs.Private.Few.{AreFewPrices, strip_priced, capped_priced}
use Rattle.price_table.specs.Private.Named.{NamedAreMarked, is_named}
use Rattle.price_table.proofs.TableLemmas.{priced-le}

-- prices by rising resource: those of resources below one come first
pub parted_by : (prices : List Price) (t : ℕ) → AllPairs (λ e f. e.resource < f.resource) prices → IsPartitionedBy (λ (p : Price). ltb p.resource t) prices
parted_by prices t rising i j d l m h = elim (cases_lt i j) [
  | inl under ↦ let below = ltb-true _ t h in let up = rising i j d under m in lt-ltb _ t (omega (arith, below, up))
  | inr over ↦ let e : i ≡ j = omega arith in rw e h
]

-- no run holds a resource before the first one
strip_uses-before : (s : Strip) (r : ℕ) → r < s.first → strip_uses s r ≡ 0
strip_uses-before s r l = count_below-none s.times (λ i. is_in_run s r i) (λ i _. outside s.first (i * s.gap) s.width r l)
  where
    outside : (first t width q : ℕ) → q < first → (nat_le (first + t) q && nat_lt q (first + t + width)) ≡ false
    outside first t width q h = grind (arith, common_steps)

-- nor after all have ended
strip_uses-after : (s : Strip) (r : ℕ) → run_start s (s.times - 1) + s.width ≤ r → strip_uses s r ≡ 0
strip_uses-after s r h = count_below-none s.times (λ i. is_in_run s r i) (λ i l. outside (run_start s i) s.width r (ended i l))
  where
    outside : (start width q : ℕ) → start + width ≤ q → (nat_le start q && nat_lt q (start + width)) ≡ false
    outside start width q h = grind (arith, common_steps)

    ended : (i : ℕ) → i < s.times → run_start s i + s.width ≤ r
    ended i l = omega (arith, mul-le i s.gap (s.times - 1) s.gap (omega arith) (omega arith), h)

-- nor one that lies between runs
pub strip_uses-between : (s : Strip) (r : ℕ) → s.width ≤ (r - s.first) % s.gap → strip_uses s r ≡ 0
strip_uses-between s r h =
    count_below-none s.times (λ i. is_in_run s r i) (λ i _. outside s.first (i * s.gap) s.width r ((r - s.first) % s.gap) (rest (r - s.first) i s.gap) h)
  where
    rest : (d i g : ℕ) → i * g ≤ d → d % g ≤ d - i * g
    rest d i g l =
        let whole : i * g + (d - i * g) ≡ d = omega (arith, l) in
        let same : d % g ≡ (d - i * g) % g = ap (λ v. v % g) (sym whole) ∙ mul-add-mod_self_right i g (d - i * g) in
        omega (arith, same, mod-le (d - i * g) g)

    outside : (first t width q m : ℕ) → (t ≤ q - first → m ≤ q - first - t) → width ≤ m → (nat_le (first + t) q && nat_lt q (first + t + width)) ≡ false
    outside first t width q m k w = grind (arith, common_steps)

-- uses of resources that are not priced cost nothing
priced-none : (prices : List Price) (uses : ℕ → ℕ) → ((k : ℕ) → k < length prices → uses (price_at prices k).resource ≡ 0) → priced prices uses ≡ 0
priced-none [] uses h = refl
priced-none (e ∷ es) uses h =
    omega (
      arith,
      sum_by-cons (λ (f : Price). amount f.price * uses f.resource) e es,
      priced-none es uses (λ k l. h (suc k) (omega arith)),
      ap (λ v. amount e.price * v) (h zero (omega arith)),
    )

pub priced-first : (prices : List Price) (i : ℕ) (uses : ℕ → ℕ) → ((k : ℕ) → k < i → uses (price_at prices k).resource ≡ 0) → priced (take i prices) uses ≡ 0
priced-first [] zero uses h = refl
priced-first [] (suc i) uses h = refl
priced-first (e ∷ es) zero uses h = refl
priced-first (e ∷ es) (suc i) uses h =
    omega (
      arith,
      sum_by-cons (λ (f : Price). amount f.price * uses f.resource) e (take i es),
      priced-first es i uses (λ k l. h (suc k) (omega arith)),
      ap (λ v. amount e.price * v) (h zero (omega arith)),
    )

pub priced-rest : (prices : List Price) (i : ℕ) (uses : ℕ → ℕ) → ((k : ℕ) → i ≤ k → k < length prices → uses (price_at prices k).resource ≡ 0) →
    priced (take i prices) uses ≡ priced prices uses
priced-rest [] zero uses h = refl
priced-rest [] (suc i) uses h = refl
priced-rest (e ∷ es) zero uses h = sym (priced-none (e ∷ es) uses (λ k l. h k (omega arith) l))
priced-rest (e ∷ es) (suc i) uses h =
    omega (
      arith,
      sum_by-cons (λ (f : Price). amount f.price * uses f.resource) e (take i es),
      sum_by-cons (λ (f : Price). amount f.price * uses f.resource) e es,
      priced-rest es i uses (λ k l m. h (suc k) (omega arith) (omega arith)),
    )

priced-zero : (prices : List Price) → priced prices (λ _. 0) ≡ 0
priced-zero prices = priced-none prices (λ _. 0) (λ _ _. refl)

priced-add : (prices : List Price) (uses more : ℕ → ℕ) → priced prices (λ r. uses r + more r) ≡ priced prices uses + priced prices more
priced-add [] uses more = refl
priced-add (e ∷ es) uses more =
    omega (
      arith,
      sum_by-cons (λ (f : Price). amount f.price * (uses f.resource + more f.resource)) e es,
      sum_by-cons (λ (f : Price). amount f.price * uses f.resource) e es,
      sum_by-cons (λ (f : Price). amount f.price * more f.resource) e es,
      priced-add es uses more,
    )

priced-same : (prices : List Price) (uses other : ℕ → ℕ) → ((r : ℕ) → uses r ≡ other r) → priced prices uses ≡ priced prices other
priced-same [] uses other h = refl
priced-same (e ∷ es) uses other h =
    omega (
      arith,
      sum_by-cons (λ (f : Price). amount f.price * uses f.resource) e es,
      sum_by-cons (λ (f : Price). amount f.price * other f.resource) e es,
      priced-same es uses other h,
      ap (λ v. amount e.price * v) (h e.resource),
    )

-- where the first prices are of resources before the strip's first one, they count for nothing
pub strip-before : (prices : List Price) (s : Strip) (i : ℕ) → ((k : ℕ) → k < i → (price_at prices k).resource < s.first) →
    priced (take i prices) (λ r. strip_uses s r) ≡ 0
strip-before prices s i h = priced-first prices i (λ r. strip_uses s r) (λ k l. strip_uses-before s (price_at prices k).resource (h k l))

-- where a price is of a resource from the strip's end on, it and those after it count for nothing
pub strip-after : (prices : List Price) (s : Strip) (i : ℕ) → AreFewPrices prices → run_start s (s.times - 1) + s.width ≤ (price_at prices i).resource →
    priced (take i prices) (λ r. strip_uses s r) ≡ strip_priced prices s
strip-after prices s i h past = priced-rest prices i (λ r. strip_uses s r) (λ k l m. strip_uses-after s (price_at prices k).resource (omega (arith, above k l m)))
  where
    above : (k : ℕ) → i ≤ k → k < length prices → run_start s (s.times - 1) + s.width ≤ (price_at prices k).resource
    above k l m = elim (cases_eq k i) [
      | inl e ↦ rw e past
      | inr o ↦ let up : (price_at prices i).resource < (price_at prices k).resource = h.rising i k _ (omega (arith, o)) m in omega (arith, past, up)
    ]

-- the strips of a part, one after the other
part-priced : (prices : List Price) (strips : List Strip) → sum_by (λ s. strip_priced prices s) strips ≡ priced prices (λ r. part_uses strips r)
part-priced prices [] = sym (priced-zero prices)
part-priced prices (s ∷ strips) =
    sum_by-cons (λ (t : Strip). strip_priced prices t) s strips
    ∙ ap (λ v. strip_priced prices s + v) (part-priced prices strips)
    ∙ sym (priced-add prices (λ r. strip_uses s r) (λ r. part_uses strips r))
    ∙ sym (priced-same prices (λ r. part_uses (s ∷ strips) r) (λ r. strip_uses s r + part_uses strips r) (λ r. sum_by-cons (λ (t : Strip). strip_uses t r) s strips))

pub capped_priced-empty : (prices : List Price) (strips : List Strip) → length prices ≡ 0 → 0 ≡ capped_priced prices strips
capped_priced-empty [] strips h = omega (arith, part-priced [] strips)
capped_priced-empty (e ∷ es) strips h = absurd (omega (arith, h))

pub capped_priced-more : (prices : List Price) (strips : List Strip) (i : ℕ) (d : Strip) → i < length strips →
    capped_priced prices (take (i + 1) strips) ≡ min (capped_priced prices (take i strips) + strip_priced prices (slice_index_or strips i d)) (2 ^ 128 - 1)
capped_priced-more prices strips i d l = omega (arith, sum_by_more (λ s. strip_priced prices s) strips i d l)

-- a vector of few prices
pub AreFewPrices-of : (p : ProblemView) (prices : List Price) → IsVector p prices → length prices ≤ 4096 → AreFewPrices prices
AreFewPrices-of p prices v few = record {
  few = few;
  rising = v.rising;
  positive = λ k d l. (v.each k d l).positive;
  small = λ k d l. (v.each k d l).small;
}

named-priced : (prices : List Price) (m : ChooserView) (costs : List ℕ) (named : Option ℕ) → ForSome named (λ k. slice_index costs k ≡ capped_priced prices (part_at m k)) →
    named_price costs named ≡ min (priced prices (λ r. named_uses m named r)) (2 ^ 128 - 1)
named-priced prices m costs None l = omega (arith, priced-zero prices)
named-priced prices m costs (Some k) l = l k refl ∙ ap (λ v. min v (2 ^ 128 - 1)) (part-priced prices (part_at m k))

-- the capped costs of a unit's parts price its alternatives, where those are right that an alternative names
pub capped_priced-PricesUnit : (p : ProblemView) (prices : List Price) (u : ℕ) (costs : List ℕ) (named : List Bool) → IsVector p prices → resource_count p ≤ 1000000 →
    IsChooser (chooser_at p u) → NamedAreMarked (chooser_at p u).alts (part_count p u) named → length costs ≡ part_count p u →
    ((k : ℕ) → k < part_count p u → is_named named k ≡ true → slice_index costs k ≡ capped_priced prices (part_at (chooser_at p u) k)) →
    PricesUnit p prices u costs
capped_priced-PricesUnit p prices u costs named v few m h count each = record {
  count = count;
  uses = λ a l.
      let unit = chooser_at p u in
      let one = named-priced prices unit costs (alt_at unit a).one (λ k e. each k (m.one a l k e) (h.one a l k e)) in
      let two = named-priced prices unit costs (alt_at unit a).two (λ k e. each k (m.two a l k e) (h.two a l k e)) in
      let both = priced-add prices (λ r. named_uses unit (alt_at unit a).one r) (λ r. named_uses unit (alt_at unit a).two r) in
      omega (arith, one, two, both, priced-le p prices 434 (λ r. alt_uses p u a r) v (λ r. m.uses a r l), few);
}
