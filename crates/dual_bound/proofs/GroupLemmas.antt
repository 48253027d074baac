-- The problem on the first resources of classes of equal ones has the classes as its resources.
use Rattle.std.proofs.Common.{◌≡◌, ℕ, ◌+◌, ◌<◌, refl, sym, ◌∙◌, ap, arith, List, [], length, inl, inr, Option, Some, None}
use Rattle.std.specs.Prelude.{slice_index, nat_eq}
use Rattle.std.proofs.lemmas.Bool.{cases_lt}
use Rattle.std.proofs.lemmas.List.{get_or_past}
use Rattle.choice_problem.specs.declared.problems.Alt.{Alt}
use Rattle.choice_problem.specs.declared.strips.Strip.{Strip}
use Rattle.finite_sums.specs.Sums.{count_below}
use Rattle.choice_problem.specs.Strips.{part_uses}
use Rattle.choice_problem.specs.Problems.{ProblemView, ChooserView, chooser_at, alt_at, named_uses, chooser_uses, unit_count, part_count, resource_count, limit_of, alt_uses}
use Rattle.dual_bound.specs.Kept.{AreRanks, IsKept, IsOnKept}
use Rattle.dual_bound.specs.Classes.{AreFirsts, AreGrouped}
use Rattle.dual_bound.proofs.RankLemmas.{rank-le}
use Rattle.dual_bound.proofs.KeptLemmas.{same_alts, same_cost, same_uses}

-- each alternative uses a resource as often as the first of its class
named-first : (p : ProblemView) (firsts : List ℕ) (u : ℕ) (named : Option ℕ) (r : ℕ) → AreFirsts p firsts → u < unit_count p → r < resource_count p →
    named_uses (chooser_at p u) named (slice_index firsts r) ≡ named_uses (chooser_at p u) named r
named-first p firsts u None r f l m = refl
named-first p firsts u (Some n) r f l m = elim (cases_lt n (part_count p u)) [
  | inl there ↦ f.uses u n r l there m
  | inr past ↦
      let none = get_or_past (chooser_at p u).parts n [] past in
      ap (λ (strips : List Strip). part_uses strips (slice_index firsts r)) none ∙ sym (ap (λ (strips : List Strip). part_uses strips r) none)
]

pub uses-first : (p : ProblemView) (firsts : List ℕ) (u a r : ℕ) → AreFirsts p firsts → r < resource_count p → alt_uses p u a (slice_index firsts r) ≡ alt_uses p u a r
uses-first p firsts u a r f m = elim (cases_lt u (unit_count p)) [
  | inl l ↦
      ap (λ n. n + named_uses (chooser_at p u) (alt_at (chooser_at p u) a).two (slice_index firsts r)) (named-first p firsts u (alt_at (chooser_at p u) a).one r f l m)
      ∙ ap (λ n. named_uses (chooser_at p u) (alt_at (chooser_at p u) a).one r + n) (named-first p firsts u (alt_at (chooser_at p u) a).two r f l m)
  | inr past ↦
      let none = get_or_past p.units u (record { parts = []; alts = [] }) past in
      ap (λ (c : ChooserView). chooser_uses c a (slice_index firsts r)) none ∙ sym (ap (λ (c : ChooserView). chooser_uses c a r) none)
]

-- equal resources, and ranks at which the first of each class is kept
module _ (p k : ProblemView) (firsts ranks classes : List ℕ) (f : AreFirsts p firsts) (h : AreRanks (resource_count p) ranks)
    (kept : (r : ℕ) → r < resource_count p → slice_index firsts r ≡ r → IsKept ranks r) (o : IsOnKept p ranks k)
    (each : (r : ℕ) → r < resource_count p → slice_index classes r ≡ slice_index ranks (slice_index firsts r)) where
  first-there : (r : ℕ) → r < resource_count p → slice_index firsts r < resource_count p
  first-there r l = omega (arith, f.low r l, l)

  first-kept : (r : ℕ) → r < resource_count p → IsKept ranks (slice_index firsts r)
  first-kept r l = kept (slice_index firsts r) (first-there r l) (f.one r l)

  pub class-there : (r : ℕ) → r < resource_count p → slice_index classes r < resource_count k
  class-there r l =
      let there : slice_index firsts r < resource_count p = first-there r l in
      omega (arith, each r l, first-kept r l, o.resources, rank-le (resource_count p) ranks (slice_index firsts r + 1) (resource_count p) h (omega (arith, there)) (omega arith))

  pub AreGrouped-is : (sizes : List ℕ) → length classes ≡ resource_count p → length sizes ≡ resource_count k →
      ((c : ℕ) → c < resource_count k → slice_index sizes c ≡ count_below (length classes) (λ r. nat_eq (slice_index classes r) c)) →
      AreGrouped p k classes sizes
  AreGrouped-is sizes count sizes_count sizes_are = record {
    count = count;
    there = class-there;
    sizes_count = sizes_count;
    sizes_are = λ c l. sizes_are c l ∙ ap (λ n. count_below n (λ r. nat_eq (slice_index classes r) c)) count;
    units = o.units;
    alts = λ u. ap (λ (alts : List Alt). length alts) (same_alts p k ranks o u);
    costs = λ u a. same_cost p k ranks o u a;
    uses = λ u a r l.
        ap (λ c. alt_uses k u a c) (each r l)
        ∙ same_uses p k ranks o u a (slice_index firsts r) (first-there r l) (first-kept r l)
        ∙ uses-first p firsts u a r f l;
    limits = λ r l. ap (λ c. limit_of k c) (each r l) ∙ o.limits (slice_index firsts r) (first-there r l) (first-kept r l) ∙ f.limits r l;
  }
