-- Problems with some alternatives of another one are within the limits, and have its price tables.
use Rattle.std.proofs.Common.{ℕ, ◌+◌, ◌*◌, ◌<◌, not, List, [], length, sym, ◌∙◌, ap, arith}
use Rattle.std.specs.Prelude.{All, slice_index, slice_index_or, ℤ}
use Rattle.std.specs.List.{range_with_len}
use Rattle.std.proofs.lemmas.List.Elements.{All-map, All-weaker}
use Rattle.finite_sums.proofs.SumLemmas.{sum_by-same}
use Rattle.choice_problem.specs.declared.problems.Alt.{Alt}
use Rattle.choice_problem.specs.declared.vectors.Price.{Price}
use Rattle.choice_problem.specs.Problems.{ProblemView, ChooserView, IsChooser, IsProblem, ArePartsInRange, unit_count, alt_count, chooser_at, alt_uses, amount}
use Rattle.price_table.specs.Tables.{TableView, PricesUnit, IsTableFor, named_price}
use Rattle.cost_fixing.specs.Fixings.{unit_with, problem_with, left_problem, left_alts, is_out, uses_last, LeavesSome}
use Rattle.cost_fixing.proofs.ListLemmas.{range-within, parted-few, parted-there}
use Rattle.cost_fixing.proofs.WithLemmas.{unit_with-IsChooser, with-count, with-unit, with-alts, with-alt, with-uses}
use Rattle.cost_fixing.proofs.FixLemmas.{vector-with}

-- what holds of each unit with its alternatives holds of all units
units-with : (p : ProblemView) (alts : ℕ → List ℕ) (P : ChooserView → Type 0) →
    ((u : ℕ) → u < unit_count p → P (unit_with (chooser_at p u) (alts u))) → All P (problem_with p alts).units
units-with p alts P h =
    All-map P (λ (u : ℕ). unit_with (chooser_at p u) (alts u)) (range_with_len 0 (unit_count p))
    (All-weaker (λ u. u < unit_count p) (λ u. P (unit_with (chooser_at p u) (alts u))) h (range_with_len 0 (unit_count p)) (range-within (unit_count p)))

pub left-units : (p : ProblemView) (prices : List Price) (scale cost : ℕ) → All IsChooser p.units → LeavesSome p prices scale cost →
    All IsChooser (left_problem p prices scale cost).units
left-units p prices scale cost all some =
    units-with p (λ u. left_alts p prices scale cost u) IsChooser
    (λ u l.
    let v : IsChooser (chooser_at p u) = all u (record { parts = []; alts = [] }) l in
    let kept = λ (a : ℕ). not (is_out p prices scale cost u a) in
    unit_with-IsChooser (chooser_at p u) (left_alts p prices scale cost u) v (some u l)
    (omega (arith, parted-few kept (λ a. uses_last p u a) (alt_count p u), v.few_alts)) (parted-there kept (λ a. uses_last p u a) (alt_count p u)))

pub with-limits : (p : ProblemView) (alts : ℕ → List ℕ) (limits : List ℤ) → IsProblem p.units limits → IsProblem (problem_with p alts).units limits
with-limits p alts limits v = record {
  few_units = omega (arith, v.few_units, with-count p alts);
  few_resources = v.few_resources;
  limits_from = v.limits_from;
  limits_to = v.limits_to;
  in_range = units-with p alts (ArePartsInRange (length limits)) (λ u l. v.in_range u (record { parts = []; alts = [] }) l);
}

-- price tables price parts, which are the same
prices-with : (p : ProblemView) (alts : ℕ → List ℕ) (prices : List Price) (u : ℕ) (parts : List ℕ) → u < unit_count p →
    All (λ a. a < alt_count p u) (alts u) → PricesUnit p prices u parts → PricesUnit (problem_with p alts) prices u parts
prices-with p alts prices u parts l within v = record {
  count = v.count ∙ sym (ap (λ (m : ChooserView). length m.parts) (with-unit p alts u l));
  uses = λ a m.
      let k : a < length (alts u) = omega (arith, m, with-alts p alts u l) in
      let number : ℕ = slice_index (alts u) a in
      ap (λ (alt : Alt). named_price parts alt.one + named_price parts alt.two) (with-alt p alts u a l k)
      ∙ v.uses number (within a 0 k)
      ∙ sum_by-same prices (λ e. amount e.price * alt_uses p u number e.resource) (λ e. amount e.price * alt_uses (problem_with p alts) u a e.resource)
      (λ e. ap (λ (n : ℕ). amount e.price * n) (sym (with-uses p alts u a e.resource l k)));
}

table-with : (p : ProblemView) (alts : ℕ → List ℕ) (t : TableView) → ((u : ℕ) → u < unit_count p → All (λ a. a < alt_count p u) (alts u)) →
    IsTableFor p t → IsTableFor (problem_with p alts) t
table-with p alts t within v = record {
  vector = vector-with p alts t.prices v.vector;
  count = v.count ∙ sym (with-count p alts);
  each = λ u l.
      let l' : u < unit_count p = omega (arith, l, with-count p alts) in
      prices-with p alts t.prices u (slice_index_or t.units u []) l' (within u l') (v.each u l');
  at_limits = v.at_limits;
  few_resources = v.few_resources;
}

pub left-table : (p : ProblemView) (prices : List Price) (scale cost : ℕ) (t : TableView) → IsTableFor p t → IsTableFor (left_problem p prices scale cost) t
left-table p prices scale cost t v =
    table-with p (λ u. left_alts p prices scale cost u) t (λ u l. parted-there (λ a. not (is_out p prices scale cost u a)) (λ a. uses_last p u a) (alt_count p u)) v
