-- What is kept of ranges, at one table and after one change; and the uses of one strip more.
use Rattle.std.proofs.Common.{◌≡◌, ℕ, ◌+◌, ◌<◌, ◌^◌, ◌∙◌, ◌++◌, sym, ap, ap₂, subst, arith, List, [], length, get_or, set, take, drop, inl, inr}
use Rattle.std.specs.Prelude.{slice_index, slice_index_or, slice_set}
use Rattle.std.proofs.lemmas.Grind.{common_steps}
use Rattle.std.proofs.lemmas.Bool.{cases_eq}
use Rattle.std.proofs.lemmas.List.{get_or-map, get_or_default, get_or-set_same, get_or-set_other, length-set, length-map, take_more}
use Rattle.std.proofs.lemmas.List.Sums.{sum_by_push}
use Rattle.choice_problem.specs.declared.closing.TheConstants.{PRICED_SCALE}
use Rattle.choice_problem.specs.declared.strips.Strip.{Strip}
use Rattle.choice_problem.specs.declared.vectors.Price.{Price}
use Rattle.choice_problem.specs.Strips.{strip_uses, part_uses}
use Rattle.choice_problem.specs.Problems.{ProblemView, unit_count}
use Rattle.choice_problem.specs.Bounds.{low_of, high_of, priced_cost}
use Rattle.finite_sums.specs.Sums.{least_within}
use Rattle.price_table.specs.Tables.{TableView, vectors_of}
use Rattle.price_table.specs.Totals.{TotalsView, AreTotalsFor, AreKeptFor, totals_at}
use Rattle.dual_bound.specs.KeptFloors.{AreLeastCosts}

-- the uses of one strip more
pub part_uses-take : (strips : List Strip) (n r : ℕ) (d : Strip) → n < length strips →
    part_uses (take (n + 1) strips) r ≡ part_uses (take n strips) r + strip_uses (get_or strips n d) r
part_uses-take strips n r d l =
    ap (λ (l : List Strip). part_uses l r) (take_more strips n d l) ∙ sum_by_push (λ (s : Strip). strip_uses s r) (take n strips) (get_or strips n d)

-- a list of the same length, written over another one
pub written-over : {X : Type 0} (n : ℕ) (new old : List X) → n ≡ length new → take n (new ++ drop (length new) old) ≡ new
written-over n new old e = grind (arith, common_steps)

-- the totals that are kept for a table
pub record AreTotalsAt (p : ProblemView) (prices : List Price) (ranges : List (ℕ × ℕ)) (t : TotalsView) : Type 0 where
  pub totals : AreTotalsFor p prices t
  pub at_ranges : t.ranges ≡ ranges
  pub at_scale : t.scale ≡ PRICED_SCALE

pub totals-kept : (p : ProblemView) (tables : List TableView) (ranges : List (ℕ × ℕ)) (totals : List TotalsView) (n : ℕ) (table : TableView) (t : TotalsView) →
    AreKeptFor p (vectors_of tables) ranges totals → n < length tables → t ≡ slice_index_or totals n t → AreTotalsAt p (slice_index_or tables n table).prices ranges t
totals-kept p tables ranges totals n table t kept l is =
    let count : length (vectors_of tables) ≡ length tables = length-map tables (λ (x : TableView). x.prices) in
    let there : n < length (vectors_of tables) = omega (arith, count, l) in
    let at : slice_index_or (vectors_of tables) n [] ≡ (slice_index_or tables n table).prices = get_or-map {Y = List Price} (λ (x : TableView). x.prices) tables n table [] l in
    let same : totals_at totals n ≡ t =
    get_or_default totals n (record { ranges = []; scale = 0; least = []; limits = 0 }) t (omega (arith, kept.count, there)) ∙ sym is in
    record {
      totals = rw (at, same) at (kept.each n there);
      at_ranges = rw same at (kept.at_ranges n there);
      at_scale = rw same at (kept.at_scale n there);
    }

-- the least costs after one range has changed
pub AreLeastCosts-set : (p : ProblemView) (ranges : List (ℕ × ℕ)) (costs : List ℕ) (unit low high cost : ℕ) → unit < unit_count p → length ranges ≡ unit_count p →
    AreLeastCosts p ranges costs → cost ≡ least_within low high (λ a. priced_cost p [] 1 unit a) → cost < 2 ^ 24 →
    AreLeastCosts p (slice_set ranges unit (low, high)) (set costs unit cost)
AreLeastCosts-set p ranges costs unit low high cost there size h is small =
    let spans = slice_set ranges unit (low, high) in
    let in_ranges : unit < length ranges = omega (arith, there, size) in
    let in_costs : unit < length costs = omega (arith, there, h.count) in
    record {
      count = length-set costs unit cost ∙ h.count;
      each = λ u l. elim (cases_eq u unit) [
        | inl e ↦
            let span = get_or-set_same ranges unit (low, high) (0, 0) in_ranges in
            subst (λ (v : ℕ). slice_index (set costs unit cost) v ≡ least_within (low_of spans v) (high_of spans v) (λ a. priced_cost p [] 1 v a)) (sym e)
            (get_or-set_same costs unit cost 0 in_costs ∙ is
            ∙ ap₂ (λ (x y : ℕ). least_within x y (λ a. priced_cost p [] 1 unit a)) (sym (ap (λ (s : ℕ × ℕ). s.0) span)) (sym (ap (λ (s : ℕ × ℕ). s.1) span)))
        | inr o ↦
            let span = get_or-set_other ranges unit u (low, high) (0, 0) o in
            get_or-set_other costs unit u cost 0 o ∙ h.each u l
            ∙ ap₂ (λ (x y : ℕ). least_within x y (λ a. priced_cost p [] 1 u a)) (sym (ap (λ (s : ℕ × ℕ). s.0) span)) (sym (ap (λ (s : ℕ × ℕ). s.1) span))
      ];
      small = λ u l. elim (cases_eq u unit) [
        | inl e ↦ rw (e, get_or-set_same costs unit cost 0 in_costs) small
        | inr o ↦ rw (get_or-set_other costs unit u cost 0 o) (h.small u l)
      ];
    }
