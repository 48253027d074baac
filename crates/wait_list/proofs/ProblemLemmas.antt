-- The problem of the waiting stage.
use Rattle.std.proofs.Common.{inl, inr, ◌≡◌, ℕ, ◌+◌, ◌<◌, ◌≤◌, refl, sym, ◌∙◌, ap, subst, arith, List, [], ◌∷◌, ◌++◌, length}
use Rattle.std.specs.Prelude.{All, Option, Some, None, slice_index}
use Rattle.std.specs.Option.{ForSome, unwrap_or}
use Rattle.std.proofs.lemmas.Bool.{cases_lt}
use Rattle.std.proofs.lemmas.List.{length-map, get_or_append_left, get_or_push}
use Rattle.std.proofs.lemmas.List.Elements.{All-nil, All-cons, All-head, All-tail}
use Rattle.season_days.specs.Term.{Term}
use Rattle.season_days.specs.Capacity.{capacity_of, declared_resources, IsDeclaration}
use Rattle.season_days.specs.declared.declaration.Declaration.{Declaration}
use Rattle.season_days.specs.declared.declaration.TheConstants.{HIGHEST_REFUSAL_PRICE}
use Rattle.scr_reader.specs.Printed.{LineFits}
use Rattle.scr_reader.specs.declared.line.Line.{Line}
use Rattle.choice_problem.specs.Problems.{ProblemView}
use Rattle.series_model.specs.declared.unit.Unit.{Unit as SlotUnit}
use Rattle.series_model.specs.Units.{UnitFits}
use Rattle.wasg_stages.specs.StageProblems.{IsAllotmentProblem}
use Rattle.holding_book.specs.Books.{SlotBook}
use Rattle.holding_book.specs.Left.{left_of}
use Rattle.wait_list.specs.Waiting.{waiting_unit, waiting_units, waiting_price, waiting_terms, IsWaitingProblem}

price-few : (price : Option ℕ) → ForSome price (λ n. n ≤ HIGHEST_REFUSAL_PRICE) → waiting_price price ≤ HIGHEST_REFUSAL_PRICE
price-few None h = omega arith
price-few (Some n) h = h n refl

some-is : (n m : ℕ) → Some n ≡ Some m → n ≡ m
some-is n m is = ap (λ (o : Option ℕ). unwrap_or o n) is

-- the terms keep the limits of a declaration
pub terms-keep : (d : Declaration) → IsDeclaration d → IsDeclaration (waiting_terms d)
terms-keep d keeps = record {
  capacity = keeps.capacity;
  price = λ price is. subst (λ (n : ℕ). n ≤ HIGHEST_REFUSAL_PRICE) (some-is (waiting_price d.refuse) price is) (price-few d.refuse keeps.price);
  share = keeps.share;
}

pub unit-fits : (season : Term) (line : Line) → LineFits season line → UnitFits season (waiting_unit line)
unit-fits season line fits = record { request = fits; historic = refl }

pub units-fit : (season : Term) (lines : List Line) → All (LineFits season) lines → All (UnitFits season) (waiting_units lines)
units-fit season [] fits = All-nil (UnitFits season)
units-fit season (line ∷ lines) fits =
    All-cons (UnitFits season) (waiting_unit line) (waiting_units lines)
    (unit-fits season line (All-head (LineFits season) line lines fits))
    (units-fit season lines (All-tail (LineFits season) line lines fits))

-- the same problem by limits that are the same
pub with-limits : (d : Declaration) (units : List SlotUnit) (limit other : ℕ → ℕ) (p : ProblemView) → IsAllotmentProblem d units limit p →
    ((r : ℕ) → r < declared_resources (capacity_of d) → limit r ≡ other r) → IsAllotmentProblem d units other p
with-limits d units limit other p is same = record {
  units_are = is.units_are;
  resources = is.resources;
  limits = λ r lt. is.limits r lt ∙ same r lt;
}

-- ---- what the calls gave

module _ (d terms : Declaration) (lines : List Line) (units : List SlotUnit) (t : terms ≡ waiting_terms d) (u : units ≡ waiting_units lines) where
  pub units-fit-at : All (LineFits d.season) lines → All (UnitFits terms.season) units
  units-fit-at all =
      subst (λ (us : List SlotUnit). All (UnitFits terms.season) us) (sym u)
      (subst (λ (season : Term). All (UnitFits season) (waiting_units lines)) (sym (ap (λ (x : Declaration). x.season) t)) (units-fit d.season lines all))

  pub as-waiting : (b : SlotBook) (limits given : List ℕ) (p : ProblemView) → b.declaration ≡ d → given ≡ limits → IsAllotmentProblem terms units (λ r. slice_index given r) p
      → ((r : ℕ) → r < declared_resources (capacity_of d) → slice_index limits r ≡ left_of b r) → IsWaitingProblem b lines p
  as-waiting b limits given p declared same is each =
      let own = subst (λ (x : Declaration). IsAllotmentProblem x (waiting_units lines) (λ r. slice_index given r) p) t (subst (λ (us : List SlotUnit). IsAllotmentProblem terms us (λ r. slice_index given r) p) u is) in
      subst (λ (x : Declaration). IsAllotmentProblem (waiting_terms x) (waiting_units lines) (left_of b) p) (sym declared)
      (with-limits (waiting_terms d) (waiting_units lines) (λ r. slice_index given r) (left_of b) p own (λ r lt. ap (λ (ns : List ℕ). slice_index ns r) same ∙ each r lt))

pub units-count : (lines : List Line) (units : List SlotUnit) → units ≡ waiting_units lines → length units ≡ length lines
units-count lines units u = ap (λ (us : List SlotUnit). length us) u ∙ length-map lines waiting_unit

-- ---- what is left, one resource more

pub limits-on : (f : ℕ → ℕ) (old : List ℕ) (x n : ℕ) → length old ≡ n → x ≡ f n → ((r : ℕ) → r < n → slice_index old r ≡ f r) → (r : ℕ) → r < n + 1 → slice_index (old ++ x ∷ []) r ≡ f r
limits-on f old x n long is each r lt =
    elim (cases_lt r n) [
      | inl before ↦ get_or_append_left old (x ∷ []) 0 r (omega (arith, before, long)) ∙ each r before
      | inr after ↦
          let same : n ≡ r = omega (arith, lt, after) in
          get_or_push old x 0 r (long ∙ same) ∙ is ∙ ap f same
    ]
