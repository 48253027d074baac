-- Problems with some alternatives of another one: their units, and their choices.
use Rattle.std.proofs.Common.{◌≡◌, ℕ, ◌+◌, ◌<◌, ◌^◌, List, [], length, map, sym, ◌∙◌, ap, subst, arith, None}
use Rattle.std.specs.Prelude.{All, slice_index, slice_index_or}
use Rattle.std.specs.List.{range_with_len}
use Rattle.std.specs.Option.{ForSome}
use Rattle.std.proofs.lemmas.List.{get_or-map, length-map, ext_get_or}
use Rattle.std.proofs.lemmas.List.FromFn.{get_or-map-range_with_len, length-map-range_with_len}
use Rattle.finite_sums.specs.Sums.{sum_below}
use Rattle.finite_sums.proofs.SumLemmas.{sum_below-same}
use Rattle.choice_problem.specs.declared.problems.Alt.{Alt}
use Rattle.choice_problem.specs.Problems.{ProblemView, ChooserView, IsChooser, unit_count, alt_count, chooser_at, alt_at, alt_cost, alt_uses, named_uses, chooser_uses}
use Rattle.choice_problem.specs.Choices.{IsChoice, IsFeasible, choice_cost, load_of}
use Rattle.cost_fixing.specs.Fixings.{unit_with, problem_with, whole_alt, whole_choice}

abbrev no_unit : ChooserView
no_unit = record { parts = []; alts = [] }

-- alternative k of such a unit is the one that is listed there
pub unit_with-alt : (m : ChooserView) (alts : List ℕ) (k : ℕ) → k < length alts → alt_at (unit_with m alts) k ≡ alt_at m (slice_index alts k)
unit_with-alt m alts k l = get_or-map {Y = Alt} (λ a. alt_at m a) alts k 0 (record { cost = 0; one = None; two = None }) l

unit_with-uses : (m : ChooserView) (alts : List ℕ) (k r : ℕ) → k < length alts →
    chooser_uses (unit_with m alts) k r ≡ chooser_uses m (slice_index alts k) r
unit_with-uses m alts k r l =
    ap (λ (alt : Alt). named_uses m alt.one r + named_uses m alt.two r) (unit_with-alt m alts k l)

-- it is within the limits where it has an alternative and all are there
pub unit_with-IsChooser : (m : ChooserView) (alts : List ℕ) → IsChooser m → 0 < length alts → length alts < 2 ^ 32 → All (λ a. a < length m.alts) alts →
    IsChooser (unit_with m alts)
unit_with-IsChooser m alts v some few there =
    let count : length (unit_with m alts).alts ≡ length alts = length-map alts (λ (a : ℕ). alt_at m a) in
    let within : (k : ℕ) → k < length (unit_with m alts).alts → k < length alts = λ k l. omega (arith, l, count) in
    let is : (k : ℕ) → k < length (unit_with m alts).alts → alt_at m (slice_index alts k) ≡ alt_at (unit_with m alts) k =
    λ k l. sym (unit_with-alt m alts k (within k l)) in
    let old : (k : ℕ) → k < length (unit_with m alts).alts → slice_index alts k < length m.alts = λ k l. there k 0 (within k l) in
    record {
      some = omega (arith, some, count);
      few_alts = omega (arith, few, count);
      few_parts = v.few_parts;
      cost = λ k l. subst (λ (alt : Alt). alt.cost < 2 ^ 24) (is k l) (v.cost (slice_index alts k) (old k l));
      one = λ k l. subst (λ (alt : Alt). ForSome alt.one (λ n. n < length m.parts)) (is k l) (v.one (slice_index alts k) (old k l));
      two = λ k l. subst (λ (alt : Alt). ForSome alt.two (λ n. n < length m.parts)) (is k l) (v.two (slice_index alts k) (old k l));
      uses = λ k r l. omega (arith, unit_with-uses m alts k r (within k l), v.uses (slice_index alts k) r (old k l));
    }

-- the numbers that a choice takes, unit by unit
pub whole-length : (alts : List (List ℕ)) (y : List ℕ) → length (whole_choice alts y) ≡ length alts
whole-length alts y = length-map-range_with_len {X = ℕ} (λ u. whole_alt alts y u) 0 (length alts)

pub whole-number : (alts : List (List ℕ)) (y : List ℕ) (u : ℕ) → u < length alts → slice_index (whole_choice alts y) u ≡ whole_alt alts y u
whole-number alts y u l =
    let e : 0 + u ≡ u = omega arith in
    get_or-map-range_with_len {X = ℕ} (λ v. whole_alt alts y v) 0 (length alts) u u 0 l e

pub whole-is : (alts : List (List ℕ)) (y x : List ℕ) → length x ≡ length alts → ((u : ℕ) → u < length alts → whole_alt alts y u ≡ slice_index x u) →
    whole_choice alts y ≡ x
whole-is alts y x e same =
    ext_get_or 0 (whole_choice alts y) x (whole-length alts y ∙ sym e)
    (λ u l. let l' : u < length alts = omega (arith, l, whole-length alts y) in whole-number alts y u l' ∙ same u l')

module _ (p : ProblemView) (alts : ℕ → List ℕ) where
  pub with-count : unit_count (problem_with p alts) ≡ unit_count p
  with-count = length-map-range_with_len {X = ChooserView} (λ u. unit_with (chooser_at p u) (alts u)) 0 (unit_count p)

  pub with-unit : (u : ℕ) → u < unit_count p → chooser_at (problem_with p alts) u ≡ unit_with (chooser_at p u) (alts u)
  with-unit u l =
      let e : 0 + u ≡ u = omega arith in
      get_or-map-range_with_len {X = ChooserView} (λ v. unit_with (chooser_at p v) (alts v)) 0 (unit_count p) u u no_unit l e

  pub with-alts : (u : ℕ) → u < unit_count p → alt_count (problem_with p alts) u ≡ length (alts u)
  with-alts u l =
      ap (λ (m : ChooserView). length m.alts) (with-unit u l) ∙ length-map (alts u) (λ (a : ℕ). alt_at (chooser_at p u) a)

  pub with-alt : (u k : ℕ) → u < unit_count p → k < length (alts u) →
      alt_at (chooser_at (problem_with p alts) u) k ≡ alt_at (chooser_at p u) (slice_index (alts u) k)
  with-alt u k l m = ap (λ (c : ChooserView). alt_at c k) (with-unit u l) ∙ unit_with-alt (chooser_at p u) (alts u) k m

  pub with-cost : (u k : ℕ) → u < unit_count p → k < length (alts u) →
      alt_cost (problem_with p alts) u k ≡ alt_cost p u (slice_index (alts u) k)
  with-cost u k l m = ap (λ (alt : Alt). alt.cost) (with-alt u k l m)

  pub with-uses : (u k r : ℕ) → u < unit_count p → k < length (alts u) →
      alt_uses (problem_with p alts) u k r ≡ alt_uses p u (slice_index (alts u) k) r
  with-uses u k r l m = ap (λ (c : ChooserView). chooser_uses c k r) (with-unit u l) ∙ unit_with-uses (chooser_at p u) (alts u) k r m

  -- x takes of each unit the alternative that y takes of those that are listed
  pub record IsTakenBy (y x : List ℕ) : Type 0 where
    pub count : length y ≡ unit_count p
    pub place : (u : ℕ) → u < unit_count p → slice_index y u < length (alts u)
    pub same : (u : ℕ) → u < unit_count p → slice_index (alts u) (slice_index y u) ≡ slice_index x u

  -- then they cost the same
  pub taken-cost : (y x : List ℕ) → IsTakenBy y x → choice_cost (problem_with p alts) y ≡ choice_cost p x
  taken-cost y x t =
      ap (λ (n : ℕ). sum_below n (λ u. alt_cost (problem_with p alts) u (slice_index y u))) with-count
      ∙ sum_below-same (unit_count p) (λ u. alt_cost (problem_with p alts) u (slice_index y u)) (λ u. alt_cost p u (slice_index x u))
      (λ u l. with-cost u (slice_index y u) l (t.place u l) ∙ ap (λ (a : ℕ). alt_cost p u a) (t.same u l))

  -- and use the same
  taken-load : (y x : List ℕ) (r : ℕ) → IsTakenBy y x → load_of (problem_with p alts) y r ≡ load_of p x r
  taken-load y x r t =
      ap (λ (n : ℕ). sum_below n (λ u. alt_uses (problem_with p alts) u (slice_index y u) r)) with-count
      ∙ sum_below-same (unit_count p) (λ u. alt_uses (problem_with p alts) u (slice_index y u) r) (λ u. alt_uses p u (slice_index x u) r)
      (λ u l. with-uses u (slice_index y u) r l (t.place u l) ∙ ap (λ (a : ℕ). alt_uses p u a r) (t.same u l))

  taken-choice : (y x : List ℕ) → IsTakenBy y x → IsChoice (problem_with p alts) y
  taken-choice y x t = record {
    length = t.count ∙ sym with-count;
    there = λ u l.
        let l' : u < unit_count p = omega (arith, l, with-count) in
        omega (arith, t.place u l', with-alts u l');
  }

  pub taken-feasible : (y x : List ℕ) → IsTakenBy y x → IsFeasible p x → IsFeasible (problem_with p alts) y
  taken-feasible y x t f = record {
    choice = taken-choice y x t;
    fits = λ r l. omega (arith, f.fits r l, taken-load y x r t);
  }

  pub taken-back : (y x : List ℕ) → IsTakenBy y x → IsChoice p x → IsFeasible (problem_with p alts) y → IsFeasible p x
  taken-back y x t c f = record {
    choice = c;
    fits = λ r l. omega (arith, f.fits r l, taken-load y x r t);
  }

  -- the numbers of the alternatives, unit by unit
  abbrev pub numbers_with : List (List ℕ)
  numbers_with = map (λ u. alts u) (range_with_len 0 (unit_count p))

  pub numbers-count : length numbers_with ≡ unit_count p
  numbers-count = length-map-range_with_len {X = List ℕ} alts 0 (unit_count p)

  pub numbers-at : (u : ℕ) → u < unit_count p → slice_index_or numbers_with u [] ≡ alts u
  numbers-at u l = let e : 0 + u ≡ u = omega arith in get_or-map-range_with_len {X = List ℕ} alts 0 (unit_count p) u u [] l e

  numbers-in : (u : ℕ) → u < unit_count p → u < length numbers_with
  numbers-in u l = omega (arith, l, numbers-count)

  whole-at : (y : List ℕ) (u : ℕ) → u < unit_count p → slice_index (whole_choice numbers_with y) u ≡ slice_index (alts u) (slice_index y u)
  whole-at y u l = whole-number numbers_with y u (numbers-in u l) ∙ ap (λ (xs : List ℕ). slice_index xs (slice_index y u)) (numbers-at u l)

  -- a choice of the problem with these alternatives is one of the whole problem
  pub choice-taken : (y : List ℕ) → IsChoice (problem_with p alts) y → IsTakenBy y (whole_choice numbers_with y)
  choice-taken y c = record {
    count = c.length ∙ with-count;
    place = λ u l. let l' : u < unit_count (problem_with p alts) = omega (arith, l, with-count) in omega (arith, c.there u l', with-alts u l);
    same = λ u l. sym (whole-at y u l);
  }

  pub whole-choice : ((u : ℕ) → u < unit_count p → All (λ a. a < alt_count p u) (alts u)) → (y : List ℕ) → IsChoice (problem_with p alts) y →
      IsChoice p (whole_choice numbers_with y)
  whole-choice within y c = record {
    length = whole-length numbers_with y ∙ numbers-count;
    there = λ u l. omega (arith, whole-at y u l, within u l (slice_index y u) 0 ((choice-taken y c).place u l));
  }

  pub taken-whole : (y x : List ℕ) → IsTakenBy y x → length x ≡ unit_count p → whole_choice numbers_with y ≡ x
  taken-whole y x t e =
      whole-is numbers_with y x (e ∙ sym numbers-count)
      (λ u l.
      let l' : u < unit_count p = omega (arith, l, numbers-count) in
      ap (λ (xs : List ℕ). slice_index xs (slice_index y u)) (numbers-at u l') ∙ t.same u l')
