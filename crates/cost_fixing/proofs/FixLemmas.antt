-- Choices below the cost take no alternative that is out, so what is left decides.
use Rattle.std.proofs.Common.{◌≡◌, ℕ, zero, suc, ◌+◌, ◌-◌, ◌<◌, ◌≤◌, ◌↔◌, Bool, true, false, T, not, List, [], ◌∷◌, ◌++◌, length, get_or, map, Option, Some, None, refl, sym, ◌∙◌, ap, subst, arith, inl, inr}
use Rattle.std.specs.Prelude.{All, slice_index, IfSome}
use Rattle.std.specs.List.{range_with_len, AllZip}
use Rattle.std.specs.Bool.{passes}
use Rattle.std.proofs.lemmas.Bool.{cases_lt, cases_eq, cases_Bool}
use Rattle.std.proofs.lemmas.List.{get_or-set_same, get_or-set_other, get_or-map, length-map}
use Rattle.std.proofs.lemmas.List.FromFn.{get_or-map-range_with_len, length-map-range_with_len}
use Rattle.std.proofs.lemmas.List.Elements.{All-weaker}
use Rattle.choice_problem.specs.declared.vectors.Price.{Price}
use Rattle.choice_problem.specs.declared.nodes.Node.{Node}
use Rattle.choice_problem.specs.declared.nodes.Node.TheVariants.{Split, Leaf, Over, Undone}
use Rattle.choice_problem.specs.Problems.{ProblemView, ChooserView, unit_count, alt_count}
use Rattle.choice_problem.specs.Choices.{IsChoice, IsFeasible, IsBest, HasNone, choice_cost}
use Rattle.choice_problem.specs.Bounds.{low_of, high_of, IsWithin, IsVector, IsPrice, Closes, whole_of}
use Rattle.choice_problem.specs.Trees.{IsSound, IsWhole, LeafHolds, vector_at, parts_of}
use Rattle.choice_problem.specs.Grafts.{open_ranges}
use Rattle.choice_problem.specs.Floors.{AreFloors, IsAtMost}
use Rattle.cost_fixing.specs.declared.fixings.Fixing.{Fixing}
use Rattle.cost_fixing.specs.Fixings.{fixed_at, is_out, uses_last, left_alts, left_problem, left_view, problem_with, whole_choice, FixingHolds, tree_problem}
use Rattle.cost_fixing.proofs.ListLemmas.{parted-at, parted-there, place_in}
use Rattle.cost_fixing.proofs.WithLemmas.{IsTakenBy, taken-cost, taken-feasible, taken-back, choice-taken, taken-whole, whole-choice, numbers_with}

-- a closed bound is one that reaches the cost
true_of : (b : Bool) → T b → b ≡ true
true_of true t = refl
true_of false t = absurd t

pub out-closes : (p : ProblemView) (prices : List Price) (scale cost u a : ℕ) →
    is_out p prices scale cost u a ≡ true ↔ Closes p (fixed_at p u a) prices scale (Some cost)
out-closes p prices scale cost u a = (
  (λ e. record { lt = passes (is_out p prices scale cost u a) e }),
  (λ h. true_of (is_out p prices scale cost u a) h.lt),
)

-- a choice is within the alternatives of which one unit's is fixed at its own
pub whole-at : (p : ProblemView) (u : ℕ) → u < unit_count p → get_or (whole_of p) u (0, 0) ≡ (0, alt_count p u - 1)
whole-at p u l = get_or-map {Y = ℕ × ℕ} (λ (m : ChooserView). (0, length m.alts - 1)) p.units u (record { parts = []; alts = [] }) (0, 0) l

whole-count : (p : ProblemView) → length (whole_of p) ≡ unit_count p
whole-count p = length-map {B = ℕ × ℕ} p.units (λ (m : ChooserView). (0, length m.alts - 1))

fixed-same : (p : ProblemView) (u a : ℕ) → u < unit_count p → get_or (fixed_at p u a) u (0, 0) ≡ (a, a)
fixed-same p u a l = get_or-set_same (whole_of p) u (a, a) (0, 0) (omega (arith, l, whole-count p))

fixed-other : (p : ProblemView) (u a v : ℕ) → v < unit_count p → (v ≡ u → ⊥) → get_or (fixed_at p u a) v (0, 0) ≡ (0, alt_count p v - 1)
fixed-other p u a v l ne = get_or-set_other (whole_of p) u v (a, a) (0, 0) ne ∙ whole-at p v l

fixed-span : (p : ProblemView) (u : ℕ) (x : List ℕ) → IsChoice p x → u < unit_count p → (v : ℕ) → v < unit_count p →
    (low_of (fixed_at p u (slice_index x u)) v ≤ slice_index x v) × (slice_index x v ≤ high_of (fixed_at p u (slice_index x u)) v)
fixed-span p u x c l v m = elim (cases_eq v u) [
  | inl e ↦
      let s = fixed-same p u (slice_index x u) l in
      subst (λ (w : ℕ). (low_of (fixed_at p u (slice_index x u)) w ≤ slice_index x w) × (slice_index x w ≤ high_of (fixed_at p u (slice_index x u)) w)) (sym e)
      (omega (arith, ap (λ (z : ℕ × ℕ). z.0) s), omega (arith, ap (λ (z : ℕ × ℕ). z.1) s))
  | inr ne ↦
      let s = fixed-other p u (slice_index x u) v m ne in
      (omega (arith, ap (λ (z : ℕ × ℕ). z.0) s), omega (arith, ap (λ (z : ℕ × ℕ). z.1) s, c.there v m))
]

pub fixed-within : (p : ProblemView) (u : ℕ) (x : List ℕ) → IsChoice p x → u < unit_count p → IsWithin p (fixed_at p u (slice_index x u)) x
fixed-within p u x c l = record {
  from = λ v m. (fixed-span p u x c l v m).0;
  to = λ v m. (fixed-span p u x c l v m).1;
}

-- weak duality: what closed ranges say
abbrev pub ClosedCost : Type 0
ClosedCost = (p : ProblemView) (ranges : List (ℕ × ℕ)) (prices : List Price) (scale u : ℕ) (x : List ℕ) →
    IsVector p prices → Closes p ranges prices scale (Some u) → IsFeasible p x → IsWithin p ranges x → u ≤ choice_cost p x

-- a feasible choice of what is left is one of the whole problem
pub whole-back : (p : ProblemView) (prices : List Price) (scale cost : ℕ) (y : List ℕ) → IsFeasible (left_problem p prices scale cost) y →
    IsFeasible p (whole_choice (left_view p prices scale cost).alts y)
    × (choice_cost p (whole_choice (left_view p prices scale cost).alts y) ≡ choice_cost (left_problem p prices scale cost) y)
whole-back p prices scale cost y f =
    let alts : ℕ → List ℕ = λ u. left_alts p prices scale cost u in
    let x = whole_choice (numbers_with p alts) y in
    let t = choice-taken p alts y f.choice in
    let within = λ (u : ℕ) (l : u < unit_count p). parted-there (λ a. not (is_out p prices scale cost u a)) (λ a. uses_last p u a) (alt_count p u) in
    (taken-back p alts y x t (whole-choice p alts within y f.choice) f, sym (taken-cost p alts y x t))

module _ (closed : ClosedCost) (p : ProblemView) (prices : List Price) (scale cost : ℕ) (vector : IsVector p prices) where
  abbrev kept : ℕ → ℕ → Bool
  kept u a = not (is_out p prices scale cost u a)

  abbrev alts : ℕ → List ℕ
  alts u = left_alts p prices scale cost u

  pub out-cost : (x : List ℕ) (u : ℕ) → IsFeasible p x → u < unit_count p → is_out p prices scale cost u (slice_index x u) ≡ true →
      cost ≤ choice_cost p x
  out-cost x u f l e =
      closed p (fixed_at p u (slice_index x u)) prices scale cost x vector ((out-closes p prices scale cost u (slice_index x u)).0 e) f (fixed-within p u x f.choice l)

  pub none-out : (x : List ℕ) (u : ℕ) → IsFeasible p x → choice_cost p x < cost → u < unit_count p → is_out p prices scale cost u (slice_index x u) ≡ false
  none-out x u f less l = elim (cases_Bool (is_out p prices scale cost u (slice_index x u))) [
    | inl out ↦ absurd (omega (arith, less, out-cost x u f l out))
    | inr in_ ↦ in_
  ]

  -- the places of a choice's alternatives among those that are left
  abbrev place_of : List ℕ → ℕ → ℕ
  place_of x u = place_in (kept u) (λ a. uses_last p u a) (alt_count p u) (slice_index x u)

  abbrev places_of : List ℕ → List ℕ
  places_of x = map (λ u. place_of x u) (range_with_len 0 (unit_count p))

  places-at : (x : List ℕ) (u : ℕ) → u < unit_count p → slice_index (places_of x) u ≡ place_of x u
  places-at x u l = let e : 0 + u ≡ u = omega arith in get_or-map-range_with_len {X = ℕ} (λ v. place_of x v) 0 (unit_count p) u u 0 l e

  pub left-taken : (x : List ℕ) → IsFeasible p x → choice_cost p x < cost → IsTakenBy p alts (places_of x) x
  left-taken x f less = record {
    count = length-map-range_with_len {X = ℕ} (λ v. place_of x v) 0 (unit_count p);
    place = λ u l. rw (places-at x u l) (parted-at (kept u) (λ a. uses_last p u a) (alt_count p u) (slice_index x u) (f.choice.there u l) (ap not (none-out x u f less l))).there;
    same = λ u l. rw (places-at x u l) (parted-at (kept u) (λ a. uses_last p u a) (alt_count p u) (slice_index x u) (f.choice.there u l) (ap not (none-out x u f less l))).is;
  }

  -- the choice of what is left that a choice below the cost is
  pub left-choice : (x : List ℕ) → IsFeasible p x → choice_cost p x < cost →
      (y : List ℕ) × IsFeasible (left_problem p prices scale cost) y × (choice_cost (left_problem p prices scale cost) y ≡ choice_cost p x)
      × (whole_choice (left_view p prices scale cost).alts y ≡ x)
  left-choice x f less =
      let t = left-taken x f less in
      (places_of x, taken-feasible p alts (places_of x) x t f, taken-cost p alts (places_of x) x t, taken-whole p alts (places_of x) x t f.choice.length)

  -- where nothing that is left costs less than some cost up to the fixing's, nothing does
  pub left-least : (n : ℕ) → n ≤ cost → ((y : List ℕ) → IsFeasible (left_problem p prices scale cost) y → n ≤ choice_cost (left_problem p prices scale cost) y) →
      (x : List ℕ) → IsFeasible p x → n ≤ choice_cost p x
  left-least n most least x f = elim (cases_lt (choice_cost p x) n) [
    | inr from ↦ from
    | inl less ↦
        let y = left-choice x f (omega arith) in
        absurd (omega (arith, less, y.2, least y.0 y.1))
  ]

  pub left-best : (y : List ℕ) → IsBest (left_problem p prices scale cost) y → choice_cost (left_problem p prices scale cost) y ≤ cost →
      IsBest p (whole_choice (left_view p prices scale cost).alts y)
  left-best y b most =
      let back = whole-back p prices scale cost y b.feasible in
      record {
        feasible = back.0;
        least = λ x f. omega (arith, back.1, left-least (choice_cost (left_problem p prices scale cost) y) most b.least x f);
      }

  pub left-none : HasNone (left_problem p prices scale cost) → (x : List ℕ) → IsFeasible p x → cost ≤ choice_cost p x
  left-none none x f = left-least cost (omega arith) (λ y g. absurd (none y g)) x f

-- vectors depend on the resources alone
pub vector-with : (p : ProblemView) (alts : ℕ → List ℕ) (prices : List Price) → IsVector p prices → IsVector (problem_with p alts) prices
vector-with p alts prices v = record {
  rising = v.rising;
  each = All-weaker (IsPrice p) (IsPrice (problem_with p alts)) (λ e h. record { there = h.there; positive = h.positive; small = h.small }) prices v.each;
}

pub vector-of-with : (p : ProblemView) (alts : ℕ → List ℕ) (prices : List Price) → IsVector (problem_with p alts) prices → IsVector p prices
vector-of-with p alts prices v = record {
  rising = v.rising;
  each = All-weaker (IsPrice (problem_with p alts)) (IsPrice p) (λ e h. record { there = h.there; positive = h.positive; small = h.small }) prices v.each;
}

vector-nil : (p : ProblemView) → IsVector p []
vector-nil p = record {
  rising = λ i j d l m. absurd (omega arith);
  each = λ i d l. absurd (omega arith);
}

pub vector-named : (p : ProblemView) (vectors : List (List Price)) → All (IsVector p) vectors → (k : ℕ) → k ≤ length vectors → IsVector p (vector_at vectors k)
vector-named p vectors all zero h = vector-nil p
vector-named p vectors all (suc k) h = all k [] (omega arith)

-- whole trees have no open ranges
no-floors : (p : ProblemView) (vectors : List (List Price)) (floor : ℕ) (nodes : List Node) (pending : List (List (ℕ × ℕ))) → IsWhole nodes →
    AllZip (λ (ranges : List (ℕ × ℕ)) (named : ℕ × ℕ). LeafHolds p vectors (Some floor) ranges named.0 named.1) (open_ranges pending nodes) []
no-floors p vectors floor [] pending w = tt
no-floors p vectors floor (node ∷ nodes) [] w = tt
no-floors p vectors floor (Split unit cut seen ∷ nodes) (ranges ∷ pending) w =
    no-floors p vectors floor nodes (parts_of ranges (Split unit cut seen) ++ pending) w
no-floors p vectors floor (Leaf vector scale seen ∷ nodes) (ranges ∷ pending) w = no-floors p vectors floor nodes pending w
no-floors p vectors floor (Over resource ∷ nodes) (ranges ∷ pending) w = no-floors p vectors floor nodes pending w
no-floors p vectors floor (Undone ∷ nodes) (ranges ∷ pending) w = absurd w

-- what a sound tree says of the cost of choices
abbrev pub TreeCost : Type 0
TreeCost = (p : ProblemView) (vectors : List (List Price)) (cost : Option ℕ) (floor : ℕ) (nodes : List Node) (floors : List (ℕ × ℕ)) (x : List ℕ) →
    All (IsVector p) vectors → IsSound p vectors cost (whole_of p) nodes → IsAtMost floor cost → AreFloors p vectors floor nodes floors →
    IsFeasible p x → floor ≤ choice_cost p x

tree-least : TreeCost → (p : ProblemView) (vectors : List (List Price)) (n : ℕ) (nodes : List Node) → All (IsVector p) vectors →
    IsSound p vectors (Some n) (whole_of p) nodes → IsWhole nodes → (x : List ℕ) → IsFeasible p x → n ≤ choice_cost p x
tree-least tree p vectors n nodes all s w x f =
    tree p vectors (Some n) n nodes [] x all s (omega arith) (no-floors p vectors n nodes (whole_of p ∷ []) w) f

-- a whole and sound tree over what is left
pub fixed-least : ClosedCost → TreeCost → (p : ProblemView) (vectors : List (List Price)) (n : ℕ) (fixing : Option Fixing) (nodes : List Node) →
    All (IsVector p) vectors → IfSome fixing (FixingHolds p vectors (Some n)) →
    IsSound (tree_problem p vectors fixing) vectors (Some n) (whole_of (tree_problem p vectors fixing)) nodes → IsWhole nodes →
    (x : List ℕ) → IsFeasible p x → n ≤ choice_cost p x
fixed-least closed tree p vectors n None nodes all holds s w x f = tree-least tree p vectors n nodes all s w x f
fixed-least closed tree p vectors n (Some fixing) nodes all holds s w x f =
    let prices = vector_at vectors fixing.vector in
    let q = left_problem p prices fixing.scale fixing.cost in
    let alts : ℕ → List ℕ = λ u. left_alts p prices fixing.scale fixing.cost u in
    left-least closed p prices fixing.scale fixing.cost (vector-named p vectors all fixing.vector holds.there) n holds.within
    (λ y g. tree-least tree q vectors n nodes (All-weaker (IsVector p) (IsVector q) (λ v h. vector-with p alts v h) vectors all) s w y g) x f

pub fixed-best : ClosedCost → TreeCost → (p : ProblemView) (vectors : List (List Price)) (fixing : Option Fixing) (nodes : List Node) (x : List ℕ) →
    All (IsVector p) vectors → IsFeasible p x → IfSome fixing (FixingHolds p vectors (Some (choice_cost p x))) →
    IsSound (tree_problem p vectors fixing) vectors (Some (choice_cost p x)) (whole_of (tree_problem p vectors fixing)) nodes → IsWhole nodes →
    IsBest p x
fixed-best closed tree p vectors fixing nodes x all f holds s w = record {
  feasible = f;
  least = λ y g. fixed-least closed tree p vectors (choice_cost p x) fixing nodes all holds s w y g;
}
