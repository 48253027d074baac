-- Of problems that are alike the same alternatives are out, and what is left of them is alike.
use Rattle.std.proofs.Common.{◌≡◌, ℕ, ◌-◌, ◌<◌, not, List, length, Option, Some, None, sym, ◌∙◌, ap, subst, arith, pos, ◌-ℤ◌, ◌*ℤ◌, ℤ}
use Rattle.std.specs.Prelude.{All, slice_index, slice_set, int_lt, nat_lt}
use Rattle.choice_problem.specs.declared.vectors.Price.{Price}
use Rattle.choice_problem.specs.Problems.{ProblemView, unit_count, alt_count, resource_count, alt_cost, alt_uses}
use Rattle.choice_problem.specs.Alike.{AreAlike}
use Rattle.choice_problem.specs.Bounds.{whole_of, bound_of}
use Rattle.choice_problem.specs.Trees.{vector_at}
use Rattle.cost_fixing.specs.declared.fixings.Fixing.{Fixing}
use Rattle.cost_fixing.specs.Fixings.{fixed_at, is_out, uses_last, parted, left_alts, problem_with, FixingHolds, tree_problem}
use Rattle.cost_fixing.proofs.ListLemmas.{parted-there, parted-agree}
use Rattle.cost_fixing.proofs.WithLemmas.{with-count, with-alts, with-cost, with-uses}

-- what is said of problems that are alike
abbrev pub WholeAlike : Type 0
WholeAlike = (p q : ProblemView) → AreAlike p q → whole_of p ≡ whole_of q

abbrev pub BoundAlike : Type 0
BoundAlike = (p q : ProblemView) (ranges : List (ℕ × ℕ)) (prices : List Price) (scale : ℕ) → AreAlike p q → bound_of p ranges prices scale ≡ bound_of q ranges prices scale

out-same : WholeAlike → BoundAlike → (p q : ProblemView) (prices : List Price) (scale cost u a : ℕ) → AreAlike p q → is_out p prices scale cost u a ≡ is_out q prices scale cost u a
out-same whole bound p q prices scale cost u a alike =
    let ranges : fixed_at p u a ≡ fixed_at q u a = ap (λ (w : List (ℕ × ℕ)). slice_set w u (a, a)) (whole p q alike) in
    let bounds : bound_of p (fixed_at p u a) prices scale ≡ bound_of q (fixed_at q u a) prices scale =
    bound p q (fixed_at p u a) prices scale alike ∙ ap (λ (w : List (ℕ × ℕ)). bound_of q w prices scale) ranges in
    ap (λ (z : ℤ). int_lt (pos scale *ℤ (pos cost -ℤ pos 1)) z) bounds

last-same : (p q : ProblemView) (u a : ℕ) → AreAlike p q → u < unit_count p → a < alt_count p u → uses_last p u a ≡ uses_last q u a
last-same p q u a alike lt la =
    ap (λ (n : ℕ). nat_lt 0 n) (alike.uses u a (resource_count p - 1) lt la ∙ ap (λ (n : ℕ). alt_uses q u a (n - 1)) alike.resources)

left-same : WholeAlike → BoundAlike → (p q : ProblemView) (prices : List Price) (scale cost u : ℕ) → AreAlike p q → u < unit_count p →
    left_alts p prices scale cost u ≡ left_alts q prices scale cost u
left-same whole bound p q prices scale cost u alike lt =
    parted-agree (λ a. not (is_out p prices scale cost u a)) (λ a. uses_last p u a) (λ a. not (is_out q prices scale cost u a)) (λ a. uses_last q u a) (alt_count p u)
    (λ a la. ap not (out-same whole bound p q prices scale cost u a alike)) (λ a la. last-same p q u a alike lt la)
    ∙ ap (λ (n : ℕ). parted (λ a. not (is_out q prices scale cost u a)) (λ a. uses_last q u a) n) (alike.alts u lt)

-- the same alternatives of problems that are alike
with-alike : (p q : ProblemView) (one other : ℕ → List ℕ) → AreAlike p q → ((u : ℕ) → u < unit_count p → one u ≡ other u) →
    ((u : ℕ) → u < unit_count p → All (λ a. a < alt_count p u) (one u)) → AreAlike (problem_with p one) (problem_with q other)
with-alike p q one other alike same there =
    let mine : (u : ℕ) → u < unit_count (problem_with p one) → u < unit_count p = λ u lt. omega (arith, lt, with-count p one) in
    let theirs : (u : ℕ) → u < unit_count (problem_with p one) → u < unit_count q = λ u lt. omega (arith, lt, with-count p one, alike.units) in
    let within : (u a : ℕ) → u < unit_count (problem_with p one) → a < alt_count (problem_with p one) u → a < length (one u) = λ u a lt la. omega (arith, la, with-alts p one u (mine u lt)) in
    let also : (u a : ℕ) → u < unit_count (problem_with p one) → a < alt_count (problem_with p one) u → a < length (other u) =
    λ u a lt la. subst (λ (xs : List ℕ). a < length xs) (same u (mine u lt)) (within u a lt la) in
    let number : (u a : ℕ) → u < unit_count (problem_with p one) → a < alt_count (problem_with p one) u → slice_index (one u) a < alt_count p u =
    λ u a lt la. there u (mine u lt) a 0 (within u a lt la) in
    record {
      units = with-count p one ∙ alike.units ∙ sym (with-count q other);
      alts = λ u lt. with-alts p one u (mine u lt) ∙ ap (λ (xs : List ℕ). length xs) (same u (mine u lt)) ∙ sym (with-alts q other u (theirs u lt));
      costs = λ u a lt la. with-cost p one u a (mine u lt) (within u a lt la) ∙ alike.costs u (slice_index (one u) a) (mine u lt) (number u a lt la)
          ∙ ap (λ (xs : List ℕ). alt_cost q u (slice_index xs a)) (same u (mine u lt)) ∙ sym (with-cost q other u a (theirs u lt) (also u a lt la));
      uses = λ u a r lt la. with-uses p one u a r (mine u lt) (within u a lt la) ∙ alike.uses u (slice_index (one u) a) r (mine u lt) (number u a lt la)
          ∙ ap (λ (xs : List ℕ). alt_uses q u (slice_index xs a) r) (same u (mine u lt)) ∙ sym (with-uses q other u a r (theirs u lt) (also u a lt la));
      resources = alike.resources;
      limits = alike.limits;
    }

-- what a fixing leaves, and whether it holds
pub tree-alike : WholeAlike → BoundAlike → (p q : ProblemView) (vectors : List (List Price)) (fixing : Option Fixing) → AreAlike p q → AreAlike (tree_problem p vectors fixing) (tree_problem q vectors fixing)
tree-alike whole bound p q vectors None alike = alike
tree-alike whole bound p q vectors (Some f) alike =
    let prices = vector_at vectors f.vector in
    with-alike p q (λ u. left_alts p prices f.scale f.cost u) (λ u. left_alts q prices f.scale f.cost u) alike (λ u lt. left-same whole bound p q prices f.scale f.cost u alike lt)
    (λ u lt. parted-there (λ a. not (is_out p prices f.scale f.cost u a)) (λ a. uses_last p u a) (alt_count p u))

pub holds-alike : WholeAlike → BoundAlike → (p q : ProblemView) (vectors : List (List Price)) (cost : Option ℕ) (f : Fixing) → AreAlike p q → FixingHolds p vectors cost f → FixingHolds q vectors cost f
holds-alike whole bound p q vectors cost f alike holds = record {
  there = holds.there;
  small = holds.small;
  within = holds.within;
  left = λ u lt.
      let mine : u < unit_count p = omega (arith, lt, alike.units) in
      subst (λ (xs : List ℕ). 0 < length xs) (left-same whole bound p q (vector_at vectors f.vector) f.scale f.cost u alike mine) (holds.left u mine);
}
