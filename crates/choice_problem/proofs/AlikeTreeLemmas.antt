-- Problems with the same numbers: the greedy cost, node vectors and driven trees of one are those of the other.
use Rattle.std.proofs.Common.{◌≡◌, ℕ, zero, suc, ◌+◌, ◌-◌, ◌*◌, ◌<◌, ◌≤◌, refl, sym, ◌∙◌, ap, subst, arith, List, [], ◌∷◌, length, Option, Some, None}
use Rattle.std.proofs.Math.Path.{fun_ext}
use Rattle.std.specs.Prelude.{slice_index, ℤ, ◌<ℤ◌, ◌≤ℤ◌}
use Rattle.std.proofs.lemmas.Int.{ints}
use Rattle.choice_problem.specs.declared.vectors.Price.{Price}
use Rattle.choice_problem.specs.declared.nodes.Node.{Node}
use Rattle.choice_problem.specs.declared.nodes.Node.TheVariants.{Split, Leaf, Over, Undone}
use Rattle.finite_sums.specs.Sums.{sum_below, least_within, first_least, IsFirstLeast}
use Rattle.choice_problem.specs.Problems.{ProblemView, unit_count, alt_count, resource_count, limit_of}
use Rattle.choice_problem.specs.Choices.{IsFirstPassed}
use Rattle.choice_problem.specs.Bounds.{bound_of, priced, whole_of, low_of, high_of}
use Rattle.choice_problem.specs.Greedy.{FitsOn, IsBestBelow, IsGreedy, GreedyStops, IsGreedyCost, load_before}
use Rattle.choice_problem.specs.Roots.{vector_of, priced_load, step_length, price_after, step_vector, IsNodeVector, IsRootVector}
use Rattle.choice_problem.specs.Splits.{StaysOpen, IsCheapest, IsSplitAt}
use Rattle.choice_problem.specs.Driven.{IsDrivenNode, AreDriven, IsDriven}
use Rattle.choice_problem.specs.Alike.{AreAlike}
use Rattle.choice_problem.proofs.ShapeLemmas.{AreTrees-map}
use Rattle.choice_problem.proofs.AlikeLemmas.{moved, same_whole, AreAlike-sym, choice_cost-alike, bound_of-alike, Closes-alike, IsOver-alike, LeafHolds-alike, OverHolds-alike}

-- the greedy choice
FitsOn-alike : (p q : ProblemView) (loads : ℕ → ℕ) (u a : ℕ) → AreAlike p q → FitsOn p loads u a → FitsOn q loads u a
FitsOn-alike p q loads u a h f = moved p q h (λ n. (r : ℕ) → r < n.resources → loads r + n.uses u a r ≤ n.limits r) f

IsBestBelow-alike : (p q : ProblemView) (loads : ℕ → ℕ) (u n a : ℕ) → AreAlike p q → IsBestBelow p loads u n a → IsBestBelow q loads u n a
IsBestBelow-alike p q loads u n a h b = record {
  there = b.there;
  fits = FitsOn-alike p q loads u a h b.fits;
  least = λ c l f. moved p q h (λ m. m.costs u a ≤ m.costs u c) (b.least c l (FitsOn-alike q p loads u c (AreAlike-sym p q h) f));
  first = λ c l f. moved p q h (λ m. m.costs u a < m.costs u c) (b.first c l (FitsOn-alike q p loads u c (AreAlike-sym p q h) f));
}

IsGreedy-alike : (p q : ProblemView) (n : ℕ) (x : List ℕ) → AreAlike p q → IsGreedy p n x → IsGreedy q n x
IsGreedy-alike p q n x h g = record {
  length = g.length;
  each = λ u l.
      moved p q h (λ m. IsBestBelow q (λ r. sum_below u (λ v. m.uses v (slice_index x v) r)) u (m.alts u) (slice_index x u))
      (IsBestBelow-alike p q (λ r. load_before p x u r) u (alt_count p u) (slice_index x u) h (g.each u l));
}

GreedyStops-alike : (p q : ProblemView) (x : List ℕ) → AreAlike p q → GreedyStops p x → GreedyStops q x
GreedyStops-alike p q x h s = record {
  before = IsGreedy-alike p q (length x) x h s.before;
  there = moved p q h (λ n. length x < n.units) s.there;
  none = λ a l f.
      s.none a (moved q p (AreAlike-sym p q h) (λ m. a < m.alts (length x)) l)
      (moved q p (AreAlike-sym p q h)
      (λ m. (r : ℕ) → r < m.resources → sum_below (length x) (λ v. m.uses v (slice_index x v) r) + m.uses (length x) a r ≤ m.limits r) f);
}

pub IsGreedyCost-alike : (p q : ProblemView) (cost : Option ℕ) → AreAlike p q → IsGreedyCost p cost → IsGreedyCost q cost
IsGreedyCost-alike p q (Some g) h k = (
  k.0,
  moved p q h (λ n. IsGreedy q n.units k.0) (IsGreedy-alike p q (unit_count p) k.0 h k.1),
  sym (choice_cost-alike p q k.0 h) ∙ k.2,
)
IsGreedyCost-alike p q None h k = (k.0, GreedyStops-alike p q k.0 h k.1)

-- node vectors
price_after-alike : (p q : ProblemView) (ranges : List (ℕ × ℕ)) (step : ℕ) → AreAlike p q → (r : ℕ) → price_after p ranges step r ≡ price_after q ranges step r
price_after-alike p q ranges zero h r = refl
price_after-alike p q ranges (suc step) h r =
    let next : (ℕ → ℕ) → ℕ = λ prices. (prices r + step_length step * priced_load p ranges prices r) - step_length step * limit_of p r in
    let before : (λ (i : ℕ). price_after p ranges step i) ≡ (λ (i : ℕ). price_after q ranges step i) = fun_ext (price_after-alike p q ranges step h) in
    let prices : ℕ → ℕ = λ i. price_after q ranges step i in
    ap next before
    ∙ moved p q h
    (λ m. next prices
    ≡ (prices r + step_length step * sum_below m.units (λ u. m.uses u (first_least (low_of ranges u) (high_of ranges u)
    (λ a. 1024 * m.costs u a + priced (vector_of m.resources prices) (λ i. m.uses u a i))) r)) - step_length step * m.limits r)
    refl

step_vector-alike : (p q : ProblemView) (ranges : List (ℕ × ℕ)) (step : ℕ) → AreAlike p q → step_vector p ranges step ≡ step_vector q ranges step
step_vector-alike p q ranges step h =
    ap (λ (f : ℕ → ℕ). vector_of (resource_count p) f) (fun_ext (price_after-alike p q ranges step h))
    ∙ moved p q h (λ m. vector_of (resource_count p) (λ i. price_after q ranges step i) ≡ vector_of m.resources (λ i. price_after q ranges step i)) refl

bound_at-alike : (p q : ProblemView) (ranges : List (ℕ × ℕ)) (k : ℕ) → AreAlike p q →
    bound_of p ranges (step_vector p ranges k) 1024 ≡ bound_of q ranges (step_vector q ranges k) 1024
bound_at-alike p q ranges k h =
    ap (λ (v : List Price). bound_of p ranges v 1024) (step_vector-alike p q ranges k h) ∙ bound_of-alike p q ranges (step_vector q ranges k) 1024 h

le_same : (a b c d : ℤ) → a ≡ c → b ≡ d → a ≤ℤ b → c ≤ℤ d
le_same a b c d e f l = omega (arith, ints)

less_same : (a b c d : ℤ) → a ≡ c → b ≡ d → a <ℤ b → c <ℤ d
less_same a b c d e f l = omega (arith, ints)

pub IsNodeVector-alike : (p q : ProblemView) (ranges : List (ℕ × ℕ)) (prices : List Price) → AreAlike p q → IsNodeVector p ranges prices → IsNodeVector q ranges prices
IsNodeVector-alike p q ranges prices h v = record {
  step = v.step;
  counted = v.counted;
  prices_are = v.prices_are ∙ step_vector-alike p q ranges v.step h;
  greatest = λ k l.
      le_same (bound_of p ranges (step_vector p ranges k) 1024) (bound_of p ranges (step_vector p ranges v.step) 1024)
      (bound_of q ranges (step_vector q ranges k) 1024) (bound_of q ranges (step_vector q ranges v.step) 1024)
      (bound_at-alike p q ranges k h) (bound_at-alike p q ranges v.step h) (v.greatest k l);
  first = λ k l.
      less_same (bound_of p ranges (step_vector p ranges k) 1024) (bound_of p ranges (step_vector p ranges v.step) 1024)
      (bound_of q ranges (step_vector q ranges k) 1024) (bound_of q ranges (step_vector q ranges v.step) 1024)
      (bound_at-alike p q ranges k h) (bound_at-alike p q ranges v.step h) (v.first k l);
}

IsRootVector-alike : (p q : ProblemView) (prices : List Price) → AreAlike p q → IsRootVector p prices → IsRootVector q prices
IsRootVector-alike p q prices h v =
    subst (λ (whole : List (ℕ × ℕ)). IsNodeVector q whole prices) (same_whole p q h) (IsNodeVector-alike p q (whole_of p) prices h v)

-- driven trees
StaysOpen-alike : (p q : ProblemView) (root : List Price) (ranges : List (ℕ × ℕ)) (seen : Option ℕ) → AreAlike p q →
    StaysOpen p root ranges seen → StaysOpen q root ranges seen
StaysOpen-alike p q root ranges seen h s = record {
  none_over = λ r l o. s.none_over r (moved q p (AreAlike-sym p q h) (λ n. r < n.resources) l) (IsOver-alike q p ranges r (AreAlike-sym p q h) o);
  no_zero = λ c. s.no_zero (Closes-alike q p ranges [] 1 seen (AreAlike-sym p q h) c);
  no_root = λ c. s.no_root (Closes-alike q p ranges root 1024 seen (AreAlike-sym p q h) c);
}

IsCheapest-alike : (p q : ProblemView) (ranges : List (ℕ × ℕ)) (x : List ℕ) → AreAlike p q → IsCheapest p ranges x → IsCheapest q ranges x
IsCheapest-alike p q ranges x h c = record {
  length = moved p q h (λ n. length x ≡ n.units) c.length;
  each = moved p q h (λ n. (u : ℕ) → u < n.units → IsFirstLeast (low_of ranges u) (high_of ranges u) (λ b. n.costs u b) (slice_index x u)) c.each;
}

IsFirstPassed-alike : (p q : ProblemView) (x : List ℕ) (r : ℕ) → AreAlike p q → IsFirstPassed p x r → IsFirstPassed q x r
IsFirstPassed-alike p q x r h f = record {
  there = moved p q h (λ n. r < n.resources) f.there;
  passed = moved p q h (λ n. n.limits r < sum_below n.units (λ u. n.uses u (slice_index x u) r)) f.passed;
  first = moved p q h (λ n. (i : ℕ) → i < r → sum_below n.units (λ u. n.uses u (slice_index x u) i) ≤ n.limits i) f.first;
}

IsSplitAt-alike : (p q : ProblemView) (ranges : List (ℕ × ℕ)) (x : List ℕ) (r unit cut : ℕ) → AreAlike p q →
    IsSplitAt p ranges x r unit cut → IsSplitAt q ranges x r unit cut
IsSplitAt-alike p q ranges x r unit cut h s = record {
  passed = IsFirstPassed-alike p q x r h s.passed;
  there = moved p q h (λ n. unit < n.units) s.there;
  more = moved p q h (λ n. least_within (low_of ranges unit) (high_of ranges unit) (λ a. n.uses unit a r) < n.uses unit (slice_index x unit) r) s.more;
  first = moved p q h
      (λ n. (u : ℕ) → u < unit → n.uses u (slice_index x u) r ≤ least_within (low_of ranges u) (high_of ranges u) (λ a. n.uses u a r)) s.first;
  place = s.place;
}

IsDrivenNode-alike : (p q : ProblemView) (vectors : List (List Price)) (root : List Price) (ranges : List (ℕ × ℕ)) (node : Node) → AreAlike p q →
    IsDrivenNode p vectors root ranges node → IsDrivenNode q vectors root ranges node
IsDrivenNode-alike p q vectors root ranges (Split unit cut seen) h n = (
  StaysOpen-alike p q root ranges seen h n.0,
  n.1,
  (n.2.0, n.2.1, (IsCheapest-alike p q ranges n.2.0 h n.2.2.0, IsSplitAt-alike p q ranges n.2.0 n.2.1 unit cut h n.2.2.1)),
)
IsDrivenNode-alike p q vectors root ranges (Leaf vector scale seen) h n = LeafHolds-alike p q vectors seen ranges vector scale h n
IsDrivenNode-alike p q vectors root ranges (Over resource) h n = OverHolds-alike p q ranges resource h n
IsDrivenNode-alike p q vectors root ranges Undone h n = n

pub AreDriven-alike : (p q : ProblemView) (vectors : List (List Price)) (root : List Price) (pending : List (List (ℕ × ℕ))) (nodes : List Node) →
    AreAlike p q → AreDriven p vectors root pending nodes → AreDriven q vectors root pending nodes
AreDriven-alike p q vectors root pending nodes h d =
    AreTrees-map (λ ranges node. IsDrivenNode p vectors root ranges node) (λ ranges node. IsDrivenNode q vectors root ranges node)
    (λ ranges node n. IsDrivenNode-alike p q vectors root ranges node h n) pending nodes d

pub IsDriven-alike : (p q : ProblemView) (vectors : List (List Price)) (result : Option ℕ) (nodes : List Node) → AreAlike p q →
    IsDriven p vectors result nodes → IsDriven q vectors result nodes
IsDriven-alike p q vectors result nodes h d = record {
  greedy = d.greedy;
  root = d.root;
  greedy_is = IsGreedyCost-alike p q d.greedy h d.greedy_is;
  root_is = IsRootVector-alike p q d.root h d.root_is;
  tree = record {
    trees =
        subst (λ (whole : List (ℕ × ℕ)). AreDriven q vectors d.root (whole ∷ []) nodes) (same_whole p q h)
        (AreDriven-alike p q vectors d.root (whole_of p ∷ []) nodes h d.tree.trees);
    between = d.tree.between;
    reached = d.tree.reached;
  };
}
