-- Problems with the same numbers: what is said of one holds of the other.
use Rattle.std.proofs.Common.{◌≡◌, ℕ, ◌+◌, ◌-◌, ◌*◌, ◌<◌, ◌≤◌, refl, sym, ◌∙◌, ap, subst, arith, inl, inr, List, [], ◌∷◌, length, get_or, Option, Some, None, pos}
use Rattle.std.proofs.Math.Path.{fun_ext}
use Rattle.std.specs.Prelude.{slice_index, ℤ, ◌-ℤ◌, ◌*ℤ◌, ◌<ℤ◌}
use Rattle.std.specs.List.{AllZip}
use Rattle.std.proofs.lemmas.List.{get_or_past, get_or-map, length-map, same_lists}
use Rattle.std.proofs.lemmas.Bool.{cases_lt}
use Rattle.choice_problem.specs.declared.problems.Alt.{Alt}
use Rattle.choice_problem.specs.declared.vectors.Price.{Price}
use Rattle.choice_problem.specs.declared.nodes.Node.{Node}
use Rattle.choice_problem.specs.declared.nodes.Node.TheVariants.{Split, Leaf, Over, Undone}
use Rattle.finite_sums.specs.Sums.{sum_below, least_within}
use Rattle.choice_problem.specs.Problems.{ProblemView, ChooserView, chooser_at, alt_at, named_uses, chooser_uses, unit_count, alt_count, resource_count, limit_of, alt_cost, alt_uses}
use Rattle.choice_problem.specs.Choices.{IsFeasible, IsBest, HasNone, choice_cost}
use Rattle.choice_problem.specs.Bounds.{AreRanges, IsPrice, IsVector, Closes, IsOver, bound_of, priced, whole_of, low_of, high_of}
use Rattle.choice_problem.specs.Trees.{AreSound, NodeHolds, LeafHolds, OverHolds, vector_at}
use Rattle.choice_problem.specs.Floors.{IsClosedNode, AreClosed, IsFloored, AreFloors}
use Rattle.choice_problem.specs.Grafts.{open_ranges}
use Rattle.choice_problem.specs.Alike.{AreAlike}
use Rattle.choice_problem.proofs.ShapeLemmas.{AreTrees-map, AllZip-into}

pub record Numbers : Type 0 where
  pub units : ℕ
  pub alts : ℕ → ℕ
  pub costs : ℕ → ℕ → ℕ
  pub uses : ℕ → ℕ → ℕ → ℕ
  pub resources : ℕ
  pub limits : ℕ → ℕ
  pub whole : List (ℕ × ℕ)

abbrev pub numbers_of : ProblemView → Numbers
numbers_of p = record {
  units = unit_count p;
  alts = λ u. alt_count p u;
  costs = λ u a. alt_cost p u a;
  uses = λ u a r. alt_uses p u a r;
  resources = resource_count p;
  limits = λ r. limit_of p r;
  whole = whole_of p;
}

abbrev no_alt : Alt
no_alt = record { cost = 0; one = None; two = None }

abbrev no_chooser : ChooserView
no_chooser = record { parts = []; alts = [] }

pub AreAlike-sym : (p q : ProblemView) → AreAlike p q → AreAlike q p
AreAlike-sym p q h = record {
  units = sym h.units;
  alts = λ u l. sym (h.alts u (omega (arith, h.units)));
  costs = λ u a l m. let k : u < unit_count p = omega (arith, h.units) in sym (h.costs u a k (omega (arith, h.alts u k)));
  uses = λ u a r l m. let k : u < unit_count p = omega (arith, h.units) in sym (h.uses u a r k (omega (arith, h.alts u k)));
  resources = sym h.resources;
  limits = λ r l. sym (h.limits r (omega (arith, h.resources)));
}

-- the numbers are the same beyond the last unit, alternative and resource too
module _ (p q : ProblemView) (h : AreAlike p q) where
  past_unit : (u : ℕ) → unit_count p ≤ u → chooser_at p u ≡ chooser_at q u
  past_unit u l = get_or_past p.units u no_chooser l ∙ sym (get_or_past q.units u no_chooser (omega (arith, h.units)))

  same_alts : (u : ℕ) → alt_count p u ≡ alt_count q u
  same_alts u = elim (cases_lt u (unit_count p)) [
    | inl l ↦ h.alts u l
    | inr past ↦ ap (λ (m : ChooserView). length m.alts) (past_unit u past)
  ]

  same_costs : (u a : ℕ) → alt_cost p u a ≡ alt_cost q u a
  same_costs u a = elim (cases_lt u (unit_count p)) [
    | inl l ↦ elim (cases_lt a (alt_count p u)) [
      | inl m ↦ h.costs u a l m
      | inr past ↦
          ap (λ (alt : Alt). alt.cost) (get_or_past (chooser_at p u).alts a no_alt past)
          ∙ sym (ap (λ (alt : Alt). alt.cost) (get_or_past (chooser_at q u).alts a no_alt (omega (arith, past, same_alts u))))
    ]
    | inr past ↦ ap (λ (m : ChooserView). (alt_at m a).cost) (past_unit u past)
  ]

  none_used : (m : ChooserView) (a r : ℕ) → length m.alts ≤ a → chooser_uses m a r ≡ 0
  none_used m a r past = ap (λ (alt : Alt). named_uses m alt.one r + named_uses m alt.two r) (get_or_past m.alts a no_alt past)

  same_uses : (u a r : ℕ) → alt_uses p u a r ≡ alt_uses q u a r
  same_uses u a r = elim (cases_lt u (unit_count p)) [
    | inl l ↦ elim (cases_lt a (alt_count p u)) [
      | inl m ↦ h.uses u a r l m
      | inr past ↦ none_used (chooser_at p u) a r past ∙ sym (none_used (chooser_at q u) a r (omega (arith, past, same_alts u)))
    ]
    | inr past ↦ ap (λ (m : ChooserView). chooser_uses m a r) (past_unit u past)
  ]

  same_limits : (r : ℕ) → limit_of p r ≡ limit_of q r
  same_limits r = elim (cases_lt r (resource_count p)) [
    | inl l ↦ h.limits r l
    | inr past ↦ get_or_past p.limits r 0 past ∙ sym (get_or_past q.limits r 0 (omega (arith, past, h.resources)))
  ]

  abbrev span : ChooserView → ℕ × ℕ
  span m = (0, length m.alts - 1)

  pub same_whole : whole_of p ≡ whole_of q
  same_whole =
      let many : length (whole_of p) ≡ unit_count p = length-map {B = ℕ × ℕ} p.units (λ (m : ChooserView). (0, length m.alts - 1)) in
      let many_other : length (whole_of q) ≡ unit_count q = length-map {B = ℕ × ℕ} q.units (λ (m : ChooserView). (0, length m.alts - 1)) in
      same_lists (whole_of p) (whole_of q) (many ∙ h.units ∙ sym many_other)
      (λ k d l.
      let one : k < unit_count p = omega (arith, many) in
      let other : k < unit_count q = omega (arith, many, h.units) in
      get_or-map {Y = ℕ × ℕ} span p.units k no_chooser d one
      ∙ ap (λ (n : ℕ). (0, n - 1)) (h.alts k one)
      ∙ sym (get_or-map {Y = ℕ × ℕ} span q.units k no_chooser d other))

  pub same_numbers : numbers_of p ≡ numbers_of q
  same_numbers =
      ap (λ (v : ℕ). record (numbers_of p) { units = v }) h.units
      ∙ ap (λ (f : ℕ → ℕ). record (numbers_of p) { units = unit_count q; alts = f }) (fun_ext same_alts)
      ∙ ap (λ (f : ℕ → ℕ → ℕ). record (numbers_of p) { units = unit_count q; alts = (λ u. alt_count q u); costs = f }) (fun_ext (λ u. fun_ext (same_costs u)))
      ∙ ap (λ (f : ℕ → ℕ → ℕ → ℕ). record (numbers_of p) { units = unit_count q; alts = (λ u. alt_count q u); costs = (λ u a. alt_cost q u a); uses = f }) (fun_ext (λ u. fun_ext (λ a. fun_ext (same_uses u a))))
      ∙ ap (λ (v : ℕ). record (numbers_of q) { resources = v; limits = (λ r. limit_of p r); whole = whole_of p }) h.resources
      ∙ ap (λ (f : ℕ → ℕ). record (numbers_of q) { limits = f; whole = whole_of p }) (fun_ext same_limits)
      ∙ ap (λ (v : List (ℕ × ℕ)). record (numbers_of q) { whole = v }) same_whole

  -- what is said of the numbers
  pub moved : (F : Numbers → Type 0) → F (numbers_of p) → F (numbers_of q)
  moved F x = subst F same_numbers x

-- feasible and best choices
pub choice_cost-alike : (p q : ProblemView) (x : List ℕ) → AreAlike p q → choice_cost p x ≡ choice_cost q x
choice_cost-alike p q x h = moved p q h (λ n. choice_cost p x ≡ sum_below n.units (λ u. n.costs u (slice_index x u))) refl

pub IsFeasible-alike : (p q : ProblemView) (x : List ℕ) → AreAlike p q → IsFeasible p x → IsFeasible q x
IsFeasible-alike p q x h f = record {
  choice = record {
    length = moved p q h (λ n. length x ≡ n.units) f.choice.length;
    there = moved p q h (λ n. (u : ℕ) → u < n.units → slice_index x u < n.alts u) f.choice.there;
  };
  fits = moved p q h (λ n. (r : ℕ) → r < n.resources → sum_below n.units (λ u. n.uses u (slice_index x u) r) ≤ n.limits r) f.fits;
}

pub IsBest-alike : (p q : ProblemView) (x : List ℕ) → AreAlike p q → IsBest p x → IsBest q x
IsBest-alike p q x h b = record {
  feasible = IsFeasible-alike p q x h b.feasible;
  least = λ y f.
      moved p q h (λ n. sum_below n.units (λ u. n.costs u (slice_index x u)) ≤ sum_below n.units (λ u. n.costs u (slice_index y u)))
      (b.least y (IsFeasible-alike q p y (AreAlike-sym p q h) f));
}

pub HasNone-alike : (p q : ProblemView) → AreAlike p q → HasNone p → HasNone q
HasNone-alike p q h none = λ y f. none y (IsFeasible-alike q p y (AreAlike-sym p q h) f)

-- ranges, vectors and bounds
pub AreRanges-alike : (p q : ProblemView) (ranges : List (ℕ × ℕ)) → AreAlike p q → AreRanges p ranges → AreRanges q ranges
AreRanges-alike p q ranges h r = record {
  length = moved p q h (λ n. length ranges ≡ n.units) r.length;
  ordered = moved p q h (λ n. (u : ℕ) → u < n.units → low_of ranges u ≤ high_of ranges u) r.ordered;
  there = moved p q h (λ n. (u : ℕ) → u < n.units → high_of ranges u < n.alts u) r.there;
}

IsPrice-alike : (p q : ProblemView) (e : Price) → AreAlike p q → IsPrice p e → IsPrice q e
IsPrice-alike p q e h i = record {
  there = moved p q h (λ n. e.resource < n.resources) i.there;
  positive = i.positive;
  small = i.small;
}

pub IsVector-alike : (p q : ProblemView) (prices : List Price) → AreAlike p q → IsVector p prices → IsVector q prices
IsVector-alike p q prices h v = record {
  rising = v.rising;
  each = λ i d l. IsPrice-alike p q (get_or prices i d) h (v.each i d l);
}

pub bound_of-alike : (p q : ProblemView) (ranges : List (ℕ × ℕ)) (prices : List Price) (scale : ℕ) → AreAlike p q →
    bound_of p ranges prices scale ≡ bound_of q ranges prices scale
bound_of-alike p q ranges prices scale h =
    moved p q h
    (λ n. bound_of p ranges prices scale
    ≡ (pos (sum_below n.units (λ u. least_within (low_of ranges u) (high_of ranges u) (λ a. scale * n.costs u a + priced prices (λ r. n.uses u a r))))
    -ℤ pos (priced prices (λ r. n.limits r))))
    refl

pub Closes-alike : (p q : ProblemView) (ranges : List (ℕ × ℕ)) (prices : List Price) (scale : ℕ) (cost : Option ℕ) → AreAlike p q →
    Closes p ranges prices scale cost → Closes q ranges prices scale cost
Closes-alike p q ranges prices scale (Some u) h c =
    subst (λ (z : ℤ). (pos scale *ℤ (pos u -ℤ pos 1)) <ℤ z) (bound_of-alike p q ranges prices scale h) c
Closes-alike p q ranges prices scale None h c = (c.0, subst (λ (z : ℤ). pos 0 <ℤ z) (bound_of-alike p q ranges prices scale h) c.1)

pub IsOver-alike : (p q : ProblemView) (ranges : List (ℕ × ℕ)) (r : ℕ) → AreAlike p q → IsOver p ranges r → IsOver q ranges r
IsOver-alike p q ranges r h o =
    moved p q h (λ n. n.limits r < sum_below n.units (λ u. least_within (low_of ranges u) (high_of ranges u) (λ a. n.uses u a r))) o

-- nodes and trees
pub LeafHolds-alike : (p q : ProblemView) (vectors : List (List Price)) (cost : Option ℕ) (ranges : List (ℕ × ℕ)) (vector scale : ℕ) → AreAlike p q →
    LeafHolds p vectors cost ranges vector scale → LeafHolds q vectors cost ranges vector scale
LeafHolds-alike p q vectors cost ranges vector scale h leaf = record {
  there = leaf.there;
  small = leaf.small;
  closes = Closes-alike p q ranges (vector_at vectors vector) scale cost h leaf.closes;
}

pub OverHolds-alike : (p q : ProblemView) (ranges : List (ℕ × ℕ)) (resource : ℕ) → AreAlike p q → OverHolds p ranges resource → OverHolds q ranges resource
OverHolds-alike p q ranges resource h o = record {
  there = moved p q h (λ n. resource < n.resources) o.there;
  over = IsOver-alike p q ranges resource h o.over;
}

pub NodeHolds-alike : (p q : ProblemView) (vectors : List (List Price)) (cost : Option ℕ) (ranges : List (ℕ × ℕ)) (node : Node) → AreAlike p q →
    NodeHolds p vectors cost ranges node → NodeHolds q vectors cost ranges node
NodeHolds-alike p q vectors cost ranges (Split unit cut seen) h n = n
NodeHolds-alike p q vectors cost ranges (Leaf vector scale seen) h n = LeafHolds-alike p q vectors cost ranges vector scale h n
NodeHolds-alike p q vectors cost ranges (Over resource) h n = OverHolds-alike p q ranges resource h n
NodeHolds-alike p q vectors cost ranges Undone h n = n

pub AreSound-alike : (p q : ProblemView) (vectors : List (List Price)) (cost : Option ℕ) (pending : List (List (ℕ × ℕ))) (nodes : List Node) →
    AreAlike p q → AreSound p vectors cost pending nodes → AreSound q vectors cost pending nodes
AreSound-alike p q vectors cost pending nodes h s =
    AreTrees-map (λ ranges node. NodeHolds p vectors cost ranges node) (λ ranges node. NodeHolds q vectors cost ranges node)
    (λ ranges node n. NodeHolds-alike p q vectors cost ranges node h n) pending nodes s

IsClosedNode-alike : (p q : ProblemView) (vectors : List (List Price)) (cost : Option ℕ) (ranges : List (ℕ × ℕ)) (node : Node) → AreAlike p q →
    IsClosedNode p vectors cost ranges node → IsClosedNode q vectors cost ranges node
IsClosedNode-alike p q vectors cost ranges (Split unit cut seen) h n = n
IsClosedNode-alike p q vectors cost ranges (Leaf vector scale seen) h n = LeafHolds-alike p q vectors cost ranges vector scale h n
IsClosedNode-alike p q vectors cost ranges (Over resource) h n = OverHolds-alike p q ranges resource h n
IsClosedNode-alike p q vectors cost ranges Undone h n = (n.0, n.1, LeafHolds-alike p q vectors cost ranges n.0 n.1 h n.2)

pub IsFloored-alike : (p q : ProblemView) (vectors : List (List Price)) (floor : ℕ) (nodes : List Node) → AreAlike p q →
    IsFloored p vectors floor nodes → IsFloored q vectors floor nodes
IsFloored-alike p q vectors floor nodes h t =
    subst (λ (whole : List (ℕ × ℕ)). AreClosed q vectors (Some floor) (whole ∷ []) nodes) (same_whole p q h)
    (AreTrees-map (λ ranges node. IsClosedNode p vectors (Some floor) ranges node) (λ ranges node. IsClosedNode q vectors (Some floor) ranges node)
    (λ ranges node n. IsClosedNode-alike p q vectors (Some floor) ranges node h n) (whole_of p ∷ []) nodes t)

pub AreFloors-alike : (p q : ProblemView) (vectors : List (List Price)) (floor : ℕ) (nodes : List Node) (floors : List (ℕ × ℕ)) → AreAlike p q →
    AreFloors p vectors floor nodes floors → AreFloors q vectors floor nodes floors
AreFloors-alike p q vectors floor nodes floors h f =
    subst
    (λ (whole : List (ℕ × ℕ)). AllZip (λ ranges named. LeafHolds q vectors (Some floor) ranges named.0 named.1) (open_ranges (whole ∷ []) nodes) floors)
    (same_whole p q h)
    (AllZip-into (λ ranges named. LeafHolds p vectors (Some floor) ranges named.0 named.1) (λ ranges named. LeafHolds q vectors (Some floor) ranges named.0 named.1)
    (λ ranges named k. LeafHolds-alike p q vectors (Some floor) ranges named.0 named.1 h k) (open_ranges (whole_of p ∷ []) nodes) floors f)
