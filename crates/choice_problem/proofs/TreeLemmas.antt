-- Sound trees: what their closed leaves say of all choices.
use Rattle.std.proofs.Common.{◌≡◌, ℕ, zero, suc, ◌+◌, ◌-◌, ◌<◌, ◌≤◌, ◌∙◌, ap, arith, List, [], ◌∷◌, ◌++◌, length, get_or, set, Option, Some, None, inl, inr}
use Rattle.std.specs.Prelude.{slice_index, slice_set, All}
use Rattle.std.proofs.lemmas.Bool.{cases_lt, cases_eq}
use Rattle.std.proofs.lemmas.List.{get_or-set_same, get_or-set_other, get_or-map, length-set, length-map}
use Rattle.choice_problem.specs.declared.vectors.Price.{Price}
use Rattle.choice_problem.specs.declared.nodes.Node.{Node}
use Rattle.choice_problem.specs.declared.nodes.Node.TheVariants.{Split, Leaf, Over, Undone}
use Rattle.choice_problem.specs.Problems.{ProblemView, ChooserView, unit_count, alt_count, chooser_at}
use Rattle.choice_problem.specs.Choices.{IsFeasible, IsBest, HasNone, choice_cost}
use Rattle.choice_problem.specs.Bounds.{low_of, high_of, AreRanges, IsWithin, IsVector, whole_of}
use Rattle.choice_problem.specs.Trees.{node_count, parts_of, low_part, high_part, CanSplit, vector_at, LeafHolds, AreSound, IsSound, IsWhole}
use Rattle.choice_problem.specs.Floors.{AreClosed}
use Rattle.choice_problem.proofs.VectorLemmas.{IsVector-nil}
use Rattle.choice_problem.proofs.BoundLemmas.{cost-closed, none-closed, over-closed}

-- what a closed tree says of a choice: it costs at least the cost, or there is none
abbrev pub IsBeaten : ProblemView → Option ℕ → List ℕ → Type 0
IsBeaten p (Some u) x = u ≤ choice_cost p x
IsBeaten p None x = ⊥

-- a unit's span after one span is set
span_same : (ranges : List (ℕ × ℕ)) (unit : ℕ) (span : ℕ × ℕ) → unit < length ranges → get_or (set ranges unit span) unit (0, 0) ≡ span
span_same ranges unit span l = get_or-set_same ranges unit span (0, 0) l

span_other : (ranges : List (ℕ × ℕ)) (unit u : ℕ) (span : ℕ × ℕ) → (u ≡ unit → ⊥) → get_or (set ranges unit span) u (0, 0) ≡ get_or ranges u (0, 0)
span_other ranges unit u span ne = get_or-set_other ranges unit u span (0, 0) ne

-- a choice stays within ranges of which one span is set round its alternative
within_set : (p : ProblemView) (ranges : List (ℕ × ℕ)) (unit : ℕ) (span : ℕ × ℕ) (x : List ℕ) → unit < length ranges →
    IsWithin p ranges x → span.0 ≤ slice_index x unit → slice_index x unit ≤ span.1 → IsWithin p (set ranges unit span) x
within_set p ranges unit span x there w from_span to_span = record {
  from = λ u i. elim (cases_eq u unit) [
    | inl e ↦ omega (arith, ap (λ v. (get_or (set ranges unit span) v (0, 0)).0) e, ap (λ v. slice_index x v) e, ap (λ (v : ℕ × ℕ). v.0) (span_same ranges unit span there))
    | inr ne ↦ omega (arith, ap (λ (v : ℕ × ℕ). v.0) (span_other ranges unit u span ne), w.from u i)
  ];
  to = λ u i. elim (cases_eq u unit) [
    | inl e ↦ omega (arith, ap (λ v. (get_or (set ranges unit span) v (0, 0)).1) e, ap (λ v. slice_index x v) e, ap (λ (v : ℕ × ℕ). v.1) (span_same ranges unit span there))
    | inr ne ↦ omega (arith, ap (λ (v : ℕ × ℕ). v.1) (span_other ranges unit u span ne), w.to u i)
  ];
}

-- on which side of the cut a choice is
within_low : (p : ProblemView) (ranges : List (ℕ × ℕ)) (unit cut : ℕ) (x : List ℕ) → unit < unit_count p →
    CanSplit ranges unit cut → IsWithin p ranges x → slice_index x unit < cut → IsWithin p (low_part ranges unit cut) x
within_low p ranges unit cut x u s w l = within_set p ranges unit (low_of ranges unit, cut - 1) x s.there w (w.from unit u) (omega arith)

within_high : (p : ProblemView) (ranges : List (ℕ × ℕ)) (unit cut : ℕ) (x : List ℕ) → unit < unit_count p →
    CanSplit ranges unit cut → IsWithin p ranges x → cut ≤ slice_index x unit → IsWithin p (high_part ranges unit cut) x
within_high p ranges unit cut x u s w l = within_set p ranges unit (cut, high_of ranges unit) x s.there w l (w.to unit u)

-- the vector that a leaf names is the problem's
vector_at-IsVector : (p : ProblemView) (vectors : List (List Price)) → All (IsVector p) vectors → (k : ℕ) → k ≤ length vectors → IsVector p (vector_at vectors k)
vector_at-IsVector p vectors all zero h = IsVector-nil p
vector_at-IsVector p vectors all (suc k) h = all k [] (omega arith)

-- a closed leaf
leaf_beats : (p : ProblemView) (vectors : List (List Price)) (cost : Option ℕ) (ranges : List (ℕ × ℕ)) (vector scale : ℕ) (x : List ℕ) →
    All (IsVector p) vectors → LeafHolds p vectors cost ranges vector scale → IsFeasible p x → IsWithin p ranges x → IsBeaten p cost x
leaf_beats p vectors (Some u) ranges vector scale x all h f w =
    cost-closed p ranges (vector_at vectors vector) scale u x (vector_at-IsVector p vectors all vector h.there) h.closes f w
leaf_beats p vectors None ranges vector scale x all h f w =
    none-closed p ranges (vector_at vectors vector) scale x (vector_at-IsVector p vectors all vector h.there) h.closes f w

any_beaten : (p : ProblemView) (cost : Option ℕ) (x : List ℕ) → ⊥ → IsBeaten p cost x
any_beaten p cost x h = absurd h

-- all pending ranges have a span for each unit
abbrev pub HaveSpans : ProblemView → List (List (ℕ × ℕ)) → Type 0
HaveSpans p pending = (k : ℕ) → k < length pending → length (get_or pending k []) ≡ unit_count p

spans_rest : (p : ProblemView) (ranges : List (ℕ × ℕ)) (pending : List (List (ℕ × ℕ))) → HaveSpans p (ranges ∷ pending) → HaveSpans p pending
spans_rest p ranges pending h k l = h (suc k) (omega arith)

spans_split : (p : ProblemView) (ranges : List (ℕ × ℕ)) (unit cut : ℕ) (pending : List (List (ℕ × ℕ))) → HaveSpans p (ranges ∷ pending) →
    HaveSpans p (low_part ranges unit cut ∷ high_part ranges unit cut ∷ pending)
spans_split p ranges unit cut pending h zero l = length-set ranges unit (low_of ranges unit, cut - 1) ∙ h 0 (omega arith)
spans_split p ranges unit cut pending h (suc zero) l = length-set ranges unit (cut, high_of ranges unit) ∙ h 0 (omega arith)
spans_split p ranges unit cut pending h (suc (suc k)) l = h (suc k) (omega arith)

module _ (p : ProblemView) (vectors : List (List Price)) (cost : Option ℕ) (x : List ℕ) (all : All (IsVector p) vectors) (f : IsFeasible p x) where
  -- a feasible choice within any of the pending ranges
  closed_beats : (nodes : List Node) (pending : List (List (ℕ × ℕ))) → HaveSpans p pending → AreClosed p vectors cost pending nodes →
      (k : ℕ) → k < length pending → IsWithin p (get_or pending k []) x → IsBeaten p cost x
  closed_beats [] [] n s k l i = absurd (omega arith)
  closed_beats [] (ranges ∷ pending) n s k l i = absurd s
  closed_beats (node ∷ nodes) [] n s k l i = absurd (omega arith)
  closed_beats (Split unit cut seen ∷ nodes) (ranges ∷ pending) n s zero l i =
      let there : unit < unit_count p = omega (arith, s.0.there, n 0 (omega arith)) in
      elim (cases_lt (slice_index x unit) cut) [
        | inl below ↦ closed_beats nodes (low_part ranges unit cut ∷ high_part ranges unit cut ∷ pending) (spans_split p ranges unit cut pending n) s.1 0 (omega arith) (within_low p ranges unit cut x there s.0 i below)
        | inr above ↦ closed_beats nodes (low_part ranges unit cut ∷ high_part ranges unit cut ∷ pending) (spans_split p ranges unit cut pending n) s.1 1 (omega arith) (within_high p ranges unit cut x there s.0 i above)
      ]
  closed_beats (Split unit cut seen ∷ nodes) (ranges ∷ pending) n s (suc k) l i =
      closed_beats nodes (low_part ranges unit cut ∷ high_part ranges unit cut ∷ pending) (spans_split p ranges unit cut pending n) s.1 (suc (suc k)) (omega arith) i
  closed_beats (Leaf vector scale seen ∷ nodes) (ranges ∷ pending) n s zero l i = leaf_beats p vectors cost ranges vector scale x all s.0 f i
  closed_beats (Leaf vector scale seen ∷ nodes) (ranges ∷ pending) n s (suc k) l i = closed_beats nodes pending (spans_rest p ranges pending n) s.1 k (omega arith) i
  closed_beats (Over resource ∷ nodes) (ranges ∷ pending) n s zero l i = any_beaten p cost x (over-closed p ranges resource x s.0.there s.0.over f i)
  closed_beats (Over resource ∷ nodes) (ranges ∷ pending) n s (suc k) l i = closed_beats nodes pending (spans_rest p ranges pending n) s.1 k (omega arith) i
  closed_beats (Undone ∷ nodes) (ranges ∷ pending) n s zero l i = leaf_beats p vectors cost ranges s.0.0 s.0.1 x all s.0.2 f i
  closed_beats (Undone ∷ nodes) (ranges ∷ pending) n s (suc k) l i = closed_beats nodes pending (spans_rest p ranges pending n) s.1 k (omega arith) i

-- a sound and whole tree has closed nodes alone
pub AreSound-closed : (p : ProblemView) (vectors : List (List Price)) (cost : Option ℕ) (nodes : List Node) (pending : List (List (ℕ × ℕ))) →
    AreSound p vectors cost pending nodes → IsWhole nodes → AreClosed p vectors cost pending nodes
AreSound-closed p vectors cost [] [] s w = s
AreSound-closed p vectors cost [] (ranges ∷ pending) s w = s
AreSound-closed p vectors cost (node ∷ nodes) [] s w = s
AreSound-closed p vectors cost (Split unit cut seen ∷ nodes) (ranges ∷ pending) s w =
    (s.0, AreSound-closed p vectors cost nodes (parts_of ranges (Split unit cut seen) ++ pending) s.1 w)
AreSound-closed p vectors cost (Leaf vector scale seen ∷ nodes) (ranges ∷ pending) s w = (s.0, AreSound-closed p vectors cost nodes pending s.1 w)
AreSound-closed p vectors cost (Over resource ∷ nodes) (ranges ∷ pending) s w = (s.0, AreSound-closed p vectors cost nodes pending s.1 w)
AreSound-closed p vectors cost (Undone ∷ nodes) (ranges ∷ pending) s w = absurd w

spans_whole : (p : ProblemView) → HaveSpans p (whole_of p ∷ [])
spans_whole p zero l = length-map {B = ℕ × ℕ} p.units (λ (m : ChooserView). (0, length m.alts - 1))
spans_whole p (suc k) l = absurd (omega arith)

-- a feasible choice is within all alternatives
within_whole : (p : ProblemView) (x : List ℕ) → IsFeasible p x → IsWithin p (whole_of p) x
within_whole p x f =
    let span : ChooserView → ℕ × ℕ = λ m. (0, length m.alts - 1) in
    let at : (u : ℕ) → u < unit_count p → get_or (whole_of p) u (0, 0) ≡ span (chooser_at p u) =
    λ u l. get_or-map {Y = ℕ × ℕ} span p.units u (record { parts = []; alts = [] }) (0, 0) l in
    record {
      from = λ u l. omega (arith, ap (λ (v : ℕ × ℕ). v.0) (at u l));
      to = λ u l. omega (arith, ap (λ (v : ℕ × ℕ). v.1) (at u l), f.choice.there u l);
    }

-- every feasible choice is beaten by a tree of closed nodes on all alternatives
pub closed_whole-beats : (p : ProblemView) (vectors : List (List Price)) (cost : Option ℕ) (nodes : List Node) (x : List ℕ) →
    All (IsVector p) vectors → AreClosed p vectors cost (whole_of p ∷ []) nodes → IsFeasible p x → IsBeaten p cost x
closed_whole-beats p vectors cost nodes x all s f =
    closed_beats p vectors cost x all f nodes (whole_of p ∷ []) (spans_whole p) s 0 (omega arith) (within_whole p x f)

pub sound_whole-best : (p : ProblemView) (vectors : List (List Price)) (nodes : List Node) (x : List ℕ) →
    All (IsVector p) vectors → IsFeasible p x → IsSound p vectors (Some (choice_cost p x)) (whole_of p) nodes → IsWhole nodes → IsBest p x
sound_whole-best p vectors nodes x all f s w = record {
  feasible = f;
  least = λ y g. closed_whole-beats p vectors (Some (choice_cost p x)) nodes y all
      (AreSound-closed p vectors (Some (choice_cost p x)) nodes (whole_of p ∷ []) s w) g;
}

pub sound_whole-none : (p : ProblemView) (vectors : List (List Price)) (nodes : List Node) →
    All (IsVector p) vectors → IsSound p vectors None (whole_of p) nodes → IsWhole nodes → HasNone p
sound_whole-none p vectors nodes all s w = λ y g. closed_whole-beats p vectors None nodes y all
    (AreSound-closed p vectors None nodes (whole_of p ∷ []) s w) g

-- ranges of which one span is set within the unit's alternatives
AreRanges-set : (p : ProblemView) (ranges : List (ℕ × ℕ)) (unit : ℕ) (span : ℕ × ℕ) → unit < length ranges → AreRanges p ranges →
    span.0 ≤ span.1 → span.1 < alt_count p unit → AreRanges p (set ranges unit span)
AreRanges-set p ranges unit span there r ordered within = record {
  length = length-set ranges unit span ∙ r.length;
  ordered = λ u i. elim (cases_eq u unit) [
    | inl e ↦ omega (arith, ap (λ v. (get_or (set ranges unit span) v (0, 0)).0) e, ap (λ v. (get_or (set ranges unit span) v (0, 0)).1) e, ap (λ (v : ℕ × ℕ). v.0) (span_same ranges unit span there), ap (λ (v : ℕ × ℕ). v.1) (span_same ranges unit span there))
    | inr ne ↦ omega (arith, ap (λ (v : ℕ × ℕ). v.0) (span_other ranges unit u span ne), ap (λ (v : ℕ × ℕ). v.1) (span_other ranges unit u span ne), r.ordered u i)
  ];
  there = λ u i. elim (cases_eq u unit) [
    | inl e ↦ omega (arith, ap (λ v. (get_or (set ranges unit span) v (0, 0)).1) e, ap (λ v. alt_count p v) e, ap (λ (v : ℕ × ℕ). v.1) (span_same ranges unit span there))
    | inr ne ↦ omega (arith, ap (λ (v : ℕ × ℕ). v.1) (span_other ranges unit u span ne), r.there u i)
  ];
}

pub AreRanges-slice_set : (p : ProblemView) (ranges : List (ℕ × ℕ)) (unit low high : ℕ) → unit < length ranges → AreRanges p ranges →
    low ≤ high → high < alt_count p unit → AreRanges p (slice_set ranges unit (low, high))
AreRanges-slice_set p ranges unit low high there r ordered within = AreRanges-set p ranges unit (low, high) there r ordered within

pub AreRanges-low_part : (p : ProblemView) (ranges : List (ℕ × ℕ)) (unit cut : ℕ) → AreRanges p ranges → CanSplit ranges unit cut → AreRanges p (low_part ranges unit cut)
AreRanges-low_part p ranges unit cut r s =
    AreRanges-set p ranges unit (low_of ranges unit, cut - 1) s.there r (omega (arith, s.above)) (omega (arith, s.above, s.within, r.length, s.there, r.there unit (omega (arith, r.length, s.there))))

pub AreRanges-high_part : (p : ProblemView) (ranges : List (ℕ × ℕ)) (unit cut : ℕ) → AreRanges p ranges → CanSplit ranges unit cut → AreRanges p (high_part ranges unit cut)
AreRanges-high_part p ranges unit cut r s =
    AreRanges-set p ranges unit (cut, high_of ranges unit) s.there r s.within (r.there unit (omega (arith, r.length, s.there)))

pub AreRanges-whole_of : (p : ProblemView) → ((u : ℕ) → u < unit_count p → 0 < alt_count p u) → AreRanges p (whole_of p)
AreRanges-whole_of p some =
    let span : ChooserView → ℕ × ℕ = λ m. (0, length m.alts - 1) in
    let at : (u : ℕ) → u < unit_count p → get_or (whole_of p) u (0, 0) ≡ span (chooser_at p u) =
    λ u l. get_or-map {Y = ℕ × ℕ} span p.units u (record { parts = []; alts = [] }) (0, 0) l in
    record {
      length = length-map {B = ℕ × ℕ} p.units (λ (m : ChooserView). (0, length m.alts - 1));
      ordered = λ u l. omega (arith, ap (λ (v : ℕ × ℕ). v.0) (at u l));
      there = λ u l. omega (arith, ap (λ (v : ℕ × ℕ). v.1) (at u l), some u l);
    }

pub node_count-append : (xs ys : List Node) → node_count (xs ++ ys) ≡ node_count xs + node_count ys
node_count-append [] ys = omega arith
node_count-append (Split unit cut seen ∷ xs) ys = omega (arith, node_count-append xs ys)
node_count-append (Leaf vector scale seen ∷ xs) ys = omega (arith, node_count-append xs ys)
node_count-append (Over resource ∷ xs) ys = omega (arith, node_count-append xs ys)
node_count-append (Undone ∷ xs) ys = node_count-append xs ys

pub IsWhole-append : (xs ys : List Node) → IsWhole (xs ++ ys) → IsWhole ys
IsWhole-append [] ys h = h
IsWhole-append (Split unit cut seen ∷ xs) ys h = IsWhole-append xs ys h
IsWhole-append (Leaf vector scale seen ∷ xs) ys h = IsWhole-append xs ys h
IsWhole-append (Over resource ∷ xs) ys h = IsWhole-append xs ys h
IsWhole-append (Undone ∷ xs) ys h = absurd h
