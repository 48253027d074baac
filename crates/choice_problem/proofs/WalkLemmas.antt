-- The walk in place.
use Rattle.std.proofs.Common.{◌≡◌, ℕ, zero, suc, ◌+◌, ◌-◌, ◌<◌, refl, sym, ◌∙◌, ap, arith, List, [], ◌∷◌, ◌++◌, length, get_or, set, reverse, take, drop, Bool, true, false, None}
use Rattle.std.specs.Prelude.{All}
use Rattle.std.proofs.lemmas.List.Elements.{All-append, All-head, All-tail, All-cons, All-nil, Contains-push, Contains-append_left}
use Rattle.std.proofs.lemmas.List.{reverse-append, set-get_or, get_or-set_other, append-nil, append_assoc, drop_more}
use Rattle.std.proofs.Math.Seq.{take-append_seam}
use Rattle.choice_problem.specs.declared.nodes.Node.{Node}
use Rattle.choice_problem.specs.declared.nodes.Node.TheVariants.{Split, Leaf, Over, Undone}
use Rattle.choice_problem.specs.declared.walks.Frame.{Frame}
use Rattle.choice_problem.specs.Problems.{ProblemView}
use Rattle.choice_problem.specs.Bounds.{low_of, high_of, AreRanges}
use Rattle.choice_problem.specs.Trees.{low_part, high_part, parts_of}
use Rattle.choice_problem.specs.Walks.{CanStand, AreWalkable, IsStep, CanStep, AreChanges, ChangesFirst, pending_of, walk_of}
use Rattle.choice_problem.specs.Grafts.{open_ranges}
use Rattle.choice_problem.specs.Loops.{opened}
use Rattle.choice_problem.proofs.TreeLemmas.{AreRanges-low_part, AreRanges-high_part}

-- a place that is set twice
set-set : {X : Type 0} (xs : List X) (i : ℕ) (a b : X) → set (set xs i a) i b ≡ set xs i b
set-set [] i a b = refl
set-set (x ∷ xs) zero a b = refl
set-set (x ∷ xs) (suc i) a b = ap (λ ys. x ∷ ys) (set-set xs i a b)

-- the frames with one more on top
top : (frames all : List Frame) (f : Frame) → all ≡ frames ++ f ∷ [] → reverse all ≡ f ∷ reverse frames
top frames all f e = ap reverse e ∙ reverse-append frames (f ∷ [])

-- below a split
pub split_below : (spans : List (ℕ × ℕ)) (frames all : List Frame) (unit cut : ℕ) →
    all ≡ frames ++ record { unit = unit; low = low_of spans unit; high = high_of spans unit; cut = cut; in_high = false } ∷ [] →
    pending_of (low_part spans unit cut) (reverse all) ≡ high_part spans unit cut ∷ pending_of spans (reverse frames)
split_below spans frames all unit cut e =
    let a : ℕ × ℕ = (low_of spans unit, cut - 1) in
    let up = set-set spans unit a (cut, high_of spans unit) in
    let old = set-set spans unit a (low_of spans unit, high_of spans unit) ∙ set-get_or spans unit (0, 0) in
    rw (top frames all (record { unit = unit; low = low_of spans unit; high = high_of spans unit; cut = cut; in_high = false }) e)
    (ap (λ s. s ∷ pending_of (set (set spans unit a) unit (low_of spans unit, high_of spans unit)) (reverse frames)) up
    ∙ ap (λ s. high_part spans unit cut ∷ pending_of s (reverse frames)) old)

-- from the low part of a split into its high part
pub into_high : (spans : List (ℕ × ℕ)) (frames all again : List Frame) (f : Frame) → f.in_high ≡ false → all ≡ frames ++ f ∷ [] →
    again ≡ frames ++ record f { in_high = true } ∷ [] →
    walk_of true (set spans f.unit (f.cut, f.high)) (reverse again) ≡ pending_of spans (reverse all)
into_high spans frames all again f low e k =
    rw (top frames all f e, top frames again (record f { in_high = true }) k, low)
    (ap (λ s. set spans f.unit (f.cut, f.high) ∷ pending_of s (reverse frames)) (set-set spans f.unit (f.cut, f.high) (f.low, f.high)))

-- out of the high part of a split
pub out_of_high : (spans : List (ℕ × ℕ)) (frames all : List Frame) (f : Frame) → f.in_high ≡ true → all ≡ frames ++ f ∷ [] →
    pending_of (set spans f.unit (f.low, f.high)) (reverse frames) ≡ pending_of spans (reverse all)
out_of_high spans frames all f high e = rw (top frames all f e, high) refl

-- the parts of valid ranges are valid
parts_valid : (p : ProblemView) (ranges : List (ℕ × ℕ)) (node : Node) → AreRanges p ranges → CanStand ranges node → All (AreRanges p) (parts_of ranges node)
parts_valid p ranges (Split unit cut seen) r h =
    All-cons (AreRanges p) (low_part ranges unit cut) (high_part ranges unit cut ∷ []) (AreRanges-low_part p ranges unit cut r h)
    (All-cons (AreRanges p) (high_part ranges unit cut) [] (AreRanges-high_part p ranges unit cut r h) (All-nil (AreRanges p)))
parts_valid p ranges (Leaf vector scale seen) r h = All-nil (AreRanges p)
parts_valid p ranges (Over resource) r h = All-nil (AreRanges p)
parts_valid p ranges Undone r h = All-nil (AreRanges p)

pub step_valid : (p : ProblemView) (old new : List (List (ℕ × ℕ))) (node : Node) → IsStep old node new → All (AreRanges p) old → All (AreRanges p) new
step_valid p old new node s all =
    let here : All (AreRanges p) (s.ranges ∷ s.rest) = rw s.before at all in
    rw s.after
    (All-append (AreRanges p) (parts_of s.ranges node) s.rest
    (parts_valid p s.ranges node (All-head (AreRanges p) s.ranges s.rest here) s.stands) (All-tail (AreRanges p) s.ranges s.rest here))

-- where the walk is on, one node on
pub on_step : (on : Bool) (spans : List (ℕ × ℕ)) (frames : List Frame) (node : Node) (new : List (List (ℕ × ℕ))) → on ≡ true → CanStand spans node →
    new ≡ parts_of spans node ++ pending_of spans frames → IsStep (walk_of on spans frames) node new
on_step on spans frames node new e stands after = record {
  ranges = spans;
  rest = pending_of spans frames;
  before = rw e refl;
  stands = stands;
  after = after;
}

-- so validity is kept
pub on_valid : (p : ProblemView) (on : Bool) (spans : List (ℕ × ℕ)) (frames : List Frame) (node : Node) (new : List (List (ℕ × ℕ))) → on ≡ true → CanStand spans node →
    new ≡ parts_of spans node ++ pending_of spans frames → All (AreRanges p) (walk_of on spans frames) → All (AreRanges p) new
on_valid p on spans frames node new e stands after all =
    step_valid p (walk_of on spans frames) new node (on_step on spans frames node new e stands after) all

-- what one node adds to the undone ranges
pub open_ranges-step : (old new : List (List (ℕ × ℕ))) (node : Node) (nodes : List Node) → IsStep old node new →
    open_ranges old (node ∷ nodes) ≡ opened old node ++ open_ranges new nodes
open_ranges-step old new (Split unit cut seen) nodes s = rw (s.before, s.after) refl
open_ranges-step old new (Leaf vector scale seen) nodes s = rw (s.before, s.after) refl
open_ranges-step old new (Over resource) nodes s = rw (s.before, s.after) refl
open_ranges-step old new Undone nodes s = rw (s.before, s.after) refl

pub opened-other : (pending : List (List (ℕ × ℕ))) (node : Node) → (node ≡ Undone → ⊥) → opened pending node ≡ []
opened-other [] node other = refl
opened-other (ranges ∷ rest) (Split unit cut seen) other = refl
opened-other (ranges ∷ rest) (Leaf vector scale seen) other = refl
opened-other (ranges ∷ rest) (Over resource) other = refl
opened-other (ranges ∷ rest) Undone other = absurd (other refl)

-- beyond the places that are asked for nothing matters
pub take-full : (xs ys zs : List (List (ℕ × ℕ))) (most : ℕ) → length xs ≡ most → take most (xs ++ ys) ≡ take most (xs ++ zs)
take-full xs ys zs most e = rw (← e) (take-append_seam xs ys ∙ sym (take-append_seam xs zs))

-- what a read past the end of a list of nodes gives
abbrev pub no_node : Node
no_node = Split 0 0 None

-- the node that follows a place of a list
module _ (nodes : List Node) (i : ℕ) (there : i < length nodes) where
  pub walkable_on : (old new : List (List (ℕ × ℕ))) → IsStep old (get_or nodes i no_node) new → AreWalkable old (drop i nodes) → AreWalkable new (drop (i + 1) nodes)
  walkable_on old new s h =
      let next : AreWalkable (s.ranges ∷ s.rest) (get_or nodes i no_node ∷ drop (i + 1) nodes) = rw (drop_more nodes i no_node there, s.before) at h in
      rw s.after next.1

  pub walkable_back : (old new : List (List (ℕ × ℕ))) → IsStep old (get_or nodes i no_node) new → AreWalkable new (drop (i + 1) nodes) → AreWalkable old (drop i nodes)
  walkable_back old new s h = rw (drop_more nodes i no_node there, s.before) (s.stands, rw s.after at h)

  pub walkable_step : (old : List (List (ℕ × ℕ))) → AreWalkable old (drop i nodes) → CanStep old (get_or nodes i no_node)
  walkable_step [] h = (let k : AreWalkable [] (get_or nodes i no_node ∷ drop (i + 1) nodes) = rw (drop_more nodes i no_node there) at h in k)
  walkable_step (ranges ∷ rest) h =
      (let k : AreWalkable (ranges ∷ rest) (get_or nodes i no_node ∷ drop (i + 1) nodes) = rw (drop_more nodes i no_node there) at h in k.0)

  pub open_ranges-on : (old new : List (List (ℕ × ℕ))) → IsStep old (get_or nodes i no_node) new →
      open_ranges old (drop i nodes) ≡ opened old (get_or nodes i no_node) ++ open_ranges new (drop (i + 1) nodes)
  open_ranges-on old new s = rw (drop_more nodes i no_node there) (open_ranges-step old new (get_or nodes i no_node) (drop (i + 1) nodes) s)

-- whether a walk is on
pub walk_off : (on : Bool) (spans : List (ℕ × ℕ)) (frames : List Frame) → walk_of on spans frames ≡ [] → on ≡ false
walk_off true spans frames e = absurd (cc e)
walk_off false spans frames e = refl

pub walk_first : (on : Bool) (spans : List (ℕ × ℕ)) (frames : List Frame) → 0 < length (walk_of on spans frames) →
    walk_of on spans frames ≡ spans ∷ drop 1 (walk_of on spans frames)
walk_first true spans frames l = refl
walk_first false spans frames l = absurd (omega arith)

-- nothing has changed yet
pub changed_none : (spans : List (ℕ × ℕ)) (list : List ℕ) → AreChanges spans spans list list
changed_none spans list = record {
  more = [];
  after_is = sym (append-nil list);
  there = All-nil (λ u. u < length spans);
  same = λ u out. refl;
}

-- one more range is replaced
pub changed_more : (old spans : List (ℕ × ℕ)) (before mid after : List ℕ) (unit : ℕ) (range : ℕ × ℕ) → AreChanges old spans before mid → unit < length old →
    after ≡ mid ++ unit ∷ [] → AreChanges old (set spans unit range) before after
changed_more old spans before mid after unit range h there e = record {
  more = h.more ++ unit ∷ [];
  after_is = e ∙ ap (λ xs. xs ++ unit ∷ []) h.after_is ∙ append_assoc before h.more (unit ∷ []);
  there = All-append (λ u. u < length old) h.more (unit ∷ []) h.there (All-cons (λ u. u < length old) unit [] there (All-nil (λ u. u < length old)));
  same = λ u out.
      get_or-set_other spans unit u range (0, 0) (λ (q : u ≡ unit). out (rw q (Contains-push h.more unit)))
      ∙ h.same u (λ k. out (Contains-append_left h.more (unit ∷ []) u k));
}

-- so of the first of what is pending
pub changed_first : (was on : Bool) (old spans : List (ℕ × ℕ)) (frames later : List Frame) (before after : List ℕ) → AreChanges old spans before after →
    ChangesFirst (walk_of was old frames) (walk_of on spans later) before after
changed_first false on old spans frames later before after h = tt
changed_first true false old spans frames later before after h = tt
changed_first true true old spans frames later before after h = h
