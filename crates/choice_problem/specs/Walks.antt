-- A walk over the nodes of trees: the ranges that trees are still to come for, those in place first.
use Rattle.std.specs.Prelude.{◌≡◌, ℕ, ◌<◌, Bool, true, false, List, [], ◌∷◌, ◌++◌, length, slice_index_or, slice_set, if◌then◌else◌, All, Contains}
use Rattle.choice_problem.specs.declared.nodes.Node.{Node}
use Rattle.choice_problem.specs.declared.nodes.Node.TheVariants.{Split, Leaf, Over, Undone}
use Rattle.choice_problem.specs.declared.walks.Frame.{Frame}
use Rattle.choice_problem.specs.Trees.{AreTrees, CanSplit, parts_of}

-- a node may stand on ranges: a split where both sides of its cut have an alternative, any other node anywhere
abbrev pub CanStand : List (ℕ × ℕ) → Node → Type 0
CanStand ranges (Split unit cut seen) = CanSplit ranges unit cut
CanStand ranges (Leaf vector scale seen) = Unit {0}
CanStand ranges (Over resource) = Unit {0}
CanStand ranges Undone = Unit {0}

-- the nodes are one tree on each of the pending ranges, in order, with splits that are possible there
abbrev pub AreWalkable : List (List (ℕ × ℕ)) → List Node → Type 0
AreWalkable pending nodes = AreTrees (λ ranges node. CanStand ranges node) pending nodes

-- one node on: it stands on the first of the pending ranges, in whose place its parts are pending next
pub record IsStep (old : List (List (ℕ × ℕ))) (node : Node)
    (new : List (List (ℕ × ℕ))) : Type 0 where
  pub ranges : List (ℕ × ℕ)
  pub rest : List (List (ℕ × ℕ))
  pub before : old ≡ ranges ∷ rest
  pub stands : CanStand ranges node
  pub after : new ≡ parts_of ranges node ++ rest

-- ranges are pending, and the node may stand on the first of them
abbrev pub CanStep : List (List (ℕ × ℕ)) → Node → Type 0
CanStep [] node = ⊥
CanStep (ranges ∷ rest) node = CanStand ranges node

-- the units that were added to a list; the ranges of all others are as before
pub record AreChanges (old new : List (ℕ × ℕ)) (before after : List ℕ) : Type 0 where
  pub more : List ℕ
  pub after_is : after ≡ before ++ more
  pub there : All (λ u. u < length old) more
  pub same : (u : ℕ) → (Contains more u → ⊥) → slice_index_or new u (0, 0)
      ≡ slice_index_or old u (0, 0)

-- where ranges are pending before and after, the added units are what changed in the first of them
abbrev pub ChangesFirst : List (List (ℕ × ℕ)) → List (List (ℕ × ℕ)) → List ℕ → List ℕ → Type 0
ChangesFirst [] new before after = Unit {0}
ChangesFirst (old ∷ rest) [] before after = Unit {0}
ChangesFirst (old ∷ rest) (new ∷ others) before after = AreChanges old new before after

-- what a walk stands for. A split in whose low part the walk is has its high part pending; the frames are listed from the
-- last split on
abbrev pub pending_of : List (ℕ × ℕ) → List Frame → List (List (ℕ × ℕ))
pending_of spans [] = []
pending_of spans (f ∷ fs) =
    (if f.in_high then [] else (slice_set spans f.unit (f.cut, f.high) ∷ []))
    ++ pending_of (slice_set spans f.unit (f.low, f.high)) fs

-- the ranges in place come first, while the walk is on
abbrev pub walk_of : Bool → List (ℕ × ℕ) → List Frame → List (List (ℕ × ℕ))
walk_of true spans frames = spans ∷ pending_of spans frames
walk_of false spans frames = []

-- each frame names a unit
abbrev pub AreFrames : ℕ → List Frame → Type 0
AreFrames units frames = All (λ f. f.unit < units) frames
