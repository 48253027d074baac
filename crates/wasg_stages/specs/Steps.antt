-- Limits that are lowered, and units that are added, in the loops of a stage. Contracts of private
-- functions alone cite them.
use Rattle.std.specs.Prelude.{◌≡◌, ℕ, ◌-◌, ◌<◌, ◌≤◌, List, ◌∷◌, ◌++◌, length, All, drop, slice_index_or, ℤ, pos}
use Rattle.std.specs.List.{AllZip}
use Rattle.season_days.specs.declared.declaration.Declaration.{Declaration}
use Rattle.season_days.specs.declared.declaration.TheConstants.{HIGHEST_NIGHT_LIMIT}
use Rattle.series_model.specs.declared.state.UnitState.{UnitState}
use Rattle.series_model.specs.Stages.{stage_units, share_of}
use Rattle.capacity_windows.specs.Windows.{capacity_of, declared_resources}
use Rattle.choice_problem.specs.Problems.{ChooserView, ArePartsInRange}
use Rattle.wasg_stages.specs.StageProblems.{IsChooserOf}

-- each limit, if it is from 0 to the highest, is lower by the uses of its resource, and at least 0
abbrev pub LowersBy : List ℤ → List ℤ → (ℕ → ℕ) → Type 0
LowersBy old new uses =
    (r n : ℕ) → r < length old → n ≤ HIGHEST_NIGHT_LIMIT → slice_index_or old r (pos 0) ≡ pos n →
    slice_index_or new r (pos 0) ≡ pos (n - uses r)

-- these are the limits of resources, none of them above the highest
abbrev pub AreLimitsOf : List ℤ → (ℕ → ℕ) → Type 0
AreLimitsOf limits limit =
    (r : ℕ) → r < length limits →
    (slice_index_or limits r (pos 0) ≡ pos (limit r)) × (limit r ≤ HIGHEST_NIGHT_LIMIT)

-- the first so many limits are shares of the old ones, and the others are still these
pub record AreShares (share : ℕ) (old new : List ℤ) (count : ℕ) : Type 0 where
  pub shared : (r n : ℕ) → r < count → n ≤ HIGHEST_NIGHT_LIMIT →
      slice_index_or old r (pos 0) ≡ pos n →
      slice_index_or new r (pos 0) ≡ pos (share_of share n)
  pub others : (r : ℕ) → count ≤ r →
      slice_index_or new r (pos 0) ≡ slice_index_or old r (pos 0)

-- the unit first in line is added where it is one of the stage's
abbrev pub AddsDue : Declaration → ℕ → UnitState → List ChooserView → List ChooserView → Type 0
AddsDue d stage state old new =
    (rest : List UnitState) (tail : List ChooserView) →
    AllZip (IsChooserOf d) (stage_units stage rest) tail →
    (more : List ChooserView) × AllZip (IsChooserOf d) (stage_units stage (state ∷ rest)) more
    × (new ++ tail ≡ old ++ more)

-- the units of the stage made so far: what is still to come completes them
pub record AreChoosers (d : Declaration) (stage : ℕ) (states : List UnitState)
    (choosers : List ChooserView) (i : ℕ) : Type 0 where
  pub whole : (tail : List ChooserView) →
      AllZip (IsChooserOf d) (stage_units stage (drop i states)) tail →
      AllZip (IsChooserOf d) (stage_units stage states) (choosers ++ tail)
  pub range : All (ArePartsInRange (declared_resources (capacity_of d))) choosers
  pub few : length choosers ≤ i
