-- What a walk shows, and what it keeps.
use Rattle.std.specs.Prelude.{◌≡◌, ℕ, ◌<◌, ◌≤◌, List, [], length, slice_index, slice_index_or}
use Rattle.choice_problem.specs.declared.problems.TheConstants.{MOST_UNITS}
use Rattle.choice_problem.specs.Problems.{ProblemView, IsChooser, unit_count, resource_count, chooser_at, limit_of}
use Rattle.choice_problem.specs.Choices.{IsChoice, choice_cost, load_of}
use Rattle.choice_problem.specs.Bounds.{AreRanges, least_load}
use Rattle.choice_problem.specs.Splits.{IsCheapest, least_uses}
use Rattle.dual_bound.specs.Kept.{ListPassable}
use Rattle.branch_tree.specs.Lists.{times_in, AreWithin, AreRanksOf}
use Rattle.window_counts.specs.Placed.{AreZero}

-- a problem, and ranges of it
pub record WalkView : Type 0 where
  pub problem : ProblemView
  pub ranges : List (ℕ × ℕ)

-- the counts are the least loads of the listed resources
abbrev pub AreLeast : ProblemView → List (ℕ × ℕ) → List ℕ → List ℕ → Type 0
AreLeast p ranges listed counts = (i : ℕ) → i < length listed → slice_index counts i
    ≡ least_load p ranges (slice_index listed i)

-- each of these lists is what a unit uses of the listed resources whatever it takes of its range
pub record AreLists (p : ProblemView) (ranges : List (ℕ × ℕ)) (listed : List ℕ) (units : ℕ)
    (lists : List (List ℕ)) : Type 0 where
  pub count : length lists ≡ units
  pub each : (u i : ℕ) → u < units → i < length listed → times_in (slice_index_or lists u []) i
      ≡ least_uses p ranges u (slice_index listed i)
  pub within : (u : ℕ) → u < units → AreWithin (length listed) (slice_index_or lists u [])

-- the counts are what the choice uses of the listed resources
abbrev pub AreLoadsAt : ProblemView → List ℕ → List ℕ → List ℕ → Type 0
AreLoadsAt p x listed counts = (i : ℕ) → i < length listed → slice_index counts i
    ≡ load_of p x (slice_index listed i)

-- the limits of the listed resources
abbrev pub AreLimitsAt : ProblemView → List ℕ → List ℕ → Type 0
AreLimitsAt p listed limits = (i : ℕ) → i < length listed → slice_index limits i
    ≡ limit_of p (slice_index listed i)

-- what a walk keeps of its ranges: each unit's first cheapest alternative, what these cost, what
-- they use and the least loads, both of the listed resources, and room to count in
pub record IsKept (p : ProblemView) (ranges : List (ℕ × ℕ)) (alts : List ℕ) (cost : ℕ)
    (loads least zeros listed : List ℕ) : Type 0 where
  pub valid : AreRanges p ranges
  pub few_units : unit_count p ≤ MOST_UNITS
  pub units : (u : ℕ) → u < unit_count p → IsChooser (chooser_at p u)
  pub cheapest : IsCheapest p ranges alts
  pub choice : IsChoice p alts
  pub cost_is : cost ≡ choice_cost p alts
  pub loads_count : length loads ≡ length listed
  pub loads_are : AreLoadsAt p alts listed loads
  pub least_count : length least ≡ length listed
  pub least_are : AreLeast p ranges listed least
  pub zeros_count : length zeros ≡ length listed
  pub zeros_are : AreZero zeros

-- the same, where each resource that can be passed is listed or equal to a lower listed one, with
-- the ranks and limits of the listed resources, and what each unit uses of them whatever it takes
-- of its range
pub record IsKeptWith (p : ProblemView) (ranges : List (ℕ × ℕ)) (alts : List ℕ) (cost : ℕ)
    (loads least zeros passable ranks limits : List ℕ) (lists : List (List ℕ)) : Type 0 where
  pub kept : IsKept p ranges alts cost loads least zeros passable
  pub listed : ListPassable p passable
  pub ranked : AreRanksOf (resource_count p) passable ranks
  pub limits_count : length limits ≡ length passable
  pub limited : AreLimitsAt p passable limits
  pub lists_are : AreLists p ranges passable (unit_count p) lists

-- none of the first n counts is above its limit
abbrev pub AreWithinPlaces : List ℕ → List ℕ → ℕ → Type 0
AreWithinPlaces counts limits n = (i : ℕ) → i < n → slice_index counts i ≤ slice_index limits i

-- none of the counts from one place to another is above its limit
abbrev pub AreWithinFrom : List ℕ → List ℕ → ℕ → ℕ → Type 0
AreWithinFrom counts limits from to = (i : ℕ) → from ≤ i → i < to →
    slice_index counts i ≤ slice_index limits i

-- the first place whose count is above its limit
pub record IsFirstPlaceAbove (counts limits : List ℕ) (place : ℕ) : Type 0 where
  pub there : place < length counts
  pub above : slice_index limits place < slice_index counts place
  pub before : AreWithinPlaces counts limits place

-- no count of the first n listed resources is above its limit
abbrev pub AreWithinListed : ProblemView → (ℕ → ℕ) → List ℕ → ℕ → Type 0
AreWithinListed p counts list n = (i : ℕ) → i < n →
    counts (slice_index list i) ≤ limit_of p (slice_index list i)

-- the first of the listed resources whose count is above its limit
pub record IsFirstListed (p : ProblemView) (counts : ℕ → ℕ) (list : List ℕ)
    (r : ℕ) : Type 0 where
  pub place : ℕ
  pub there : place < length list
  pub is : slice_index list place ≡ r
  pub above : limit_of p r < counts r
  pub first : AreWithinListed p counts list place
