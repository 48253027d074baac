-- A problem as contracts see it: units, each with parts and alternatives, and a limit for each resource.
use Rattle.std.specs.Prelude.{ℕ, ◌+◌, ◌<◌, ◌≤◌, ◌^◌, List, [], length, All, map, ℤ, pos, negsuc, ◌≤ℤ◌, Option, Some, None, slice_index, slice_index_or}
use Rattle.std.specs.Option.{ForSome}
use Rattle.choice_problem.specs.declared.strips.Strip.{Strip}
use Rattle.choice_problem.specs.declared.problems.Alt.{Alt}
use Rattle.choice_problem.specs.declared.problems.TheConstants.{MOST_UNITS, MOST_RESOURCES, MOST_USES, HIGHEST_LIMIT}
use Rattle.choice_problem.specs.Strips.{part_uses, IsPartInRange}

-- a unit: its parts, and its alternatives, each of which names up to two of them
pub record ChooserView : Type 0 where
  pub parts : List (List Strip)
  pub alts : List Alt

-- units, and the limit of each resource
pub record ProblemView : Type 0 where
  pub units : List ChooserView
  pub limits : List ℕ

abbrev pub chooser_at : ProblemView → ℕ → ChooserView
chooser_at p u = slice_index_or p.units u (record { parts = []; alts = [] })

abbrev pub alt_at : ChooserView → ℕ → Alt
alt_at m a = slice_index_or m.alts a (record { cost = 0; one = None; two = None })

abbrev pub part_at : ChooserView → ℕ → List Strip
part_at m k = slice_index_or m.parts k []

-- how often the part that an alternative may name uses the resource
abbrev pub named_uses : ChooserView → Option ℕ → ℕ → ℕ
named_uses m None r = 0
named_uses m (Some k) r = part_uses (part_at m k) r

-- how often alternative a of the unit uses the resource
abbrev pub chooser_uses : ChooserView → ℕ → ℕ → ℕ
chooser_uses m a r = named_uses m (alt_at m a).one r + named_uses m (alt_at m a).two r

-- the limits on a unit: at least one alternative; each costs less than 2 ^ 24, names parts that are there, and uses a
-- resource at most 434 times
pub record IsChooser (m : ChooserView) : Type 0 where
  pub some : 0 < length m.alts
  pub few_alts : length m.alts < 2 ^ 32
  pub few_parts : length m.parts < 2 ^ 32
  pub cost : (a : ℕ) → a < length m.alts → (alt_at m a).cost < 2 ^ 24
  pub one : (a : ℕ) → a < length m.alts → ForSome (alt_at m a).one (λ k. k < length m.parts)
  pub two : (a : ℕ) → a < length m.alts → ForSome (alt_at m a).two (λ k. k < length m.parts)
  pub uses : (a r : ℕ) → a < length m.alts → chooser_uses m a r ≤ MOST_USES

-- how many units, alternatives and parts of a unit, and resources there are
abbrev pub unit_count : ProblemView → ℕ
unit_count p = length p.units

abbrev pub alt_count : ProblemView → ℕ → ℕ
alt_count p u = length (chooser_at p u).alts

abbrev pub part_count : ProblemView → ℕ → ℕ
part_count p u = length (chooser_at p u).parts

abbrev pub resource_count : ProblemView → ℕ
resource_count p = length p.limits

-- cost and uses of alternative a of unit u
abbrev pub alt_cost : ProblemView → ℕ → ℕ → ℕ
alt_cost p u a = (alt_at (chooser_at p u) a).cost

abbrev pub alt_uses : ProblemView → ℕ → ℕ → ℕ → ℕ
alt_uses p u a r = chooser_uses (chooser_at p u) a r

abbrev pub limit_of : ProblemView → ℕ → ℕ
limit_of p r = slice_index p.limits r

-- each part of the unit stays within the resources
abbrev pub ArePartsInRange : ℕ → ChooserView → Type 0
ArePartsInRange resources m = All (λ strips. IsPartInRange resources strips) m.parts

-- the number that an integer of at least 0 is
abbrev pub amount : ℤ → ℕ
amount (pos n) = n
amount (negsuc n) = 0

-- what contracts see of these units and limits
abbrev pub problem_of : List ChooserView → List ℤ → ProblemView
problem_of units limits = record { units = units; limits = map amount limits }

-- the limits on a problem: at most 4,096 units and 1,000,000 resources, each with a limit from 0 to 999,999, and parts
-- that stay within them
pub record IsProblem (units : List ChooserView) (limits : List ℤ) : Type 0 where
  pub few_units : length units ≤ MOST_UNITS
  pub few_resources : length limits ≤ MOST_RESOURCES
  pub limits_from : All (λ z. pos 0 ≤ℤ z) limits
  pub limits_to : All (λ z. z ≤ℤ HIGHEST_LIMIT) limits
  pub in_range : All (ArePartsInRange (length limits)) units
