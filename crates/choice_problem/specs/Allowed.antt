-- What a caller can test of parts, alternatives, units and limits before it makes a problem of them.
use Rattle.std.specs.Prelude.{ℕ, ◌+◌, ◌-◌, ◌/◌, ◌<◌, ◌≤◌, ◌^◌, ◌==◌, min, if◌then◌else◌, List, length, All, sum_by, Option, Some, None, slice_index_or, []}
use Rattle.std.specs.Option.{ForSome}
use Rattle.choice_problem.specs.declared.strips.Strip.{Strip}
use Rattle.choice_problem.specs.declared.problems.Alt.{Alt}
use Rattle.choice_problem.specs.declared.problems.TheConstants.{MOST_USES}
use Rattle.choice_problem.specs.Strips.{part_uses}
use Rattle.choice_problem.specs.Problems.{ChooserView}

-- how many runs of the strip can hold one resource: all where they do not move, else as many starts as a width holds
abbrev pub strip_most : Strip → ℕ
strip_most s = if s.gap == 0 then s.times else min s.times ((s.width + (s.gap - 1)) / s.gap)

-- the same over all strips of a part, of which each may hold the resource
abbrev pub part_most : List Strip → ℕ
part_most strips = sum_by strip_most strips

-- the same of the part that an alternative may name
abbrev pub named_most : List (List Strip) → Option ℕ → ℕ
named_most parts None = 0
named_most parts (Some k) = part_most (slice_index_or parts k [])

-- an alternative that keeps its limits whatever resources its strips share
pub record IsAllowedAlt (parts : List (List Strip)) (alt : Alt) : Type 0 where
  pub cost : alt.cost < 2 ^ 24
  pub one : ForSome alt.one (λ k. k < length parts)
  pub two : ForSome alt.two (λ k. k < length parts)
  pub uses : named_most parts alt.one + named_most parts alt.two ≤ MOST_USES

-- a unit of such alternatives
pub record IsAllowed (m : ChooserView) : Type 0 where
  pub some : 0 < length m.alts
  pub few_alts : length m.alts < 2 ^ 32
  pub few_parts : length m.parts < 2 ^ 32
  pub each : All (IsAllowedAlt m.parts) m.alts

-- no part uses a resource more often than this
abbrev pub UseAtMost : ℕ → List (List Strip) → Type 0
UseAtMost most parts = All (λ (strips : List Strip). (r : ℕ) → part_uses strips r ≤ most) parts

-- an alternative whose cost is small and whose parts are there, however often they use a resource
pub record IsNamedAlt (parts : List (List Strip)) (alt : Alt) : Type 0 where
  pub cost : alt.cost < 2 ^ 24
  pub one : ForSome alt.one (λ k. k < length parts)
  pub two : ForSome alt.two (λ k. k < length parts)
