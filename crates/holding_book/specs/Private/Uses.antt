-- The uses of the stops of a line.
use Rattle.std.specs.Prelude.{◌≡◌, ℕ, ◌<◌, ◌≤◌, ◌^◌, List, sum_by, Option, None}
use Rattle.std.specs.Option.{ForSome}
use Rattle.season_days.specs.Capacity.{Capacity, declared_resources, windows_of}
use Rattle.capacity_windows.specs.Windows.{window_load}
use Rattle.capacity_windows.specs.declared.movement.Movement.{Movement}
use Rattle.choice_problem.specs.Strips.{part_uses, IsPartInRange}
use Rattle.choice_problem.specs.declared.strips.Strip.{Strip}
use Rattle.window_counts.specs.Counts.{some_uses, both_uses}
use Rattle.season_days.specs.declared.declaration.Kind.{Kind}
use Rattle.season_days.specs.declared.day.Period.{Period}
use Rattle.scr_reader.specs.declared.line.Stop.{Stop}
use Rattle.series_model.specs.Movements.{stop_load}
use Rattle.holding_book.specs.declared.uses.Uses.{Uses}

-- the uses of a resource
abbrev pub book_uses_of : Uses → ℕ → ℕ
book_uses_of uses r = both_uses uses.one uses.two r

abbrev pub AreInRange : ℕ → Uses → Type 0
AreInRange resources uses =
    ForSome uses.one (IsPartInRange resources) × ForSome uses.two (IsPartInRange resources)

abbrev pub AreNone : Uses → Type 0
AreNone uses = (uses.one ≡ None) × (uses.two ≡ None)

-- a part uses each window at most once; the night quota, which comes last, may be used more often
abbrev pub IsOnce : Capacity → List Strip → Type 0
IsOnce c part = (r : ℕ) → r < sum_by (windows_of c) c.rules → part_uses part r ≤ 1

abbrev pub AreOncePerWindow : Capacity → Uses → Type 0
AreOncePerWindow c uses = ForSome uses.one (IsOnce c) × ForSome uses.two (IsOnce c)

-- each of two parts uses at most one of a resource
abbrev pub AreUsedOnce : Option (List Strip) → Option (List Strip) → ℕ → Type 0
AreUsedOnce one two r = (some_uses one r ≤ 1) × (some_uses two r ≤ 1)

-- the part of a movement of a line, on all dates of a period, if the line has it
pub record IsStopPart (c : Capacity) (kind : Kind) (stop : Option Stop) (minute : ℕ)
    (period : Period) (part : Option (List Strip)) : Type 0 where
  pub there : ForSome part (IsPartInRange (declared_resources c))
  pub once : ForSome part (IsOnce c)
  pub loads : (r : ℕ) → some_uses part r ≡ stop_load c kind stop minute period r
  pub few : (r : ℕ) → some_uses part r < 2 ^ 19

-- they are the loads of these movements
pub record AreUsesOf (c : Capacity) (movements : List Movement) (uses : Uses) : Type 0 where
  pub there : AreInRange (declared_resources c) uses
  pub once : AreOncePerWindow c uses
  pub loads : (r : ℕ) → book_uses_of uses r ≡ window_load c movements r
  pub few : (r : ℕ) → book_uses_of uses r < 2 ^ 20
