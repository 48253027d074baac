-- Why a call on the outside failed. Each object counts its faults; the count is a u64 that stands
-- still at its last value.
use Rattle.std.specs.Prelude.{◌≡◌, ℕ, ◌+◌, ◌-◌, ◌^◌, ◌≤◌, min, Result, OnOk, OnErr}

-- the count after one more fault
abbrev pub one_more : ℕ → ℕ
one_more count = min (count + 1) (2 ^ 64 - 1)

-- the count rose between before and now, or stands at the last value
abbrev pub Rose : ℕ → ℕ → Type 0
Rose before now = one_more before ≤ now

-- A call of an object whose faults are counted: the count never falls, Ok leaves it, and each fault
-- has raised it. Code that is generic over the object cannot raise the count, so it cannot make a
-- fault up.
pub record HasCause {T E : Type 0} (before now : ℕ) (result : Result T E) : Type 0 where
  pub later : before ≤ now
  pub kept : OnOk result (now ≡ before)
  pub rose : OnErr result (Rose before now)
