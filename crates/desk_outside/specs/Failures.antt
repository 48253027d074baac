-- Which calls of an object in memory are to fail.
use Rattle.std.specs.Prelude.{ℕ, ◌==◌, nat_le, min, List, [], ◌∷◌, length, take, Option, Some, None}
use Rattle.std.specs.Prelude.{option_map, unwrap_or, if◌then◌else◌}
use Rattle.desk_outside.specs.declared.failures.Failure.{Failure}

-- what contracts see of the calls of an object
pub record CallsView : Type 0 where
  pub failing : List Failure
  pub made : ℕ

-- the first entry of the list for the call of this number, counted from 0
abbrev pub failure_at : List Failure → ℕ → Option Failure
failure_at [] call = None
failure_at (failure ∷ failing) call =
    if failure.call == call then Some failure else failure_at failing call

-- the bytes that a write takes: all of them, or where it is to fail the front that its entry says,
-- or nothing at all
abbrev pub taken_by : Option Failure → List ℕ → Option (List ℕ)
taken_by None bytes = Some bytes
taken_by (Some failure) bytes = option_map (λ n. take n bytes) failure.part

-- what a put appends: all bytes or, where they do not fit, none; where it is to fail the front that
-- its entry says, as far as that fits
abbrev pub sent_bytes : ℕ → Option Failure → List ℕ → List ℕ
sent_bytes free None bytes = if nat_le (length bytes) free then bytes else []
sent_bytes free (Some failure) bytes = take (min (unwrap_or failure.part 0) free) bytes
