-- The list of the turn of a ledger with a journal: the entries of the history, and behind them a
-- put that failed, if one did.
use Rattle.std.specs.Prelude.{◌≡◌, ℕ, List, [], ◌∷◌, ◌++◌, map, Option, Some, None}
use Rattle.holding_book.specs.declared.answer.Entry.{Entry}
use Rattle.amend_journal.specs.declared.told.Told.{Told}
use Rattle.amend_journal.specs.declared.told.Told.TheVariants.{Done, Broke}
use Rattle.amend_journal.specs.declared.told.Failure.{Failure}

abbrev pub failure_told : Option Failure → List Told
failure_told None = []
failure_told (Some failure) = Broke failure.caller failure.faults ∷ []

abbrev pub told_list : List Entry → Option Failure → List Told
told_list history failure = map Done history ++ failure_told failure

-- the entries in such a list
abbrev pub read_told : List Told → List Entry
read_told [] = []
read_told (Done entry ∷ later) = entry ∷ read_told later
read_told (Broke caller faults ∷ later) = read_told later

-- who told it
abbrev pub told_caller : Told → ℕ
told_caller (Done entry) = entry.caller
told_caller (Broke caller faults) = caller

-- a put failed, and the count of the disk's faults was this then
pub record EndsBroken (list : List Told) (faults : ℕ) : Type 0 where
  pub before : List Told
  pub caller : ℕ
  pub is : list ≡ before ++ Broke caller faults ∷ []
