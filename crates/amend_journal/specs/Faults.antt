-- Why a journal could not be opened.
use Rattle.std.specs.Prelude.{◌≡◌, ◌≤◌, ℕ, Result, OnOk, IfErr}
use Rattle.desk_outside.specs.Cause.{Rose}
use Rattle.amend_journal.specs.declared.fault.OpenFault.{OpenFault}
use Rattle.amend_journal.specs.declared.fault.OpenFault.TheVariants.{NotJournal, BadSlot, DiskFault}
use Rattle.amend_journal.specs.declared.fault.OpenFault.TheVariants.{Memory}

-- how often the disk has failed, before and after a call that had this fault
abbrev pub CountsFault : OpenFault → ℕ → ℕ → Type 0
CountsFault NotJournal before now = now ≡ before
CountsFault (BadSlot number) before now = now ≡ before
CountsFault DiskFault before now = Rose before now
CountsFault Memory before now = now ≡ before

-- the disk failed where the fault says so, and nowhere else
pub record HasOpenCause {T : Type 0} (before now : ℕ) (result : Result T OpenFault) : Type 0 where
  pub later : before ≤ now
  pub kept : OnOk result (now ≡ before)
  pub fault : IfErr result (λ f. CountsFault f before now)
