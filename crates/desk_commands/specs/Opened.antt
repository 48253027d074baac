-- A journal on its way: it was opened, or why it was not. No clause of `desk` cites this.
use Rattle.std.specs.Prelude.{◌≡◌, ◌≤◌, List, All, Option, IfSome, length}
use Rattle.season_days.specs.Term.{Term}
use Rattle.desk_disk.specs.Disks.{DiskView}
use Rattle.amend_journal.specs.Format.{IsFit}
use Rattle.amend_journal.specs.Standing.{StandsFor}
use Rattle.amend_journal.specs.Durable.{JournalView, AreDurable, LeavesNoWorse, IsLaterDisk}
use Rattle.amend_journal.specs.declared.asked.Asked.{Asked}
use Rattle.amend_journal.specs.declared.asked.TheConstants.{MOST_PAIRS}
use Rattle.amend_journal.specs.declared.fault.OpenFault.{OpenFault}
use Rattle.amend_journal.specs.declared.fault.OpenFault.TheVariants as openings
use Rattle.desk_commands.specs.Outside.{OutsideChange}
use Rattle.desk_commands.specs.Journals.{ForFile, IsUnopened}
use Rattle.desk_commands.specs.Stops.{journal_refusal}
use Rattle.desk_commands.specs.declared.stop.NoJournal.TheVariants as journals
use Rattle.desk_commands.specs.declared.stop.Stop.{Stop}
use Rattle.desk_commands.specs.declared.stop.Stop.TheVariants as stops

-- the journal of a disk that was handed in so
pub record IsOpened (season : Term) (pairs : List Asked) (d : DiskView) (journal : JournalView)
    : Type 0 where
  pub later : IsLaterDisk d journal.disk
  pub faults : journal.disk.faults ≡ d.faults
  pub fit : All (IsFit season) pairs
  pub season_is : journal.season ≡ season
  pub count : journal.count ≡ length pairs
  pub few : length pairs ≤ MOST_PAIRS
  pub told : IfSome d.told (λ t. StandsFor season pairs t.bytes)
  pub found : ForFile d journal.disk (λ s file. StandsFor season pairs file)
  pub durable : ForFile d journal.disk (λ s file. AreDurable s journal.disk.log season pairs)
  pub images : ForFile d journal.disk (λ s file.
      LeavesNoWorse s d.log journal.disk.log season file)

-- by the disk, before and now
abbrev pub DiskStops : Term → Option DiskView → Option DiskView → Stop → Type 0
DiskStops season before after (stops.Unopened why) =
    IsUnopened season (journal_refusal why) before after
DiskStops season before after stops.Memory = Unit {0}
DiskStops season before after stop = ⊥

-- and by the doors, at which no client was served then
abbrev pub JournalStops : Term → OutsideChange → Stop → Type 0
JournalStops season change (stops.Unopened why) = (change.after.doors ≡ change.before.doors)
    × IsUnopened season (journal_refusal why) change.before.disk change.after.disk
JournalStops season change stops.Memory = Unit {0}
JournalStops season change stop = ⊥

abbrev pub open_stop : OpenFault → Stop
open_stop openings.NotJournal = stops.Unopened journals.Other
open_stop (openings.BadSlot number) = stops.Unopened (journals.Slot number)
open_stop openings.DiskFault = stops.Unopened journals.Fault
open_stop openings.Memory = stops.Memory
