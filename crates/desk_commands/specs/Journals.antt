-- The disk of a journal, from how it is handed in to how it is given back: why its journal was not
-- opened, or which pairs it held, and what a stop of the machine leaves of it. All is said of each
-- first content with which the calls of the disk agree, so of a disk that tells nothing too.
use Rattle.std.specs.Prelude.{◌≡◌, ℕ, List, ◌++◌, All, Option, Some, None, IfSome}
use Rattle.season_days.specs.Term.{Term}
use Rattle.desk_outside.specs.Cause.{Rose}
use Rattle.desk_disk.specs.Stops.{DiskPassage, DiskStart, Agrees}
use Rattle.desk_disk.specs.Disks.{DiskView, ToldDisk}
use Rattle.amend_journal.specs.Format.{IsFit, IsJournalOf}
use Rattle.amend_journal.specs.Standing.{StandsFor, IsOther, IsBadSlot}
use Rattle.amend_journal.specs.Durable.{ReadsAs, AreDurable, MayHavePair, LeavesNoWorse}
use Rattle.amend_journal.specs.Durable.{IsLaterDisk}
use Rattle.amend_journal.specs.Kept.{IsJournalUpTo, KeepsEach}
use Rattle.amend_journal.specs.declared.asked.Asked.{Asked}
use Rattle.desk_commands.specs.Reports.{JournalRefusal, no_journal, other_journal, bad_slot}
use Rattle.desk_commands.specs.Reports.{journal_fault}

-- for each first content with which all calls agree, and for the file as it read when the disk was
-- handed in
abbrev pub ForFile : DiskView → DiskView → (DiskStart → List ℕ → Type 0) → Type 0
ForFile d e P = (s : DiskStart) (file : List ℕ) → ReadsAs s d.log file → Agrees s e.log → P s file

-- ---- a journal that was not opened

abbrev pub IsDiskRefusal : Term → JournalRefusal → DiskView → DiskView → Type 0
IsDiskRefusal season no_journal d e = ⊥
IsDiskRefusal season other_journal d e = (e.faults ≡ d.faults)
    × IfSome d.told (λ t. IsOther t.bytes)
    × ForFile d e (λ s file. IsOther file)
IsDiskRefusal season (bad_slot number) d e = (e.faults ≡ d.faults)
    × IfSome d.told (λ t. IsBadSlot season number t.bytes)
    × ForFile d e (λ s file. IsBadSlot season number file)
IsDiskRefusal season journal_fault d e = Rose d.faults e.faults

-- at each moment every image is one that a stop might have left before, or stands for the pairs for
-- which the file stood
pub record LeavesUnharmed (season : Term) (d e : DiskView) : Type 0 where
  pub later : IsLaterDisk d e
  pub images : ForFile d e (λ s file. LeavesNoWorse s d.log e.log season file)

abbrev pub IsUnopened : Term → JournalRefusal → Option DiskView → Option DiskView → Type 0
IsUnopened season why None after = (why ≡ no_journal) × (after ≡ None)
IsUnopened season why (Some d) None = ⊥
IsUnopened season why (Some d) (Some e) =
    IsDiskRefusal season why d e × LeavesUnharmed season d e

-- ---- a journal that was opened, and kept while asks were entered

-- No put failed: the disk has not, and every image is a journal of the pairs and of all asks. Or
-- one did: the disk has failed, and an image may have the pair of that put besides.
abbrev pub IsLeftWith : Term → List Asked → List Asked → Option Asked → DiskView → DiskView → Type 0
IsLeftWith season pairs asks None d e =
    (e.faults ≡ d.faults)
    × ForFile d e (λ s file. AreDurable s e.log season (pairs ++ asks))
IsLeftWith season pairs asks (Some asked) d e =
    Rose d.faults e.faults
    × ForFile d e (λ s file. MayHavePair s e.log season (pairs ++ asks) asked)

-- one ask after the other was kept, and in the end that of a put that failed may stand there, too
abbrev pub KeepsInTurn : Term → DiskStart → Option Asked → List DiskPassage → List Asked
    → List Asked → List DiskPassage → Type 0
KeepsInTurn season s None before pairs asks now =
    KeepsEach season s (IsJournalOf season) before pairs asks now
KeepsInTurn season s (Some asked) before pairs asks now =
    KeepsEach season s (IsJournalUpTo season asked) before pairs asks now

-- The file stood for the pairs; so did what the disk told that it held. While it was opened every
-- image was one that a stop might have left before, or stood for the pairs; and from then on one
-- ask after the other was kept, so that no moment's image has lost one that was kept before it.
pub record KeepsAsks (season : Term) (pairs asks : List Asked) (failed : Option Asked)
    (d e : DiskView) : Type 0 where
  pub later : IsLaterDisk d e
  pub fit : All (IsFit season) pairs
  pub told : IfSome d.told (λ t. StandsFor season pairs t.bytes)
  pub found : ForFile d e (λ s file. StandsFor season pairs file)
  pub moments : ForFile d e (λ s file. (opened : List DiskPassage)
      × LeavesNoWorse s d.log opened season file
      × KeepsInTurn season s failed opened pairs asks e.log)
  pub left : IsLeftWith season pairs asks failed d e

-- ---- a disk that tells

-- the disk tells that it holds these bytes
abbrev pub TellsFile : DiskView → List ℕ → Type 0
TellsFile d file = (t : ToldDisk) × (d.told ≡ Some t) × (t.bytes ≡ file)

-- by what the disk tells, its journal is refused so in each season with the property
abbrev pub IsDueJournal : (Term → Type 0) → Option DiskView → JournalRefusal → Type 0
IsDueJournal IsSeason disk no_journal = disk ≡ None
IsDueJournal IsSeason disk other_journal = (d : DiskView) × (file : List ℕ)
    × (disk ≡ Some d) × TellsFile d file × IsOther file
IsDueJournal IsSeason disk (bad_slot number) = (d : DiskView) × (file : List ℕ)
    × (disk ≡ Some d) × TellsFile d file
    × ((season : Term) → IsSeason season → IsBadSlot season number file)
IsDueJournal IsSeason disk journal_fault = ⊥

-- by what the disk tells, its file stands for pairs in each season with the property
abbrev pub TellsPairs : (Term → Type 0) → Option DiskView → Type 0
TellsPairs IsSeason disk = (d : DiskView) × (file : List ℕ) × (disk ≡ Some d)
    × TellsFile d file
    × ((season : Term) → IsSeason season → (pairs : List Asked) × StandsFor season pairs file)
