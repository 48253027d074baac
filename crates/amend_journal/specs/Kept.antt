-- What a ledger leaves of the journal with which it began: what a stop of the machine leaves then,
-- for every first content of the disk and all pairs that were durable at the beginning.
use Rattle.std.specs.Prelude.{◌≡◌, ◌⊎◌, ℕ, ◌+◌, ◌<◌, List, [], ◌∷◌, ◌++◌, length, map}
use Rattle.std.specs.Prelude.{Option, Some, None}
use Rattle.season_days.specs.Term.{Term}
use Rattle.scr_reader.specs.declared.line.Item.{Item}
use Rattle.desk_outside.specs.Cause.{Rose}
use Rattle.desk_disk.specs.Stops.{DiskPassage, DiskStart, AtEachMoment}
use Rattle.desk_disk.specs.Disks.{DiskView}
use Rattle.holding_book.specs.declared.answer.Entry.{Entry}
use Rattle.holding_book.specs.Books.{SlotBook}
use Rattle.holding_book.specs.Asks.{next}
use Rattle.amend_journal.specs.Format.{IsFit, IsJournalOf}
use Rattle.amend_journal.specs.Durable.{JournalView, AreDurable, MayHavePair, IsLaterDisk}
use Rattle.amend_journal.specs.declared.asked.Asked.{Asked}
use Rattle.amend_journal.specs.declared.told.Failure.{Failure}

-- what was asked in a history, as pairs
abbrev pub asked_by : Entry → Asked
asked_by entry = record { caller = entry.caller; ask = entry.ask }

abbrev pub asks_of : List Entry → List Asked
asks_of history = map asked_by history

-- the book after all pairs are answered on it, one after the other
abbrev pub book_after : SlotBook → List Asked → SlotBook
book_after b [] = b
book_after b (asked ∷ asks) = book_after (next b asked.ask) asks

-- a journal keeps an ask of its season, of a caller whose number is below 256
abbrev pub CanKeep : JournalView → ℕ → Item → Type 0
CanKeep began caller ask =
    (caller < 256) × IsFit began.season (record { caller = caller; ask = ask })

-- for every first content of the disk, and for the pairs that were durable when the ledger began
abbrev pub ForDurable : JournalView → (DiskStart → List Asked → Type 0) → Type 0
ForDurable began P = (s : DiskStart) (pairs : List Asked)
    → AreDurable s began.disk.log began.season pairs → length pairs ≡ began.count → P s pairs

-- an image is a journal of the pairs, or of these and one more
abbrev pub IsJournalUpTo : Term → Asked → List Asked → List ℕ → Type 0
IsJournalUpTo season asked pairs image =
    IsJournalOf season pairs image ⊎ IsJournalOf season (pairs ++ asked ∷ []) image

-- The calls of a disk from one log to another, cut where each of the asks is kept. Up to its cut
-- every image is a journal of all pairs before it, or of these and the ask; at the cut it is
-- durable. Behind the last cut every image is as is said of all pairs.
abbrev pub KeepsEach : Term → DiskStart → (List Asked → List ℕ → Type 0) → List DiskPassage
    → List Asked → List Asked → List DiskPassage → Type 0
KeepsEach season s IsLast before pairs [] now = AtEachMoment s before now (IsLast pairs)
KeepsEach season s IsLast before pairs (asked ∷ asks) now = (cut : List DiskPassage)
    × AtEachMoment s before cut (IsJournalUpTo season asked pairs)
    × AreDurable s cut season (pairs ++ asked ∷ [])
    × KeepsEach season s IsLast cut (pairs ++ asked ∷ []) asks now

-- each ask was kept since the ledger began
abbrev pub AreMoments : JournalView → DiskView → (List Asked → List ℕ → Type 0) → List Asked
    → Type 0
AreMoments began disk IsLast asks = ForDurable began (λ s pairs.
    KeepsEach began.season s IsLast began.disk.log pairs asks disk.log)

-- No put has failed: the disk has not failed since, every image is a journal of the pairs and of
-- all that was asked since, and each of these asks was kept before the next one.
pub record AllKept (began : JournalView) (disk : DiskView) (asks : List Asked) : Type 0 where
  pub faults : disk.faults ≡ began.disk.faults
  pub durable : ForDurable began (λ s pairs.
      AreDurable s disk.log began.season (pairs ++ asks))
  pub moments : AreMoments began disk (IsJournalOf began.season) asks

-- A put failed: the disk has failed since, and an image may have one more pair, that of the put.
pub record MayHaveOneMore (began : JournalView) (disk : DiskView) (asks : List Asked) : Type 0 where
  pub rose : Rose began.disk.faults disk.faults
  pub asked : Asked
  pub left : ForDurable began (λ s pairs.
      MayHavePair s disk.log began.season (pairs ++ asks) asked)
  pub moments : AreMoments began disk (IsJournalUpTo began.season asked) asks

-- what contracts see of a journal that a ledger keeps: as it was when the ledger began, as it is,
-- and the put that failed
pub record KeptView : Type 0 where
  pub began : JournalView
  pub journal : JournalView
  pub failure : Option Failure

abbrev pub IsDiskKept : KeptView → List Asked → Option Failure → Type 0
IsDiskKept k asks None = AllKept k.began k.journal.disk asks
IsDiskKept k asks (Some failure) = MayHaveOneMore k.began k.journal.disk asks
    × (failure.faults ≡ k.journal.disk.faults)

-- the journal has what was asked in the history
pub record IsKept (k : KeptView) (history : List Entry) : Type 0 where
  pub season : k.journal.season ≡ k.began.season
  pub count : k.journal.count ≡ k.began.count + length history
  pub later : IsLaterDisk k.began.disk k.journal.disk
  pub disk : IsDiskKept k (asks_of history) k.failure
