-- What of a journal a stop of the machine leaves, over the log of its disk's calls and for every
-- first content.
use Rattle.std.specs.Prelude.{◌≡◌, ◌⊎◌, ℕ, List, [], ◌∷◌, ◌++◌, All, Option, Some, None}
use Rattle.season_days.specs.Term.{Term}
use Rattle.desk_disk.specs.Stops.{DiskPassage, synced, sync_failed, DiskStart, MayRead, MayLeave}
use Rattle.desk_disk.specs.Stops.{Agrees, AtEachMoment}
use Rattle.desk_disk.specs.Disks.{DiskView, ToldDisk, TellsTruly}
use Rattle.amend_journal.specs.Format.{slot_bytes, IsFit, IsJournalOf}
use Rattle.amend_journal.specs.Standing.{StandsFor}
use Rattle.amend_journal.specs.declared.asked.Asked.{Asked}

-- what contracts see of a journal: its disk, its season, and how many pairs it holds
pub record JournalView : Type 0 where
  pub disk : DiskView
  pub season : Term
  pub count : ℕ

-- the bytes of a slot behind its gate, and the closed gate of the next one
pub record IsReady (season : Term) (asked : Asked) (slot : List ℕ) : Type 0 where
  pub fit : IsFit season asked
  pub is : slot ≡ slot_bytes season asked ++ 0 ∷ []

-- the file reads as these bytes, by the calls so far
abbrev pub ReadsAs : DiskStart → List DiskPassage → List ℕ → Type 0
ReadsAs s log file = (c : List ℕ) → MayRead s log c → c ≡ file

-- Every image that a stop may leave is a journal of these pairs. The file as it reads is one of
-- these images.
pub record AreDurable (s : DiskStart) (log : List DiskPassage) (season : Term) (asks : List Asked)
    : Type 0 where
  pub fit : All (IsFit season) asks
  pub left : (c : List ℕ) → MayLeave s log c → IsJournalOf season asks c

-- Every image that a stop may leave is a journal of these pairs, or of these and one more.
abbrev pub MayHavePair : DiskStart → List DiskPassage → Term → List Asked → Asked → Type 0
MayHavePair s log season asks asked = (c : List ℕ) → MayLeave s log c
    → IsJournalOf season asks c ⊎ IsJournalOf season (asks ++ asked ∷ []) c

-- Calls that begin with a sync. Where it failed there was no other. Once it has succeeded, every
-- image stands for the pairs at each moment.
abbrev pub StandsFromSync : DiskStart → List DiskPassage → List DiskPassage → Term → List Asked
    → Type 0
StandsFromSync s before now season asks =
    (now ≡ before ++ sync_failed ∷ [])
    ⊎ AtEachMoment s (before ++ synced ∷ []) now (StandsFor season asks)

-- the image stands for the pairs for which the file stands
pub record StandsAlike (season : Term) (file image : List ℕ) : Type 0 where
  pub asks : List Asked
  pub found : StandsFor season asks file
  pub left : StandsFor season asks image

-- At each moment every image is one that a stop might have left before, or stands for the pairs for
-- which the file stood.
abbrev pub LeavesNoWorse : DiskStart → List DiskPassage → List DiskPassage → Term → List ℕ → Type 0
LeavesNoWorse s before now season file =
    AtEachMoment s before now (λ image. MayLeave s before image ⊎ StandsAlike season file image)

-- how the file of a disk that tells stood at first
abbrev pub told_start : Option ToldDisk → Option DiskStart
told_start None = None
told_start (Some t) = Some t.start

-- The same disk after more calls: it tells of the same first content, and goes on to tell truly;
-- and a first content with which all calls agree is one with which the earlier ones did.
pub record IsLaterDisk (before now : DiskView) : Type 0 where
  pub start : told_start now.told ≡ told_start before.told
  pub truly : TellsTruly before → TellsTruly now
  pub agrees : (s : DiskStart) → Agrees s now.log → Agrees s before.log
