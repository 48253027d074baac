-- For which pairs a file stands, and why it stands for none.
use Rattle.std.specs.Prelude.{◌≡◌, ◌≢◌, ◌⊎◌, ℕ, ◌<◌, ◌≤◌, List, [], ◌++◌, ◌∷◌, length, take, All}
use Rattle.season_days.specs.Term.{Term}
use Rattle.amend_journal.specs.Format.{header, slot_bytes, open_slots, IsFit, IsJournalOf}
use Rattle.amend_journal.specs.declared.asked.Asked.{Asked}
use Rattle.amend_journal.specs.declared.asked.TheConstants.{MOST_PAIRS}
use Rattle.amend_journal.specs.declared.fault.OpenFault.{OpenFault}
use Rattle.amend_journal.specs.declared.fault.OpenFault.TheVariants.{NotJournal, BadSlot, DiskFault}
use Rattle.amend_journal.specs.declared.fault.OpenFault.TheVariants.{Memory}

-- A file of at most 17 bytes stands for no pair, whatever it holds. A longer one stands for the
-- pairs of which it is a journal.
abbrev pub StandsFor : Term → List Asked → List ℕ → Type 0
StandsFor season asks file = ((length file ≤ 17) × (asks ≡ [])) ⊎ IsJournalOf season asks file

-- longer, and not begun with the header
pub record IsOther (file : List ℕ) : Type 0 where
  pub long : 17 < length file
  pub other : take 16 file ≢ header

-- The slots before this number are open and spell pairs. The slot of this number is open too, and
-- the next gate lies past the end, or its bytes spell no pair of the season, or as many pairs as a
-- journal may hold stand before it.
pub record IsBadSlot (season : Term) (number : ℕ) (file : List ℕ) : Type 0 where
  pub long : 17 < length file
  pub asks : List Asked
  pub fit : All (IsFit season) asks
  pub number_is : length asks ≡ number
  pub few : number ≤ MOST_PAIRS
  pub behind : List ℕ
  pub is : file ≡ (header ++ open_slots season asks) ++ 1 ∷ behind
  pub bad : (length behind < 256)
      ⊎ (((asked : Asked) → IsFit season asked → take 255 behind ≢ slot_bytes season asked)
      ⊎ (number ≡ MOST_PAIRS))

-- the file is such that opening it has this fault
abbrev pub HasFault : Term → OpenFault → List ℕ → Type 0
HasFault season NotJournal file = IsOther file
HasFault season (BadSlot number) file = IsBadSlot season number file
HasFault season DiskFault file = Unit {0}
HasFault season Memory file = Unit {0}
