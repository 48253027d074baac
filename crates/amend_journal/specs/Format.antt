-- The bytes of a journal: its header, its slots, and what it holds.
use Rattle.std.specs.Prelude.{◌≡◌, ◌≢◌, ℕ, ◌-◌, ◌≤◌, List, [], ◌∷◌, ◌++◌, length, All, codes}
use Rattle.std.specs.Prelude.{replicate}
use Rattle.season_days.specs.Term.{Term}
use Rattle.scr_reader.specs.Printed.{item_text}
use Rattle.scr_reader.specs.Again.{IsFitItem}
use Rattle.amend_journal.specs.declared.asked.Asked.{Asked}
use Rattle.amend_journal.specs.declared.asked.TheConstants.{MOST_PAIRS}

-- the 16 bytes at the head of a journal
unfoldable pub header : List ℕ
header = codes "SLOT JOURNAL 01" ++ 10 ∷ []

-- the caller, the length of the text, the text, and zeros up to 255 bytes
abbrev pub filled : ℕ → List ℕ → List ℕ
filled caller text = caller ∷ (length text ∷ (text ++ replicate (253 - length text) 0))

-- the 255 bytes of a slot behind its gate
unfoldable pub slot_bytes : Term → Asked → List ℕ
slot_bytes season asked = filled asked.caller (item_text season asked.ask)

-- a slot for each pair, its gate open
abbrev pub open_slots : Term → List Asked → List ℕ
open_slots season [] = []
open_slots season (asked ∷ asks) = 1 ∷ (slot_bytes season asked ++ open_slots season asks)

-- what is asked can be asked, and has a spelling in the season
abbrev pub IsFit : Term → Asked → Type 0
IsFit season asked = IsFitItem season asked.ask

-- the file begins with the block, and behind it stands a gate of this value
pub record HasGate (block : List ℕ) (gate : ℕ) (file : List ℕ) : Type 0 where
  pub behind : List ℕ
  pub is : file ≡ block ++ gate ∷ behind

-- the file begins with the block, and behind it stands a closed gate; what follows may be anything
pub record ClosedAfter (block file : List ℕ) : Type 0 where
  pub gate : ℕ
  pub closed : gate ≢ 1
  pub at : HasGate block gate file

-- the file is a journal of these pairs, in this order
pub record IsJournalOf (season : Term) (asks : List Asked) (file : List ℕ) : Type 0 where
  pub fit : All (IsFit season) asks
  pub few : length asks ≤ MOST_PAIRS
  pub closed : ClosedAfter (header ++ open_slots season asks) file
