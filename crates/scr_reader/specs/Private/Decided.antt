-- A reader that decides: its answer is the only one.
use Rattle.std.specs.Prelude.{◌≡◌, ◌⊎◌, ℕ, ◌+◌, ◌≤◌, Result, Ok, Err, List, [], ◌∷◌, ◌++◌, length, drop, false}
use Rattle.slot_text.specs.Fields.{is_blank_line}
use Rattle.scr_reader.specs.Messages.{Run, runs_of, IsMessage, IsMessageFault}
use Rattle.scr_reader.specs.declared.message.Message.{Message}
use Rattle.scr_reader.specs.declared.fault.ScrFault.{ScrFault}

-- the one value that is read, and there is no fault; or the one fault, and nothing is read; or
-- memory ran out
abbrev pub Decides : {X E : Type 0} → E → (X → Type 0) → (E → Type 0) → Result X E → Type 0
Decides {X} {E} memory Reads Fails (Ok x) =
    Reads x × ((other : X) → Reads other → x ≡ other) × ((fault : E) → Fails fault → ⊥)
Decides {X} {E} memory Reads Fails (Err e) =
    (e ≡ memory)
    ⊎ (Fails e × ((other : X) → Reads other → ⊥) × ((fault : E) → Fails fault → fault ≡ e))

-- the run is the message, no other one, and has no fault
abbrev pub OnlyMessage : Run → Message → Type 0
OnlyMessage run m =
    IsMessage run m × ((other : Message) → IsMessage run other → m ≡ other)
    × ((g : ScrFault) → IsMessageFault run g → ⊥)

-- the run has the fault, no other one, and is no message
abbrev pub OnlyFault : Run → ScrFault → Type 0
OnlyFault run f =
    IsMessageFault run f × ((other : Message) → IsMessage run other → ⊥)
    × ((g : ScrFault) → IsMessageFault run g → g ≡ f)

-- so many lines made no message, or were a run that is one
pub record Advances (number : ℕ) (lines : List (List ℕ)) (count : ℕ) (before after : List Message) :
    Type 0 where
  pub some : 1 ≤ count
  pub within : count ≤ length lines
  pub step : ((after ≡ before)
      × (runs_of number lines ≡ runs_of (number + count) (drop count lines)))
      ⊎ ((run : Run) × (m : Message) × (after ≡ before ++ m ∷ [])
      × (runs_of number lines ≡ run ∷ runs_of (number + count) (drop count lines))
      × OnlyMessage run m)

-- the first run has the fault
abbrev pub Stops : ℕ → List (List ℕ) → ScrFault → Type 0
Stops number lines f =
    (run : Run) × (rest : List Run) × (runs_of number lines ≡ run ∷ rest) × OnlyFault run f

-- the first line is not empty
abbrev pub BeginsFull : List (List ℕ) → Type 0
BeginsFull [] = ⊥
BeginsFull (line ∷ lines) = is_blank_line line ≡ false
