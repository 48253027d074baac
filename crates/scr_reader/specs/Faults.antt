-- The line that a fault names, and what it prints.
use Rattle.std.specs.Prelude.{ℕ, List, ◌++◌, Option, Some, None, codes}
use Rattle.std.specs.Fmt.{decimal}
use Rattle.slot_text.specs.Texts.{memory_text}
use Rattle.scr_reader.specs.declared.fault.ScrFault.{ScrFault}
use Rattle.scr_reader.specs.declared.fault.ScrFault.TheVariants.{BadLine, BadHeader, Unpaired, TooLong, Memory}

-- the number of the line that it names
abbrev pub fault_line : ScrFault → Option ℕ
fault_line (BadLine line field) = Some line
fault_line (BadHeader line) = Some line
fault_line (Unpaired line) = Some line
fault_line (TooLong line) = Some line
fault_line Memory = None

abbrev pub scr_fault_text : ScrFault → List ℕ
scr_fault_text (BadLine line field) =
    codes "line "
    ++ (decimal line ++ (codes ": field " ++ (decimal field ++ codes " has not its form")))
scr_fault_text (BadHeader line) =
    codes "line " ++ (decimal line ++ codes ": a header line that has not its form")
scr_fault_text (Unpaired line) = codes "line " ++ (decimal line ++ codes ": an unpaired change")
scr_fault_text (TooLong line) = codes "line " ++ (decimal line ++ codes ": more than 200 bytes")
scr_fault_text Memory = memory_text
