-- What the fault prints.
use Rattle.std.specs.Prelude.{ℕ, List, ◌++◌, codes}
use Rattle.std.specs.Fmt.{decimal}
use Rattle.slot_text.specs.Texts.{memory_text}
use Rattle.usage_watch.specs.declared.fault.OperatedFault.{OperatedFault}
use Rattle.usage_watch.specs.declared.fault.OperatedFault.TheVariants.{BadLine, Memory}

abbrev pub operated_fault_text : OperatedFault → List ℕ
operated_fault_text (BadLine line) = codes "line " ++ (decimal line ++ codes ": no report")
operated_fault_text Memory = memory_text
