use Rattle.std.proofs.Common.{◌≡◌, ◌++◌, drop}
use Rattle.slot_text.specs.Fields.{fields_of}
use Rattle.report_page.specs.Filled.{filled}
use Rattle.report_page.proofs.fill.put_filled.Given as goal

abbrev pub invariant-loop-byte : goal.invariant-loop-byte
invariant-loop-byte l = l.out.items ++ filled (drop l.byte-index l.template) (fields_of l.rest) ≡ l.initial.out.items ++ filled l.template (fields_of l.line)
