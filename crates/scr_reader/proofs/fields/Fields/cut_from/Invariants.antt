use Rattle.std.proofs.Common.{◌≡◌, ◌++◌, map, take, length}
use Rattle.slot_text.specs.Fields.{fields_of}
use Rattle.scr_reader.specs.Private.Texts.{text_in, empty_fields}
use Rattle.scr_reader.proofs.fields.Fields.cut_from.Given as goal

abbrev pub invariant-loop-n : goal.invariant-loop-n
invariant-loop-n l = (map text_in (take l.n l.items) ++ fields_of l.rest ≡ empty_fields l.first ++ fields_of l.line) × (length l.items ≡ 9)
