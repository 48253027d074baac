use Rattle.std.proofs.Common.{◌≡◌, ◌++◌, length}
use Rattle.slot_text.specs.Fields.{fields_of}
use Rattle.report_page.specs.Filled.{told_words, after_told}
use Rattle.report_page.proofs.fill.put_words.Given as goal

abbrev pub invariant-loop-word : goal.invariant-loop-word
invariant-loop-word l =
    record {
      text : l.out.items ++ told_words (fields_of l.rest) ≡ l.initial.out.items ++ told_words (fields_of l.line);
      left : after_told (fields_of l.rest) ≡ after_told (fields_of l.line);
    }

abbrev pub decreases-loop-word : goal.decreases-loop-word
decreases-loop-word l = length (fields_of l.rest)
