use Rattle.std.proofs.Common.{◌≡◌, ◌++◌, take}
use Rattle.cert_format.specs.Lines.{text_of}
use Rattle.cert_format.specs.Spelling.{numbered, stage_lines}
use Rattle.std.specs.List.{AllByRecursion}
use Rattle.cert_format.specs.declared.cert.StageCert.{StageCert}
use Rattle.cert_format.specs.Spelling.{is_tried}
use Rattle.cert_format.specs.Private.Ranges.{RangesAs}
use Rattle.cert_format.proofs.printing.put_stages.Given as goal

abbrev pub invariant-loop-i : goal.invariant-loop-i
invariant-loop-i l = record {
  text : l.out.items ≡ l.fn.out.items ++ text_of (numbered stage_lines 1 (take l.i l.stages));
  range : AllByRecursion (λ (s : StageCert). RangesAs s (is_tried s.mark)) (take l.i l.stages);
}
