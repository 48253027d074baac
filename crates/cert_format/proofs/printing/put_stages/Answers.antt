use Rattle.std.proofs.Common.{◌≡◌, ℕ, ◌+◌, ◌++◌, ap, ◌∙◌, arith}
use Rattle.cert_format.specs.Lines.{text_of}
use Rattle.cert_format.specs.Spelling.{stage_lines, is_tried}
use Rattle.cert_format.proofs.WriteLemmas.{more}
use Rattle.cert_format.proofs.RangeLemmas.{all_more}
use Rattle.cert_format.specs.declared.cert.StageCert.{StageCert}
use Rattle.cert_format.specs.Private.Ranges.{RangesAs}
use Rattle.cert_format.proofs.printing.put_stages.Goals as goal

pub loop-i-preserved : goal.loop-i-preserved
loop-i-preserved c =
    let number : c.loop-i.i + 1 ≡ 1 + c.loop-i.i = omega arith in
    record {
      text = more stage_lines 1 c.args.stages.now c.loop-i.i c.index-stages-i.result c.index-stages-i.result c.args.out.now.items c.loop-i.out.items c.put_stage.new.out.items c.loop-i-test.true c.index-stages-i.is c.loop-i.invariant.text (c.in_ok-put_stage.ensures.text ∙ ap (λ (n : ℕ). c.loop-i.out.items ++ text_of (stage_lines n c.index-stages-i.result)) number);
      range = all_more (λ (s : StageCert). RangesAs s (is_tried s.mark)) c.args.stages.now c.loop-i.i c.index-stages-i.result c.index-stages-i.result c.loop-i-test.true c.index-stages-i.is c.loop-i.invariant.range c.in_ok-put_stage.ensures.range;
    }
