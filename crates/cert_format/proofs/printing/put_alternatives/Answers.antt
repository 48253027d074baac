use Rattle.std.proofs.Common.{◌≡◌, ℕ, List, refl, sym, ap, ◌∙◌, ◌++◌, ◌+◌, ◌<◌, ◌^◌, get_or, zero-add}
use Rattle.cert_format.specs.Lines.{text_of}
use Rattle.cert_format.specs.Spelling.{alternative_lines, alternative_words}
use Rattle.cert_format.proofs.WriteLemmas.{more, one_line}
use Rattle.cert_format.proofs.RangeLemmas.{all_more}
use Rattle.cert_format.proofs.printing.put_alternatives.Goals as goal

pub loop-unit-preserved : goal.loop-unit-preserved
loop-unit-preserved c =
    let alt : ℕ = get_or c.args.alts.now c.loop-unit.unit 0 in
    let number : c.loop-unit.unit ≡ 0 + c.loop-unit.unit = sym (zero-add c.loop-unit.unit) in
    record {
      text = more alternative_lines 0 c.args.alts.now c.loop-unit.unit alt 0 c.args.out.now.items c.loop-unit.out.items c.put_alternative.new.out.items c.loop-unit-test.true refl c.loop-unit.invariant.text (c.in_ok-put_alternative.ensures.text ∙ ap (λ (t : List ℕ). c.loop-unit.out.items ++ t) (one_line (alternative_words c.loop-unit.unit alt)) ∙ ap (λ (n : ℕ). c.loop-unit.out.items ++ text_of (alternative_lines n alt)) number);
      range = all_more (λ (x : ℕ). x < 2 ^ 32) c.args.alts.now c.loop-unit.unit alt 0 c.loop-unit-test.true refl c.loop-unit.invariant.range c.in_ok-put_alternative.ensures.range;
    }
