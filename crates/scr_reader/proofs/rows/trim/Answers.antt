use Rattle.std.proofs.Common.{◌∙◌, sym, refl, arith, take, ap}
use Rattle.scr_reader.proofs.TrimLemmas.{trim_on_blank, trim_on_byte, trim_nothing}
use Rattle.scr_reader.proofs.rows.trim.Goals as goal
use Rattle.scr_reader.proofs.rows.trim.Goals.{then-not-is_blank_byte, else-not-is_blank_byte}

pub loop-i-init : goal.loop-i-init
loop-i-init c = record { within = omega arith; trimmed_so_far = trim_nothing c.args.line.now }

pub loop-i-preserved : goal.loop-i-preserved
loop-i-preserved c =
    let line = c.args.line.now in
    let i = c.loop-i.i in
    elim c.if-not-is_blank_byte.branch [
      | then-not-is_blank_byte w ↦
          record { within = omega (arith, w.end-is); trimmed_so_far = trim_on_byte line i _ c.loop-i-test.true refl (sym c.is_blank_byte.ensures ∙ w.if-not-is_blank_byte.true) ∙ ap (λ n. take n line) (sym w.end-is) }
      | else-not-is_blank_byte w ↦
          record { within = omega (arith, w.end-is, c.loop-i.invariant.within); trimmed_so_far = trim_on_blank line i c.loop-i.end _ c.loop-i-test.true refl (sym c.is_blank_byte.ensures ∙ w.if-not-is_blank_byte.false) c.loop-i.invariant.trimmed_so_far ∙ ap (λ n. take n line) (sym w.end-is) }
    ]
