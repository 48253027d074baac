use Rattle.std.proofs.Common.{◌+◌, ◌<◌, ℕ, List, length, sym, ap, subst, ◌∙◌, arith, length-drop}
use Rattle.scr_reader.specs.declared.message.Piece.{Piece}
use Rattle.scr_reader.proofs.PieceLemmas.{IsCut, cut_start, cut_run_more, cut_line_more, cut_end}
use Rattle.scr_reader.proofs.cut.cut_messages.Goals as goal

pub loop-from-init : goal.loop-from-init
loop-from-init c = cut_start c.args.bytes.now c.new-pieces.result.items c.new-pieces.ensures.items

pub loop-from-preserved-then-run-eq0 : goal.loop-from-preserved-then-run-eq0
loop-from-preserved-then-run-eq0 c =
    let rest = c.split_at.result.1.now in
    let some : 0 < length rest = omega (arith, ap (λ (l : List ℕ). length l) c.split_at.ensures.back, length-drop c.loop-from.from c.args.bytes.now, c.loop-from-test.true) in
    cut_line_more c.args.bytes.now rest c.loop-from.pieces.items c.loop-from.line c.loop-from.from c.measure_line-from.result c.split_at.ensures.back some (sym c.if-run-eq0.true ∙ c.measure_run-run.ensures.lines) c.measure_line-from.ensures.some
    c.measure_line-from.ensures.within c.measure_line-from.ensures.behind c.loop-from.invariant

pub loop-from-preserved : goal.loop-from-preserved
loop-from-preserved c =
    let run = c.measure_run-run.result in
    let cut =
    cut_run_more c.args.bytes.now c.split_at.result.1.now c.loop-from.pieces.items c.loop-from.line c.loop-from.from run.lines run.bytes c.split_at.ensures.back c.if-run-eq0.false c.measure_run-run.ensures.lines c.measure_run-run.ensures.few
    c.measure_run-run.ensures.within c.measure_run-run.ensures.behind c.loop-from.invariant in
    subst (λ (l : List Piece). IsCut c.args.bytes.now l (c.loop-from.line + run.lines) (c.loop-from.from + run.bytes)) (sym c.in_ok-push.ensures.items) cut

pub returns : goal.returns
returns c = cut_end c.args.bytes.now c.loop-from.pieces.items c.loop-from.line c.loop-from.from c.loop-from-test.false c.loop-from.invariant
