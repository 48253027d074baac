use Rattle.std.proofs.Common.{◌+◌, ◌-◌, ℕ, List, length, refl, sym, subst, ◌∙◌}
use Rattle.scr_reader.proofs.PieceLemmas.{InFront, front_start, front_line, front_done, front_ends}
use Rattle.scr_reader.proofs.cut.measure_run.Goals as goal

pub loop-line-init : goal.loop-line-init
loop-line-init c = front_start c.args.text.now c.new-rest.result c.new-rest.ensures

pub loop-line-preserved : goal.loop-line-preserved
loop-line-preserved c =
    let more = c.next_line.new.self in
    let front =
    front_line c.args.text.now c.loop-line.rest more c.in-Some.line.now c.loop-line.lines c.loop-line.bytes c.in-Some.ensures.rest c.in-Some.ensures.shorter c.in-Some.ensures.lines (sym c.is_blank_line.ensures ∙ c.if-is_blank_line.false)
    c.loop-line.invariant in
    subst (λ (r : List ℕ). InFront c.args.text.now (c.loop-line.lines + 1) (length c.args.text.now - length r) more) (sym c.rest.ensures) front

pub returns-then-is_blank_line-clause-lines : goal.returns-then-is_blank_line-clause-lines
returns-then-is_blank_line-clause-lines c =
    front_done c.args.text.now c.loop-line.rest c.in-Some.line.now _ c.loop-line.lines c.loop-line.bytes c.in-Some.ensures.lines (sym c.is_blank_line.ensures ∙ c.if-is_blank_line.true) c.loop-line.invariant

pub returns-clause-lines : goal.returns-clause-lines
returns-clause-lines c = front_ends c.args.text.now c.loop-line.rest c.loop-line.lines c.loop-line.bytes (c.in_default.ensures.none.0 refl) c.loop-line.invariant
