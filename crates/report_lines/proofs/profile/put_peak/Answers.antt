use Rattle.std.specs.Prelude.{codes}
use Rattle.std.proofs.Common.{ℕ, ◌+◌, List, ◌++◌, ap, ◌∙◌}
use Rattle.report_lines.proofs.TextLemmas.{step, step_number}
use Rattle.report_lines.proofs.PeakLemmas.{peak_text_none, peak_text_some}
use Rattle.report_lines.proofs.profile.put_peak.Goals as goal

pub returns-then-peak-eq0 : goal.returns-then-peak-eq0
returns-then-peak-eq0 c = peak_text_none c.args.declaration.now.season c.args.declaration.now.step (c.args.rule + 1) c.args.of c.args.start c.args.peak c.args.out.now.items c.if-peak-eq0.true

pub returns : goal.returns
returns c =
    let text = step_number c.args.out.now.items c.put_tagged.new.out.items c.put-3.new.out.items (codes "PROFILE ") _ _ _ (ap (λ (n : ℕ). n + 1) c.from.ensures) c.in_ok-put_tagged.ensures (step c.put_tagged.new.out.items c.put.new.out.items c.put-3.new.out.items _ _ c.in_ok-put.ensures (step c.put.new.out.items c.put_time.new.out.items c.put-3.new.out.items _ _ c.in_ok-put_time.ensures (step_number c.put_time.new.out.items c.put_tagged-2.new.out.items c.put-3.new.out.items (codes " LOAD ") _ _ _ c.from-2.ensures c.in_ok-put_tagged-2.ensures (step_number c.put_tagged-2.new.out.items c.put_tagged-3.new.out.items c.put-3.new.out.items (codes " LIMIT ") _ _ _ c.from-3.ensures c.in_ok-put_tagged-3.ensures (step c.put_tagged-3.new.out.items c.put-2.new.out.items c.put-3.new.out.items _ _ c.in_ok-put-2.ensures (step c.put-2.new.out.items c.print_day.new.out.items c.put-3.new.out.items _ _ c.in_ok-print_day.ensures.ok c.in_ok-put-3.ensures)))))) in
    text ∙ ap (λ (l : List ℕ). c.args.out.now.items ++ l) (peak_text_some c.args.declaration.now.season c.args.declaration.now.step (c.args.rule + 1) c.args.of c.args.start c.args.peak c.if-peak-eq0.false)
