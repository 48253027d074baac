use Rattle.std.specs.Prelude.{codes}
use Rattle.report_lines.proofs.TextLemmas.{step, step_number}
use Rattle.report_lines.proofs.heads.put_rules.Goals as goal

pub returns : goal.returns
returns c =
    let text = step_number c.args.out.now.items c.put_tagged.new.out.items c.put-2.new.out.items (codes "RULES STEP ") _ _ _ c.from.ensures c.in_ok-put_tagged.ensures (step_number c.put_tagged.new.out.items c.put_tagged-2.new.out.items c.put-2.new.out.items (codes " FLEX ") _ _ _ c.from-2.ensures c.in_ok-put_tagged-2.ensures (step_number c.put_tagged-2.new.out.items c.put_tagged-3.new.out.items c.put-2.new.out.items (codes " GROUND ") _ _ _ c.from-3.ensures c.in_ok-put_tagged-3.ensures (step_number c.put_tagged-3.new.out.items c.put_tagged-4.new.out.items c.put-2.new.out.items (codes " SHARE ") _ _ _ c.from-4.ensures c.in_ok-put_tagged-4.ensures (step c.put_tagged-4.new.out.items c.put.new.out.items c.put-2.new.out.items _ _ c.in_ok-put.ensures (step c.put.new.out.items c.put_price.new.out.items c.put-2.new.out.items _ _ c.in_ok-put_price.ensures c.in_ok-put-2.ensures))))) in
    text
