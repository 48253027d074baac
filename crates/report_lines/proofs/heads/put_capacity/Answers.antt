use Rattle.std.specs.Prelude.{codes}
use Rattle.std.proofs.Common.{refl}
use Rattle.report_lines.proofs.TextLemmas.{step, step_as, step_number}
use Rattle.report_lines.proofs.heads.put_capacity.Goals as goal

pub returns : goal.returns
returns c =
    let text = step_number c.args.out.now.items c.put_tagged.new.out.items c.put-7.new.out.items (codes "CAPACITY ") _ _ _ refl c.in_ok-put_tagged.ensures (step c.put_tagged.new.out.items c.put.new.out.items c.put-7.new.out.items _ _ c.in_ok-put.ensures (step_as c.put.new.out.items c.put-2.new.out.items c.put-7.new.out.items _ _ _ c.kind_text.ensures c.in_ok-put-2.ensures (step_number c.put-2.new.out.items c.put_tagged-2.new.out.items c.put-7.new.out.items (codes " ") _ _ _ c.from.ensures c.in_ok-put_tagged-2.ensures (step c.put_tagged-2.new.out.items c.put-3.new.out.items c.put-7.new.out.items _ _ c.in_ok-put-3.ensures (step c.put-3.new.out.items c.put_time.new.out.items c.put-7.new.out.items _ _ c.in_ok-put_time.ensures (step c.put_time.new.out.items c.put-4.new.out.items c.put-7.new.out.items _ _ c.in_ok-put-4.ensures (step c.put-4.new.out.items c.put_time-2.new.out.items c.put-7.new.out.items _ _ c.in_ok-put_time-2.ensures (step c.put_time-2.new.out.items c.put-5.new.out.items c.put-7.new.out.items _ _ c.in_ok-put-5.ensures (step_as c.put-5.new.out.items c.put-6.new.out.items c.put-7.new.out.items _ _ _ c.places_of.ensures c.in_ok-put-6.ensures (step_number c.put-6.new.out.items c.put_tagged-3.new.out.items c.put-7.new.out.items (codes " ") _ _ _ c.from-2.ensures c.in_ok-put_tagged-3.ensures c.in_ok-put-7.ensures)))))))))) in
    text
