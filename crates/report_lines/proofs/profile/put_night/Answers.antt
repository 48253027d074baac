use Rattle.std.specs.Prelude.{codes}
use Rattle.report_lines.proofs.TextLemmas.{step_number}
use Rattle.report_lines.proofs.profile.put_night.Goals as goal

pub returns : goal.returns
returns c =
    let text = step_number c.args.out.now.items c.put_tagged.new.out.items c.put.new.out.items (codes "PROFILE NIGHT LOAD ") _ _ _ c.from.ensures c.in_ok-put_tagged.ensures (step_number c.put_tagged.new.out.items c.put_tagged-2.new.out.items c.put.new.out.items (codes " LIMIT ") _ _ _ c.from-2.ensures c.in_ok-put_tagged-2.ensures c.in_ok-put.ensures) in
    text
