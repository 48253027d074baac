use Rattle.slot_ledger.specs.Passes.{read_pass}
use Rattle.session_desk.proofs.SeenLemmas.{seen_entered, seen_others}
use Rattle.session_desk.proofs.amending.Amending.amend_one.Goals as goal

pub returns-in-Ok-clause-seen : goal.returns-in-Ok-clause-seen
returns-in-Ok-clause-seen g c =
    seen_entered c.args.self.now.ledger.now.origin.start (read_pass g.B.Beside.read c.args.pass.now) (read_pass g.B.Beside.read c.amend.new.pass) c.args.ask.now c.in-Ok.answer c.amend.ensures.pass c.in-Ok.ensures.entered

pub returns-in-Err-Full-clause-seen : goal.returns-in-Err-Full-clause-seen
returns-in-Err-Full-clause-seen g c =
    seen_others c.args.self.now.ledger.now.origin.start (read_pass g.B.Beside.read c.args.pass.now) (read_pass g.B.Beside.read c.amend.new.pass) c.amend.ensures.pass c.in-Err-Full.ensures.others

pub returns-in-Err-Broken-clause-seen : goal.returns-in-Err-Broken-clause-seen
returns-in-Err-Broken-clause-seen g c =
    seen_others c.args.self.now.ledger.now.origin.start (read_pass g.B.Beside.read c.args.pass.now) (read_pass g.B.Beside.read c.amend.new.pass) c.amend.ensures.pass c.in-Err-Broken.ensures.others

pub returns-in-Err-Memory-clause-seen : goal.returns-in-Err-Memory-clause-seen
returns-in-Err-Memory-clause-seen g c =
    seen_others c.args.self.now.ledger.now.origin.start (read_pass g.B.Beside.read c.args.pass.now) (read_pass g.B.Beside.read c.amend.new.pass) c.amend.ensures.pass c.in-Err-Memory.ensures.others
