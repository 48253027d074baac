use Rattle.std.proofs.Common.{◌<◌, arith}
use Rattle.amend_journal.proofs.KeptLemmas.{can_ask, can_keep}
use Rattle.amend_journal.proofs.ledger.JournalLedger.amend.Goals as goal

pub amend-requires-clause-ask : goal.amend-requires-clause-ask
amend-requires-clause-ask g c =
    rw c.self.view_is (can_ask c.args.self.now.origin.start.declaration c.args.ask.now c.requires.ask)

pub amend-requires-clause-takes : goal.amend-requires-clause-takes
amend-requires-clause-takes g c =
    let few : c.args.pass.now.number < 256 = omega (arith, c.requires.rest.0.2, rw c.self.view_is at c.self.invariant.1) in
    rw c.self.view_is (can_keep c.args.self.now.origin.beside c.args.self.now.origin.start.declaration.season c.args.pass.now.number c.args.ask.now (rw c.self.view_is at c.self.invariant.0) few c.requires.ask)
