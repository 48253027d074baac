use Rattle.std.proofs.Common.{◌∙◌, sym}
use Rattle.turn_lock.specs.Seats.{IsNumber}
use Rattle.slot_ledger.proofs.ReadLemmas.{all_seen, reads_callers}
use Rattle.slot_ledger.proofs.turns.SharedLedger.close.Goals as goal

pub returns-clause-seen : goal.returns-clause-seen
returns-clause-seen g c =
    all_seen g.B.Beside.read g.B.Beside.number c.laws.ensures.parts c.laws.ensures.own (g.B.Beside.told c.close-shared.result.beside c.close-shared.result.history) c.into_parts.result.1.items c.args.passes.items
    (c.laws.ensures.told ∙ sym c.into_parts.ensures.history) c.close-shared.ensures.seen

pub returns-clause-callers : goal.returns-clause-callers
returns-clause-callers g c =
    reads_callers g.B.Beside.read g.B.Beside.number c.laws.ensures.parts c.laws.ensures.own (λ n. IsNumber c.args.passes.items n) (g.B.Beside.told c.close-shared.result.beside c.close-shared.result.history) c.into_parts.result.1.items
    (c.laws.ensures.told ∙ sym c.into_parts.ensures.history) c.close-shared.ensures.callers

pub returns-clause-told : goal.returns-clause-told
returns-clause-told g c = rw (c.into_parts.ensures.beside, c.into_parts.ensures.history) c.close-shared.ensures.seen

pub returns-clause-whole : goal.returns-clause-whole
returns-clause-whole g c = rw (c.into_parts.ensures.beside, c.into_parts.ensures.history) c.close-shared.ensures.whole
