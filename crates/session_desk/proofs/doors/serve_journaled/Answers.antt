use Rattle.std.proofs.Common.{◌≡◌, ◌<◌, ap, subst, sym, ◌∙◌, arith}
use Rattle.season_days.specs.Term.{Term}
use Rattle.scr_reader.specs.Again.{IsFitItem}
use Rattle.turn_lock.specs.Seats.{TurnView}
use Rattle.slot_ledger.specs.declared.shared.Origin.{Origin}
use Rattle.amend_journal.specs.Durable.{JournalView}
use Rattle.session_desk.proofs.doors.serve_journaled.Goals as goal

-- the journal of a ledger is of the season of its book
same_season : (v w : TurnView (Origin JournalView)) → v ≡ w → w.origin.beside.season ≡ w.origin.start.declaration.season → v.origin.start.declaration.season ≡ v.origin.beside.season
same_season v w is season =
    ap (λ (t : TurnView (Origin JournalView)). t.origin.start.declaration.season) is
    ∙ sym season
    ∙ sym (ap (λ (t : TurnView (Origin JournalView)). t.origin.beside.season) is)

pub serve_link-requires-clause-takes : goal.serve_link-requires-clause-takes
serve_link-requires-clause-takes g c κs within ask fit =
    let few : c.args.pass.now.number < 256 = omega (arith, c.requires.rest.0.2, c.shared-shared.ensures.few) in
    let same = same_season c.shared-shared.result.now c.args.ledger.now c.shared-shared.ensures.ledger c.shared-shared.ensures.season in
    (few, subst (λ (t : Term). IsFitItem t ask) same fit)
