use Rattle.std.proofs.Common.{◌+◌, List, [], ◌∷◌, length, length-append, take, sym, ap, subst, ◌∙◌}
use Rattle.std.proofs.lemmas.List.{take_more}
use Rattle.scr_reader.specs.declared.message.Placed.{Placed}
use Rattle.session_desk.specs.Begun.{HasBroken}
use Rattle.session_desk.specs.Seen.{IsLedgerHistory}
use Rattle.session_desk.specs.Private.Amended.{HasAnswers}
use Rattle.session_desk.proofs.AmendLemmas.{nothing_asked, one_more, left_at}
use Rattle.session_desk.proofs.SeenLemmas.{seen_same, seen_on}
use Rattle.session_desk.proofs.amending.Amending.amend_all.Goals as goal

pub loop-placed-init : goal.loop-placed-init
loop-placed-init g c = (
  c.requires.rest,
  c.requires.caller,
  rw c.in-Ok.ensures.items (nothing_asked c.args.self.now.ledger.now.origin.start.declaration.season c.args.self.now.caller (g.B.Beside.read c.args.pass.now.own)),
  ap length c.in-Ok.ensures.items,
  c.in-Ok.ensures.capacity,
  seen_same (IsLedgerHistory c.args.self.now.ledger.now.origin.start) (g.B.Beside.read c.args.pass.now.seen),
)

pub returns-in-Err-amend_one-clause-err : goal.returns-in-Err-amend_one-clause-err
returns-in-Err-amend_one-clause-err g c =
    left_at (HasBroken g.B.Beside.broken) (g.B.Beside.found c.args.self.now.ledger.now.origin.beside + c.args.self.now.ledger.now.origin.start.most) c.args.self.now.caller
    c.args.self.now.ledger.now.origin.start.declaration.season c.in-Err-amend_one.fault c.args.items.now c.loop-placed.placed-index (g.B.Beside.read c.args.pass.now.own) (g.B.Beside.read c.loop-placed.pass.own) (g.B.Beside.read c.amend_one.new.pass.own) c.loop-placed.answers.items
    c.loop-placed-test.true c.loop-placed.invariant.2 c.in-Err-amend_one.ensures.own c.in-Err-amend_one.ensures.fault

pub loop-placed-preserved : goal.loop-placed-preserved
loop-placed-preserved g c =
    let i = c.loop-placed.placed-index in
    let items = c.args.items.now in
    let season = c.args.self.now.ledger.now.origin.start.declaration.season in
    let caller = c.args.self.now.caller in
    let before = g.B.Beside.read c.args.pass.now.own in
    let mid = g.B.Beside.read c.loop-placed.pass.own in
    let after = g.B.Beside.read c.amend_one.new.pass.own in
    let one = c.in-Ok-amend_one.ensures.ok in (
      c.amend_one.ensures.rest,
      c.amend_one.ensures.caller,
      subst (λ (l : List Placed). HasAnswers season caller l before after c.amend_one.new.answers.items) (sym (take_more items i _ c.loop-placed-test.true))
          (one_more season caller (take i items) _ before mid after c.loop-placed.answers.items c.amend_one.new.answers.items c.loop-placed.invariant.2 one),
      ap length one.answers_are ∙ length-append c.loop-placed.answers.items (one.answer ∷ []) ∙ ap (λ n. n + 1) c.loop-placed.invariant.3,
      rw c.amend_one.ensures.kept c.loop-placed.invariant.4,
      seen_on (IsLedgerHistory c.args.self.now.ledger.now.origin.start) (g.B.Beside.read c.args.pass.now.seen) (g.B.Beside.read c.loop-placed.pass.seen) (g.B.Beside.read c.amend_one.new.pass.seen) c.loop-placed.invariant.5 c.amend_one.ensures.seen,
    )

pub returns-in-Err-clause-seen : goal.returns-in-Err-clause-seen
returns-in-Err-clause-seen g c = seen_same (IsLedgerHistory c.args.self.now.ledger.now.origin.start) (g.B.Beside.read c.args.pass.now.seen)

pub returns-in-Err-amend_one-clause-seen : goal.returns-in-Err-amend_one-clause-seen
returns-in-Err-amend_one-clause-seen g c =
    seen_on (IsLedgerHistory c.args.self.now.ledger.now.origin.start) (g.B.Beside.read c.args.pass.now.seen) (g.B.Beside.read c.loop-placed.pass.seen) (g.B.Beside.read c.amend_one.new.pass.seen) c.loop-placed.invariant.5 c.amend_one.ensures.seen

pub returns-clause-seen : goal.returns-clause-seen
returns-clause-seen g c = c.loop-placed.invariant.5
