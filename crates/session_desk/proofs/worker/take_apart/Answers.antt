use Rattle.std.proofs.Common.{◌≡◌, ◌+◌, ◌∷◌, ◌++◌, [], length, ap, ◌∙◌, arith}
use Rattle.std.proofs.lemmas.List.{length_push}
use Rattle.session_desk.proofs.MoveLemmas.{moved_over, moved_all}
use Rattle.session_desk.proofs.worker.take_apart.Goals as goal

pub loop-round-preserved : goal.loop-round-preserved
loop-round-preserved g c =
    let us = c.loop-round.workers.items in
    let vs = c.pop.new.self.items in
    let worker = c.in-Some.worker in
    let is : us ≡ vs ++ worker ∷ [] = c.in-Some.ensures.items in
    let one : length us ≡ length vs + 1 = ap length is ∙ length_push vs worker in
    let door = c.push_reserved.ensures in
    let pass = c.push_reserved-in-Some.ensures in
    let work = c.push_reserved-in-Some-2.ensures in (
      rw door.items (moved_over (λ w. w.door) c.loop-round.doors.items _ us vs worker is c.loop-round.invariant.0),
      rw pass.items (moved_over (λ w. w.pass) c.loop-round.passes.items _ us vs worker is c.loop-round.invariant.1),
      rw work.items (moved_over (λ w. w.work) c.loop-round.works.items _ us vs worker is c.loop-round.invariant.2),
      omega (arith, one, c.loop-round.invariant.3),
      rw door.items (omega (arith, one, length_push c.loop-round.doors.items worker.door, door.capacity, c.loop-round.invariant.4)),
      rw pass.items (omega (arith, one, length_push c.loop-round.passes.items worker.pass, pass.capacity, c.loop-round.invariant.5)),
      rw work.items (omega (arith, one, length_push c.loop-round.works.items worker.work, work.capacity, c.loop-round.invariant.6)),
    )

pub returns-clause-doors : goal.returns-clause-doors
returns-clause-doors g c = moved_all (λ w. w.door) c.loop-round.doors.items _ c.loop-round.workers.items (omega (arith, c.loop-round.invariant.3, c.loop-round-test.false, c.len-round-end.ensures, c.args.workers.ok.0)) c.loop-round.invariant.0

pub returns-clause-passes : goal.returns-clause-passes
returns-clause-passes g c = moved_all (λ w. w.pass) c.loop-round.passes.items _ c.loop-round.workers.items (omega (arith, c.loop-round.invariant.3, c.loop-round-test.false, c.len-round-end.ensures, c.args.workers.ok.0)) c.loop-round.invariant.1

pub returns-clause-works : goal.returns-clause-works
returns-clause-works g c = moved_all (λ w. w.work) c.loop-round.works.items _ c.loop-round.workers.items (omega (arith, c.loop-round.invariant.3, c.loop-round-test.false, c.len-round-end.ensures, c.args.workers.ok.0)) c.loop-round.invariant.2
