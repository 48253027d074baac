use Rattle.std.proofs.Common.{◌≡◌, ℕ, List, ◌++◌, take, refl, sym, ap, ◌∙◌, append-nil, arith}
use Rattle.desk_links.specs.Links.{taken_of}
use Rattle.session_desk.proofs.PassedLemmas.{took_taken, nothing_passed, passed_took, passed_same, ended_now}
use Rattle.session_desk.proofs.AnsweredLemmas.{piece_taken, on_err}
use Rattle.session_desk.proofs.SessionLemmas.{session_start, session_end, session_failed, session_stopped, cause_since}
use Rattle.session_desk.proofs.SeenLemmas.{seen_same, seen_on}
use Rattle.session_desk.proofs.session.serve.Goals as goal

pub loop-init : goal.loop-init
loop-init g c = (
  c.new-pending.ensures.size,
  c.requires.ready,
  refl,
  refl,
  nothing_passed (g.L.Link.view c.args.link.now) c.requires.fresh.0 c.requires.fresh.2,
  session_start (g.A.Responder.answers (g.A.Responder.about c.args.responder.now)) (g.A.Responder.begins (g.A.Responder.about c.args.responder.now)) (g.A.Responder.own c.args.pass.now) c.new-pending.result (g.L.Link.view c.args.link.now).log c.new-pending.ensures.held c.requires.fresh.2,
  seen_same (g.A.Responder.legal c.args.responder.now) (g.A.Responder.seen c.args.pass.now),
)

pub returns-in-Err-clause-cause : goal.returns-in-Err-clause-cause
returns-in-Err-clause-cause g c = rw c.loop.invariant.3 at c.in-Err.ensures.cause.rose

pub returns-in-Err-clause-session : goal.returns-in-Err-clause-session
returns-in-Err-clause-session g c =
    session_failed (g.A.Responder.answers (g.A.Responder.about c.args.responder.now)) (g.A.Responder.begins (g.A.Responder.about c.args.responder.now)) (g.A.Responder.own c.args.pass.now) c.breaks_stay.ensures.unbroken c.loop.pending (g.L.Link.view c.loop.link) (g.L.Link.view c.take.new.self) (g.A.Responder.own c.loop.pass) c.in-Err.ensures.taken.0 c.loop.invariant.5

pub returns-in-Err-clause-told : goal.returns-in-Err-clause-told
returns-in-Err-clause-told g c =
    let t = c.in-Err.ensures.taken in
    passed_same (g.L.Link.view c.args.link.now).told (g.L.Link.view c.loop.link) (g.L.Link.view c.take.new.self) c.loop.invariant.4 t.0 t.1 t.2

pub returns-in-Ok-eq0-clause-cause : goal.returns-in-Ok-eq0-clause-cause
returns-in-Ok-eq0-clause-cause g c =
    cause_since (g.L.Link.view c.args.link.now).faults (g.L.Link.view c.take.new.self).faults (g.L.Link.view c.take.new.self).faults c.end_of.result (c.in-Ok-eq0.ensures.cause.kept ∙ c.loop.invariant.3) (c.end_of.ensures.cause (g.L.Link.view c.take.new.self).faults)

pub returns-in-Ok-eq0-clause-session : goal.returns-in-Ok-eq0-clause-session
returns-in-Ok-eq0-clause-session g c =
    let t = c.in-Ok-eq0.ensures.taken in
    let old = (g.L.Link.view c.loop.link).log in
    let now = (g.L.Link.view c.take.new.self).log in
    let none : c.in-Ok-eq0.field-0 ≡ 0 = c.in-Ok-eq0.field-0-test in
    let at = piece_taken (g.A.Responder.answers (g.A.Responder.about c.args.responder.now)) (g.A.Responder.begins (g.A.Responder.about c.args.responder.now)) (g.A.Responder.own c.args.pass.now) c.joined_logs.ensures.puts c.loop.pending old now _ (g.A.Responder.own c.loop.pass) c.loop.invariant.5 t.log in
    let taken : taken_of now ≡ taken_of old = took_taken c.joined_logs.ensures.taken old now _ t.log ∙ ap (λ (n : ℕ). taken_of old ++ take n c.take.new.into) none ∙ append-nil (taken_of old) in
    session_end (g.A.Responder.answers (g.A.Responder.about c.args.responder.now)) (g.A.Responder.begins (g.A.Responder.about c.args.responder.now)) (g.A.Responder.own c.args.pass.now) c.end_of.result (g.L.Link.view c.take.new.self) (g.A.Responder.own c.loop.pass)
    (t.ended ∙ ended_now _ c.in-Ok-eq0.field-0 none)
    (rw taken (c.end_of.ensures.ends (taken_of old) at.held))
    at.order
    (rw taken at.answered)

pub returns-in-Ok-eq0-clause-told : goal.returns-in-Ok-eq0-clause-told
returns-in-Ok-eq0-clause-told g c = passed_took (g.L.Link.view c.args.link.now).told (g.L.Link.view c.loop.link) (g.L.Link.view c.take.new.self) _ _ c.loop.invariant.4 c.in-Ok-eq0.ensures.taken

pub returns-in-Err-read_piece-clause-cause : goal.returns-in-Err-read_piece-clause-cause
returns-in-Err-read_piece-clause-cause g c =
    let same : (g.L.Link.view c.take.new.self).faults ≡ (g.L.Link.view c.args.link.now).faults = c.in-Ok.ensures.cause.kept ∙ c.loop.invariant.3 in
    rw same at c.in-Err-read_piece.ensures.cause

pub returns-in-Err-read_piece-clause-session : goal.returns-in-Err-read_piece-clause-session
returns-in-Err-read_piece-clause-session g c =
    let t = c.in-Ok.ensures.taken in
    let old = (g.L.Link.view c.loop.link).log in
    let mid = (g.L.Link.view c.take.new.self).log in
    let at = piece_taken (g.A.Responder.answers (g.A.Responder.about c.args.responder.now)) (g.A.Responder.begins (g.A.Responder.about c.args.responder.now)) (g.A.Responder.own c.args.pass.now) c.joined_logs.ensures.puts c.loop.pending old mid _ (g.A.Responder.own c.loop.pass) c.loop.invariant.5 t.log in
    let whole : taken_of (g.L.Link.view c.read_piece.new.link).log ≡ taken_of old ++ c.split_at.result.0.now = c.read_piece.ensures.taken ∙ took_taken c.joined_logs.ensures.taken old mid _ t.log ∙ ap (λ (l : List ℕ). taken_of old ++ l) (sym c.split_at.ensures.front) in
    session_stopped (g.A.Responder.answers (g.A.Responder.about c.args.responder.now)) (g.A.Responder.begins (g.A.Responder.about c.args.responder.now)) (g.A.Responder.own c.args.pass.now) c.breaks_stay.ensures.broken c.in-Err-read_piece.fault (taken_of old) c.split_at.result.0.now (g.L.Link.view c.read_piece.new.link) (g.A.Responder.own c.read_piece.new.pass)
    whole (c.in-Err-read_piece.ensures.err (g.A.Responder.own c.args.pass.now) (taken_of old) at)

pub returns-in-Err-read_piece-clause-told : goal.returns-in-Err-read_piece-clause-told
returns-in-Err-read_piece-clause-told g c =
    c.read_piece.ensures.told (g.L.Link.view c.args.link.now).told
    (passed_took (g.L.Link.view c.args.link.now).told (g.L.Link.view c.loop.link) (g.L.Link.view c.take.new.self) _ _ c.loop.invariant.4 c.in-Ok.ensures.taken)

pub loop-preserved : goal.loop-preserved
loop-preserved g c =
    let t = c.in-Ok.ensures.taken in
    let old = (g.L.Link.view c.loop.link).log in
    let mid = (g.L.Link.view c.take.new.self).log in
    let at = piece_taken (g.A.Responder.answers (g.A.Responder.about c.args.responder.now)) (g.A.Responder.begins (g.A.Responder.about c.args.responder.now)) (g.A.Responder.own c.args.pass.now) c.joined_logs.ensures.puts c.loop.pending old mid _ (g.A.Responder.own c.loop.pass) c.loop.invariant.5 t.log in
    let whole : taken_of (g.L.Link.view c.read_piece.new.link).log ≡ taken_of old ++ c.split_at.result.0.now = c.read_piece.ensures.taken ∙ took_taken c.joined_logs.ensures.taken old mid _ t.log ∙ ap (λ (l : List ℕ). taken_of old ++ l) (sym c.split_at.ensures.front) in (
      c.in-Ok-read_piece.ensures.size,
      c.read_piece.ensures.ready,
      omega (arith, c.take.auto.into, c.loop.invariant.2),
      c.in-Ok-read_piece.ensures.cause ∙ c.in-Ok.ensures.cause.kept ∙ c.loop.invariant.3,
      c.read_piece.ensures.told (g.L.Link.view c.args.link.now).told (passed_took (g.L.Link.view c.args.link.now).told (g.L.Link.view c.loop.link) (g.L.Link.view c.take.new.self) _ _ c.loop.invariant.4 t),
      rw whole (c.in-Ok-read_piece.ensures.ok (g.A.Responder.own c.args.pass.now) (taken_of old) at),
      seen_on (g.A.Responder.legal c.args.responder.now) (g.A.Responder.seen c.args.pass.now) (g.A.Responder.seen c.loop.pass) (g.A.Responder.seen c.read_piece.new.pass) c.loop.invariant.6 c.read_piece.ensures.seen,
    )

pub returns-in-Err-clause-seen : goal.returns-in-Err-clause-seen
returns-in-Err-clause-seen g c = c.loop.invariant.6

pub returns-in-Ok-eq0-clause-seen : goal.returns-in-Ok-eq0-clause-seen
returns-in-Ok-eq0-clause-seen g c = c.loop.invariant.6

pub returns-in-Err-read_piece-clause-seen : goal.returns-in-Err-read_piece-clause-seen
returns-in-Err-read_piece-clause-seen g c =
    seen_on (g.A.Responder.legal c.args.responder.now) (g.A.Responder.seen c.args.pass.now) (g.A.Responder.seen c.loop.pass) (g.A.Responder.seen c.read_piece.new.pass) c.loop.invariant.6 c.read_piece.ensures.seen

pub returns-in-Err-clause-ready : goal.returns-in-Err-clause-ready
returns-in-Err-clause-ready g c = c.loop.invariant.1

pub returns-in-Ok-eq0-clause-ready : goal.returns-in-Ok-eq0-clause-ready
returns-in-Ok-eq0-clause-ready g c = c.loop.invariant.1

pub returns-in-Ok-eq0-clause-stopped : goal.returns-in-Ok-eq0-clause-stopped
returns-in-Ok-eq0-clause-stopped g c = on_err c.end_of.result (λ f same. rw same tt) c.end_of.ensures.fault

pub returns-in-Err-read_piece-clause-ready : goal.returns-in-Err-read_piece-clause-ready
returns-in-Err-read_piece-clause-ready g c = c.read_piece.ensures.ready

pub returns-in-Err-read_piece-clause-stopped : goal.returns-in-Err-read_piece-clause-stopped
returns-in-Err-read_piece-clause-stopped g c = c.in-Err-read_piece.ensures.stopped

pub read_piece-requires-clause-ready : goal.read_piece-requires-clause-ready
read_piece-requires-clause-ready g c κs lives = c.loop.invariant.1

pub read_piece-requires-clause-size : goal.read_piece-requires-clause-size
read_piece-requires-clause-size g c κs lives = c.loop.invariant.0

pub read_piece-requires-clause-held : goal.read_piece-requires-clause-held
read_piece-requires-clause-held g c κs lives = (taken_of (g.L.Link.view c.loop.link).log, c.loop.invariant.5.held)
