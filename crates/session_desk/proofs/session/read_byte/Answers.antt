use Rattle.std.proofs.Common.{ℕ, List, [], ◌∷◌, ◌++◌}
use Rattle.slot_text.specs.Lines.{lines_of}
use Rattle.session_desk.specs.Private.Held.{IsHeld, MakesProgress}
use Rattle.session_desk.specs.declared.pending.Progress.TheVariants.{More, Complete}
use Rattle.session_desk.proofs.AnsweredLemmas.{on_ok, both_ok, on_err, message_put, message_first, message_stopped, nothing_begun, byte_read}
use Rattle.session_desk.proofs.SeenLemmas.{seen_same}
use Rattle.session_desk.proofs.session.read_byte.Goals as goal

pub returns-in-Ok-Complete-clause-ok : goal.returns-in-Ok-Complete-clause-ok
returns-in-Ok-Complete-clause-ok g c =
    let steps : (text : List ℕ) → IsHeld c.args.pending.now text → MakesProgress c.args.pending.now text c.args.byte Complete c.push.new.self = rw c.in-Ok-Complete.field-0-is at c.in-Ok-Complete.ensures.progress in
    both_ok c.answer.result
    (λ sent held before seen at.
    let step = steps seen at.held in
    message_put (g.A.Responder.answers (g.A.Responder.about c.args.responder.now)) (g.A.Responder.begins (g.A.Responder.about c.args.responder.now)) before c.joined_logs.ensures.puts c.args.pending.now c.push.new.self c.answer.new.pending seen c.args.byte _ _ _ _ at step.1 sent (held (seen ++ c.args.byte ∷ []) step.0))
    c.answer.ensures.ok c.answer.ensures.held

pub returns-in-Ok-Complete-clause-err : goal.returns-in-Ok-Complete-clause-err
returns-in-Ok-Complete-clause-err g c =
    let steps : (text : List ℕ) → IsHeld c.args.pending.now text → MakesProgress c.args.pending.now text c.args.byte Complete c.push.new.self = rw c.in-Ok-Complete.field-0-is at c.in-Ok-Complete.ensures.progress in
    on_err c.answer.result
    (λ fault stop before seen at.
    message_stopped (g.A.Responder.answers (g.A.Responder.about c.args.responder.now)) (g.A.Responder.begins (g.A.Responder.about c.args.responder.now)) before fault c.args.pending.now c.push.new.self seen c.args.byte _ _ _ _ at (message_first c.messages_stay.ensures c.breaks_stay.ensures.unbroken seen c.args.byte (lines_of c.push.new.self.lines.items) (steps seen at.held).0.within (steps seen at.held).1) stop)
    c.answer.ensures.err

pub returns-in-Err-clause-err : goal.returns-in-Err-clause-err
returns-in-Err-clause-err g c before seen at =
    nothing_begun (g.A.Responder.answers (g.A.Responder.about c.args.responder.now)) (g.A.Responder.begins (g.A.Responder.about c.args.responder.now)) before c.args.pending.now seen c.args.byte _ _ at c.messages_stay.ensures c.breaks_stay.ensures.unbroken

pub returns-in-Ok-More-clause-ok : goal.returns-in-Ok-More-clause-ok
returns-in-Ok-More-clause-ok g c before seen at =
    let steps : (text : List ℕ) → IsHeld c.args.pending.now text → MakesProgress c.args.pending.now text c.args.byte More c.push.new.self = rw c.in-Ok-More.field-0-is at c.in-Ok-More.ensures.progress in
    let step = steps seen at.held in
    byte_read (g.A.Responder.answers (g.A.Responder.about c.args.responder.now)) (g.A.Responder.begins (g.A.Responder.about c.args.responder.now)) before c.args.pending.now c.push.new.self seen c.args.byte _ _ at step.0 step.1

pub returns-in-Ok-Complete-clause-held : goal.returns-in-Ok-Complete-clause-held
returns-in-Ok-Complete-clause-held g c =
    let steps : (text : List ℕ) → IsHeld c.args.pending.now text → MakesProgress c.args.pending.now text c.args.byte Complete c.push.new.self = rw c.in-Ok-Complete.field-0-is at c.in-Ok-Complete.ensures.progress in
    let seen = c.requires.held.0 in
    on_ok c.answer.result (λ held. (seen ++ c.args.byte ∷ [], held (seen ++ c.args.byte ∷ []) (steps seen c.requires.held.1).0)) c.answer.ensures.held

pub returns-in-Ok-More-clause-seen : goal.returns-in-Ok-More-clause-seen
returns-in-Ok-More-clause-seen g c = seen_same (g.A.Responder.legal c.args.responder.now) (g.A.Responder.seen c.args.pass.now)

pub returns-in-Ok-TooLong-clause-seen : goal.returns-in-Ok-TooLong-clause-seen
returns-in-Ok-TooLong-clause-seen g c = seen_same (g.A.Responder.legal c.args.responder.now) (g.A.Responder.seen c.args.pass.now)

pub returns-in-Err-clause-seen : goal.returns-in-Err-clause-seen
returns-in-Err-clause-seen g c = seen_same (g.A.Responder.legal c.args.responder.now) (g.A.Responder.seen c.args.pass.now)
