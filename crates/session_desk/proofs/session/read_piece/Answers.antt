use Rattle.std.proofs.Common.{◌≡◌, ℕ, ◌+◌, ◌<◌, List, [], ◌∷◌, ◌++◌, length, get_or, take, drop, refl, sym, ap, subst, ◌∙◌, append_assoc, append-nil}
use Rattle.std.proofs.lemmas.List.{take_all, take_more, take-append-drop}
use Rattle.session_desk.specs.Private.Reading.{IsAt, HasStopped}
use Rattle.session_desk.proofs.SeenLemmas.{seen_same, seen_on}
use Rattle.session_desk.proofs.session.read_piece.Goals as goal

one_more : (seen piece : List ℕ) (i : ℕ) → i < length piece → (seen ++ take i piece) ++ get_or piece i 0 ∷ [] ≡ seen ++ take (i + 1) piece
one_more seen piece i lt = append_assoc seen (take i piece) (get_or piece i 0 ∷ []) ∙ ap (λ (l : List ℕ). seen ++ l) (sym (take_more piece i 0 lt))

pub returns-in-Err-clause-err : goal.returns-in-Err-clause-err
returns-in-Err-clause-err g c before seen at =
    let i = c.loop-byte.byte-index in
    let piece = c.args.piece.now in
    record {
      front = take (i + 1) piece;
      back = drop (i + 1) piece;
      cut = sym (take-append-drop (i + 1) piece);
      stopped = subst (λ (t : List ℕ). HasStopped (g.A.Responder.answers (g.A.Responder.about c.args.responder.now)) (g.A.Responder.begins (g.A.Responder.about c.args.responder.now)) before c.in-Err.fault t (g.L.Link.view c.read_byte.new.link).log (g.A.Responder.own c.read_byte.new.pass))
          (one_more seen piece i c.loop-byte-test.true)
          (c.in-Err.ensures.err before (seen ++ take i piece) (c.loop-byte.invariant.6 before seen at));
    }

pub loop-byte-preserved : goal.loop-byte-preserved
loop-byte-preserved g c =
    let i = c.loop-byte.byte-index in
    let piece = c.args.piece.now in (
      c.in-Ok.ensures.size,
      c.read_byte.ensures.ready,
      c.read_byte.ensures.taken ∙ c.loop-byte.invariant.2,
      c.in-Ok.ensures.held,
      c.in-Ok.ensures.cause ∙ c.loop-byte.invariant.4,
      λ t h. c.read_byte.ensures.told t (c.loop-byte.invariant.5 t h),
      λ before seen at.
          subst (λ (t : List ℕ). IsAt (g.A.Responder.answers (g.A.Responder.about c.args.responder.now)) (g.A.Responder.begins (g.A.Responder.about c.args.responder.now)) before c.read_byte.new.pending t (g.L.Link.view c.read_byte.new.link).log (g.A.Responder.own c.read_byte.new.pass))
          (one_more seen piece i c.loop-byte-test.true)
          (c.in-Ok.ensures.ok before (seen ++ take i piece) (c.loop-byte.invariant.6 before seen at)),
      seen_on (g.A.Responder.legal c.args.responder.now) (g.A.Responder.seen c.args.pass.now) (g.A.Responder.seen c.loop-byte.pass) (g.A.Responder.seen c.read_byte.new.pass) c.loop-byte.invariant.7 c.read_byte.ensures.seen,
    )

pub returns-clause-ok : goal.returns-clause-ok
returns-clause-ok g c before seen at =
    subst (λ (t : List ℕ). IsAt (g.A.Responder.answers (g.A.Responder.about c.args.responder.now)) (g.A.Responder.begins (g.A.Responder.about c.args.responder.now)) before c.loop-byte.pending t (g.L.Link.view c.loop-byte.link).log (g.A.Responder.own c.loop-byte.pass))
    (ap (λ (l : List ℕ). seen ++ l) (take_all c.loop-byte.byte-index c.args.piece.now c.loop-byte-test.false))
    (c.loop-byte.invariant.6 before seen at)

pub read_byte-requires-clause-held : goal.read_byte-requires-clause-held
read_byte-requires-clause-held g c κs within = c.loop-byte.invariant.3

pub returns-in-Err-clause-cause : goal.returns-in-Err-clause-cause
returns-in-Err-clause-cause g c = rw c.loop-byte.invariant.4 at c.in-Err.ensures.cause

pub returns-in-Err-clause-told : goal.returns-in-Err-clause-told
returns-in-Err-clause-told g c t h = c.read_byte.ensures.told t (c.loop-byte.invariant.5 t h)

pub returns-clause-held : goal.returns-clause-held
returns-clause-held g c = c.loop-byte.invariant.3

pub returns-clause-told : goal.returns-clause-told
returns-clause-told g c = c.loop-byte.invariant.5

pub loop-byte-init : goal.loop-byte-init
loop-byte-init g c = (
  c.requires.size,
  c.requires.ready,
  refl,
  c.requires.held,
  refl,
  λ t h. h,
  λ before seen at.
      subst (λ (t : List ℕ). IsAt (g.A.Responder.answers (g.A.Responder.about c.args.responder.now)) (g.A.Responder.begins (g.A.Responder.about c.args.responder.now)) before c.args.pending.now t (g.L.Link.view c.args.link.now).log (g.A.Responder.own c.args.pass.now))
      (sym (append-nil seen))
      at,
  seen_same (g.A.Responder.legal c.args.responder.now) (g.A.Responder.seen c.args.pass.now),
)

pub returns-in-Err-clause-seen : goal.returns-in-Err-clause-seen
returns-in-Err-clause-seen g c =
    seen_on (g.A.Responder.legal c.args.responder.now) (g.A.Responder.seen c.args.pass.now) (g.A.Responder.seen c.loop-byte.pass) (g.A.Responder.seen c.read_byte.new.pass) c.loop-byte.invariant.7 c.read_byte.ensures.seen

pub returns-clause-seen : goal.returns-clause-seen
returns-clause-seen g c = c.loop-byte.invariant.7
