-- A session from its first take to its end.
use Rattle.std.proofs.Common.{◌≡◌, ◌⊎◌, ℕ, true, List, [], ◌++◌, refl, sym, ap, subst, ◌∙◌, append_assoc, inl, inr, Result, Ok, Err}
use Rattle.slot_text.specs.Lines.{lines_of}
use Rattle.scr_reader.specs.Cuts.{up_to_last}
use Rattle.scr_reader.specs.Streams.{messages_in, complete_messages, served_messages, is_broken}
use Rattle.desk_outside.specs.Passages.{Passage}
use Rattle.desk_links.specs.Links.{LinkView, taken_of}
use Rattle.session_desk.specs.Sessions.{HasSessionCause, HasAnswered, HasAnsweredFirst, HasBegun, HasNotSent, IsSession}
use Rattle.session_desk.specs.Passed.{InOrder}
use Rattle.session_desk.specs.Private.Held.{IsHeld}
use Rattle.session_desk.specs.Private.Reading.{EndsSo, IsAt, StopsRight, HasStoppedWithin}
use Rattle.session_desk.specs.declared.pending.Pending.{Pending}
use Rattle.session_desk.specs.declared.responder.AnswerFault.{AnswerFault}
use Rattle.session_desk.specs.declared.responder.AnswerFault.TheVariants as stops
use Rattle.session_desk.specs.declared.session.SessionEnd.{SessionEnd}
use Rattle.session_desk.specs.declared.session.SessionFault.{SessionFault}
use Rattle.session_desk.specs.declared.session.SessionFault.TheVariants.{Link, TooLong, Full, Broken, Memory}
use Rattle.session_desk.proofs.AnsweredLemmas.{UnbrokenAll, nothing_answered, answered_same}

none_complete : complete_messages [] ≡ []
unfolding up_to_last lines_of messages_in
none_complete = refl

-- a cause since an earlier moment, up to which no fault came
pub cause_since : {T : Type 0} (before between now : ℕ) (r : Result T SessionFault) → between ≡ before → HasSessionCause between now r → HasSessionCause before now r
cause_since before between now r same h = rw same at h

-- what is served stays so once a limit is broken
abbrev pub BreaksStay : Type 0
BreaksStay = (text more : List ℕ) → is_broken text ≡ true → (is_broken (text ++ more) ≡ true) × (served_messages (text ++ more) ≡ served_messages text)

module _ {E : Type 0} (A : List (List ℕ) → List E → List ℕ → Type 0) (B : AnswerFault → List (List ℕ) → List E → Type 0) (before : List E) where
  pub session_start : (p : Pending) (log : List Passage) → IsHeld p [] → log ≡ [] → IsAt A B before p (taken_of log) log before
  session_start p log held none = rw none (record {
    held = held;
    order = tt;
    answered = answered_same A B before [] (complete_messages []) [] before none_complete (nothing_answered A B before [] refl);
  })

  -- the input ended
  pub session_end : (r : Result SessionEnd SessionFault) (v : LinkView) (entries : List E) → v.ended ≡ true → EndsSo r (taken_of v.log) → InOrder [] 0 v.log
      → HasAnswered A B before (complete_messages (taken_of v.log)) v.log entries → IsSession A B before r v entries
  session_end (Ok end) v entries ended so order a = record { order = order; right = (ended, so, a) }
  session_end (Err Link) v entries ended so order a = absurd so
  session_end (Err TooLong) v entries ended so order a = record {
    order = order;
    right = (inr (ended, so.0), answered_same A B before (complete_messages (taken_of v.log)) (served_messages (taken_of v.log)) v.log entries so.1 a);
  }
  session_end (Err (Full n)) v entries ended so order a = absurd so
  session_end (Err (Broken n)) v entries ended so order a = absurd so
  session_end (Err Memory) v entries ended so order a = absurd so

  -- a take failed
  pub session_failed : UnbrokenAll → (p : Pending) (old now : LinkView) (entries : List E) → now.log ≡ old.log → IsAt A B before p (taken_of old.log) old.log entries → IsSession A B before (Err Link) now entries
  session_failed all p old now entries same at = record {
    order = rw same at.order;
    right = inl (rw same (answered_same A B before (complete_messages (taken_of old.log)) (served_messages (taken_of old.log)) old.log entries (all (taken_of old.log) at.held.within) at.answered));
  }

  -- the reading of a piece stopped, of which more bytes were taken than were read
  pub session_stopped : BreaksStay → (fault : SessionFault) (seen piece : List ℕ) (v : LinkView) (entries : List E) → taken_of v.log ≡ seen ++ piece
      → HasStoppedWithin A B before fault seen piece v.log entries → IsSession A B before (Err fault) v entries
  session_stopped breaks fault seen piece v entries is stop =
      let whole : taken_of v.log ≡ (seen ++ stop.front) ++ stop.back = is ∙ ap (λ (t : List ℕ). seen ++ t) stop.cut ∙ sym (append_assoc seen stop.front stop.back) in
      by fault (seen ++ stop.front) stop.back whole stop.stopped.order stop.stopped.right
    where
      by : (fault : SessionFault) (front back : List ℕ) → taken_of v.log ≡ front ++ back → InOrder [] 0 v.log → StopsRight A B before fault front v.log entries → IsSession A B before (Err fault) v entries
      by Link front back whole order s = record { order = order; right = inr (subst (λ (t : List ℕ). HasNotSent A B before t v.log entries) (sym whole) (s back)) }
      by TooLong front back whole order s =
          let later = breaks front back s.0 in
          record {
            order = order;
            right = (inl (ap is_broken whole ∙ later.0), answered_same A B before (served_messages front) (served_messages (taken_of v.log)) v.log entries (ap served_messages whole ∙ later.1) s.1);
          }
      by (Full n) front back whole order s = record { order = order; right = subst (λ (t : List ℕ). HasBegun A B before (stops.Full n) t v.log entries) (sym whole) (s back) }
      by (Broken n) front back whole order s = record { order = order; right = subst (λ (t : List ℕ). HasBegun A B before (stops.Broken n) t v.log entries) (sym whole) (s back) }
      by Memory front back whole order s = record {
        order = order;
        right = subst (λ (t : List ℕ). HasBegun A B before stops.Memory t v.log entries ⊎ HasAnsweredFirst A B before t v.log entries) (sym whole) (s back);
      }
