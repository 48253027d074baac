-- One message more that was answered.
use Rattle.std.proofs.Common.{◌≡◌, ℕ, Bool, true, false, List, [], ◌∷◌, ◌++◌, length, drop, refl, sym, ap, ◌∙◌, append_assoc, append-nil, inl, inr, Result, Ok, Err, arith}
use Rattle.std.specs.Prelude.{OnOk, IfErr, if◌then◌else◌}
use Rattle.slot_text.specs.Lines.{lines_of}
use Rattle.scr_reader.specs.Streams.{complete_messages, served_messages, is_broken, before_break, breaks_limit}
use Rattle.desk_outside.specs.Passages.{Passage, took, put}
use Rattle.desk_links.specs.Links.{taken_of, puts_of}
use Rattle.session_desk.specs.Answered.{AreAnswered}
use Rattle.session_desk.specs.Passed.{InOrder}
use Rattle.session_desk.specs.Sessions.{HasAnswered, HasBegun}
use Rattle.session_desk.specs.Private.Held.{IsHeld}
use Rattle.session_desk.specs.Private.Reading.{IsAt, HasStopped, IsPut, IsGivenUp, AnswerStops}
use Rattle.session_desk.specs.declared.pending.Pending.{Pending}
use Rattle.session_desk.specs.declared.responder.AnswerFault.{AnswerFault}
use Rattle.session_desk.specs.declared.responder.AnswerFault.TheVariants as stops
use Rattle.session_desk.specs.declared.session.SessionFault.{SessionFault}
use Rattle.session_desk.specs.declared.session.SessionFault.TheVariants.{Link, TooLong, Full, Broken, Memory}
use Rattle.session_desk.proofs.PassedLemmas.{PutsJoin, put_puts, took_puts, order_put, order_failed, order_took, calm_more}

pub on_ok : {X F A C : Type 0} (r : Result X F) → (A → C) → OnOk r A → OnOk r C
on_ok (Ok x) f a = f a
on_ok (Err e) f a = tt

pub both_ok : {X F A B C : Type 0} (r : Result X F) → (A → B → C) → OnOk r A → OnOk r B → OnOk r C
both_ok (Ok x) f a b = f a b
both_ok (Err e) f a b = tt

pub on_err : {X F : Type 0} {P Q : F → Type 0} (r : Result X F) → ((e : F) → P e → Q e) → IfErr r P → IfErr r Q
on_err (Ok x) f h = tt
on_err (Err e) f h = f e h

-- more complete messages stand behind the first ones
abbrev pub MessagesStay : Type 0
MessagesStay = (text more : List ℕ) → (later : List (List (List ℕ))) × (complete_messages (text ++ more) ≡ complete_messages text ++ later)

-- until a limit is broken all complete messages are served
abbrev pub UnbrokenAll : Type 0
UnbrokenAll = (text : List ℕ) → is_broken text ≡ false → served_messages text ≡ complete_messages text

before_more : (ms ns : List (List (List ℕ))) → before_break ms ≡ ms → before_break (ms ++ ns) ≡ ms ++ before_break ns
unfolding before_break
before_more [] ns h = refl
before_more (m ∷ ms) ns h = by (breaks_limit m) (before_more ms ns) h
  where
    by : (broken : Bool) → (before_break ms ≡ ms → before_break (ms ++ ns) ≡ ms ++ before_break ns)
        → (if broken then [] else m ∷ before_break ms) ≡ m ∷ ms → (if broken then [] else m ∷ before_break (ms ++ ns)) ≡ m ∷ ms ++ before_break ns
    by true rest same = absurd (omega (arith, ap length same))
    by false rest same = ap (λ (l : List (List (List ℕ))). m ∷ l) (rest (ap (drop 1) same))

-- while no limit is broken the messages that are complete are the first that are served
pub served_more : MessagesStay → UnbrokenAll → (text more : List ℕ) → is_broken text ≡ false
    → (later : List (List (List ℕ))) × (served_messages (text ++ more) ≡ complete_messages text ++ later)
served_more stay all text more within =
    let s = stay text more in
    (before_break s.0, ap before_break s.1 ∙ before_more (complete_messages text) s.0 (all text within))

-- and so is the message that a byte completed
pub message_first : MessagesStay → UnbrokenAll → (seen : List ℕ) (b : ℕ) (m : List (List ℕ)) → is_broken (seen ++ b ∷ []) ≡ false
    → complete_messages (seen ++ b ∷ []) ≡ complete_messages seen ++ m ∷ []
    → (more : List ℕ) → (later : List (List (List ℕ))) × (served_messages ((seen ++ b ∷ []) ++ more) ≡ complete_messages seen ++ m ∷ later)
message_first stay all seen b m within longer more =
    let s = served_more stay all (seen ++ b ∷ []) more within in
    (s.0, s.1 ∙ ap (λ (l : List (List (List ℕ))). l ++ s.0) longer ∙ append_assoc (complete_messages seen) (m ∷ []) s.0)

module _ {E : Type 0} (A : List (List ℕ) → List E → List ℕ → Type 0) (B : AnswerFault → List (List ℕ) → List E → Type 0) (before : List E) where
  answered_more : (ms : List (List (List ℕ))) (es : List E) (ts : List (List ℕ)) (m : List (List ℕ)) (own : List E) (t : List ℕ)
      → AreAnswered A ms es ts → A m own t → AreAnswered A (ms ++ m ∷ []) (es ++ own) (ts ++ t ∷ [])
  answered_more [] es [] m own t h a = (own, [], ap (λ (l : List E). l ++ own) h ∙ sym (append-nil own), a, refl)
  answered_more [] es (u ∷ ts) m own t h a = absurd h
  answered_more (n ∷ ms) es [] m own t h a = absurd h
  answered_more (n ∷ ms) es (u ∷ ts) m own t h a =
      (h.0, h.1 ++ own, ap (λ (l : List E). l ++ own) h.2 ∙ append_assoc h.0 h.1 own, h.3, answered_more ms h.1 ts m own t h.4 a)

  pub answered_length : (ms : List (List (List ℕ))) (es : List E) (ts : List (List ℕ)) → AreAnswered A ms es ts → length ts ≡ length ms
  answered_length [] es [] h = refl
  answered_length [] es (u ∷ ts) h = absurd h
  answered_length (n ∷ ms) es [] h = absurd h
  answered_length (n ∷ ms) es (u ∷ ts) h = let ih = answered_length ms h.1 ts h.4 in omega (arith, ih)

  -- nothing came
  pub nothing_answered : (log : List Passage) → log ≡ [] → HasAnswered A B before [] log before
  nothing_answered log none = record {
    own = [];
    entries_are = sym (append-nil before);
    answered = rw none refl;
    calm = rw none tt;
  }

  -- of other messages that are the same
  pub answered_same : (ms ns : List (List (List ℕ))) (log : List Passage) (entries : List E) → ns ≡ ms → HasAnswered A B before ms log entries → HasAnswered A B before ns log entries
  answered_same ms ns log entries same a = rw same a

  -- the message that a byte ended was answered, and its text was put
  pub message_put : PutsJoin → (p q r : Pending) (seen : List ℕ) (b : ℕ) (log now : List Passage) (old new : List E)
      → IsAt A B before p seen log old
      → complete_messages (seen ++ b ∷ []) ≡ complete_messages seen ++ lines_of q.lines.items ∷ []
      → IsPut A B put (lines_of q.lines.items) old new log now
      → IsHeld r (seen ++ b ∷ [])
      → IsAt A B before r (seen ++ b ∷ []) now new
  message_put join p q r seen b log now old new at longer sent held =
      let a = at.answered in
      let m = lines_of q.lines.items in
      record {
        held = held;
        order = rw sent.log_is (order_put [] 0 log sent.text at.order a.calm);
        answered = record {
          own = a.own ++ sent.own;
          entries_are = sent.entries_are ∙ ap (λ (l : List E). l ++ sent.own) a.entries_are ∙ append_assoc before a.own sent.own;
          answered = rw (longer, put_puts join log now sent.text sent.log_is)
              (answered_more (complete_messages seen) a.own (puts_of log) m sent.own sent.text a.answered sent.answers);
          calm = rw sent.log_is (calm_more log (put sent.text ∷ []) a.calm tt);
        };
      }

  message_begun : (fault : AnswerFault) (p q : Pending) (seen taken : List ℕ) (log now : List Passage) (old new : List E)
      → IsAt A B before p seen log old
      → ((later : List (List (List ℕ))) × (served_messages taken ≡ complete_messages seen ++ lines_of q.lines.items ∷ later))
      → IsGivenUp A B fault (lines_of q.lines.items) old new log now
      → HasBegun A B before fault taken now new
  message_begun fault p q seen taken log now old new at longer stop = record {
    first = complete_messages seen;
    next = lines_of q.lines.items;
    later = longer.0;
    done = old;
    begun = stop.own;
    messages = longer.1;
    answered = rw stop.log_is at.answered;
    begins = stop.begins;
    entries_are = stop.entries_are;
  }

  begun_order : (fault : AnswerFault) (m : List (List ℕ)) (log now : List Passage) (old new : List E)
      → InOrder [] 0 log → IsGivenUp A B fault m old new log now → InOrder [] 0 now
  begun_order fault m log now old new order stop = rw stop.log_is order

  pub message_stopped : (fault : SessionFault) (p q : Pending) (seen : List ℕ) (b : ℕ) (log now : List Passage) (old new : List E)
      → IsAt A B before p seen log old
      → ((more : List ℕ) → (later : List (List (List ℕ))) × (served_messages ((seen ++ b ∷ []) ++ more) ≡ complete_messages seen ++ lines_of q.lines.items ∷ later))
      → AnswerStops A B fault (lines_of q.lines.items) old new log now
      → HasStopped A B before fault (seen ++ b ∷ []) now new
  message_stopped Link p q seen b log now old new at longer stop = record {
    order = rw stop.log_is (order_failed [] 0 log stop.text at.order at.answered.calm);
    right = λ more. record {
      first = complete_messages seen;
      next = lines_of q.lines.items;
      later = (longer more).0;
      passed = log;
      text = stop.text;
      done = old;
      own = stop.own;
      messages = (longer more).1;
      failed = stop.log_is;
      answered = at.answered;
      answers = stop.answers;
      entries_are = stop.entries_are;
    };
  }
  message_stopped TooLong p q seen b log now old new at longer stop = absurd stop
  message_stopped (Full n) p q seen b log now old new at longer stop = record {
    order = begun_order (stops.Full n) (lines_of q.lines.items) log now old new at.order stop;
    right = λ more. message_begun (stops.Full n) p q seen ((seen ++ b ∷ []) ++ more) log now old new at (longer more) stop;
  }
  message_stopped (Broken n) p q seen b log now old new at longer stop = record {
    order = begun_order (stops.Broken n) (lines_of q.lines.items) log now old new at.order stop;
    right = λ more. message_begun (stops.Broken n) p q seen ((seen ++ b ∷ []) ++ more) log now old new at (longer more) stop;
  }
  message_stopped Memory p q seen b log now old new at longer stop = record {
    order = begun_order stops.Memory (lines_of q.lines.items) log now old new at.order stop;
    right = λ more. inl (message_begun stops.Memory p q seen ((seen ++ b ∷ []) ++ more) log now old new at (longer more) stop);
  }

  -- no memory for a byte
  pub nothing_begun : (p : Pending) (seen : List ℕ) (b : ℕ) (log : List Passage) (entries : List E) → IsAt A B before p seen log entries
      → MessagesStay → UnbrokenAll
      → HasStopped A B before Memory (seen ++ b ∷ []) log entries
  nothing_begun p seen b log entries at stay all = record {
    order = at.order;
    right = λ more.
        let longer = served_more stay all seen (b ∷ more) at.held.within in
        inr (record {
          first = complete_messages seen;
          later = longer.0;
          messages = ap served_messages (append_assoc seen (b ∷ []) more) ∙ longer.1;
          answered = at.answered;
        });
  }

  -- no message is complete by a byte
  pub byte_read : (p q : Pending) (seen : List ℕ) (b : ℕ) (log : List Passage) (entries : List E) → IsAt A B before p seen log entries
      → IsHeld q (seen ++ b ∷ []) → complete_messages (seen ++ b ∷ []) ≡ complete_messages seen → IsAt A B before q (seen ++ b ∷ []) log entries
  byte_read p q seen b log entries at held same = record {
    held = held;
    order = at.order;
    answered = answered_same (complete_messages seen) (complete_messages (seen ++ b ∷ [])) log entries same at.answered;
  }

  -- a piece was taken where all that was seen is answered
  pub piece_taken : PutsJoin → (p : Pending) (log now : List Passage) (bytes : List ℕ) (entries : List E) → IsAt A B before p (taken_of log) log entries
      → now ≡ log ++ took bytes ∷ [] → IsAt A B before p (taken_of log) now entries
  piece_taken join p log now bytes entries at is =
      let a = at.answered in
      record {
        held = at.held;
        order = rw is (order_took [] 0 log bytes at.order a.calm (let l = answered_length (complete_messages (taken_of log)) a.own (puts_of log) a.answered in omega (arith, l)));
        answered = record {
          own = a.own;
          entries_are = a.entries_are;
          answered = rw (took_puts join log now bytes is) a.answered;
          calm = rw is (calm_more log (took bytes ∷ []) a.calm tt);
        };
      }
