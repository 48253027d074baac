-- What passes over a link, one passage more.
use Rattle.std.proofs.Common.{◌≡◌, ℕ, ◌+◌, Bool, true, false, ◌||◌, eqb, List, [], ◌∷◌, ◌++◌, length, take, refl, sym, ap, subst, ◌∙◌, append_assoc, append-nil, Option, Some, None, Result, Ok, Err, arith}
use Rattle.scr_reader.specs.Streams.{complete_messages}
use Rattle.desk_outside.specs.Passages.{Passage, read, wrote, write_failed, took, put, put_failed}
use Rattle.desk_links.specs.Links.{Transcript, LinkView, taken_of, puts_of, HasTaken, SendsBytes, FollowSent}
use Rattle.session_desk.specs.Passed.{InOrder, NoneFailed, WereSent, HasPassed}

-- how takes and puts add up over logs that are joined
abbrev pub TakenJoin : Type 0
TakenJoin = (log more : List Passage) → taken_of (log ++ more) ≡ taken_of log ++ taken_of more

abbrev pub PutsJoin : Type 0
PutsJoin = (log more : List Passage) → puts_of (log ++ more) ≡ puts_of log ++ puts_of more

pub put_takes_nothing : TakenJoin → (log now : List Passage) (text : List ℕ) → now ≡ log ++ put text ∷ [] → taken_of now ≡ taken_of log
put_takes_nothing join log now text e = ap taken_of e ∙ join log (put text ∷ []) ∙ append-nil (taken_of log)

pub failed_takes_nothing : TakenJoin → (log now : List Passage) (text : List ℕ) → now ≡ log ++ put_failed text ∷ [] → taken_of now ≡ taken_of log
failed_takes_nothing join log now text e = ap taken_of e ∙ join log (put_failed text ∷ []) ∙ append-nil (taken_of log)

pub took_taken : TakenJoin → (log now : List Passage) (bytes : List ℕ) → now ≡ log ++ took bytes ∷ [] → taken_of now ≡ taken_of log ++ bytes
took_taken join log now bytes e = ap taken_of e ∙ join log (took bytes ∷ []) ∙ ap (λ (t : List ℕ). taken_of log ++ t) (append-nil bytes)

pub put_puts : PutsJoin → (log now : List Passage) (text : List ℕ) → now ≡ log ++ put text ∷ [] → puts_of now ≡ puts_of log ++ text ∷ []
put_puts join log now text e = ap puts_of e ∙ join log (put text ∷ [])

pub took_puts : PutsJoin → (log now : List Passage) (bytes : List ℕ) → now ≡ log ++ took bytes ∷ [] → puts_of now ≡ puts_of log
took_puts join log now bytes e = ap puts_of e ∙ join log (took bytes ∷ []) ∙ append-nil (puts_of log)

-- ---- in order

pub order_put : (taken : List ℕ) (texts : ℕ) (log : List Passage) (text : List ℕ) → InOrder taken texts log → NoneFailed log → InOrder taken texts (log ++ put text ∷ [])
order_put taken texts [] text h calm = tt
order_put taken texts (read name bytes ∷ log) text h calm = absurd h
order_put taken texts (wrote name bytes ∷ log) text h calm = absurd h
order_put taken texts (write_failed name bytes ∷ log) text h calm = absurd h
order_put taken texts (took bytes ∷ log) text h calm = (h.0, order_put (taken ++ bytes) texts log text h.1 calm)
order_put taken texts (put bytes ∷ log) text h calm = order_put taken (texts + 1) log text h calm
order_put taken texts (put_failed bytes ∷ log) text h calm = absurd calm

pub order_failed : (taken : List ℕ) (texts : ℕ) (log : List Passage) (text : List ℕ) → InOrder taken texts log → NoneFailed log → InOrder taken texts (log ++ put_failed text ∷ [])
order_failed taken texts [] text h calm = refl
order_failed taken texts (read name bytes ∷ log) text h calm = absurd h
order_failed taken texts (wrote name bytes ∷ log) text h calm = absurd h
order_failed taken texts (write_failed name bytes ∷ log) text h calm = absurd h
order_failed taken texts (took bytes ∷ log) text h calm = (h.0, order_failed (taken ++ bytes) texts log text h.1 calm)
order_failed taken texts (put bytes ∷ log) text h calm = order_failed taken (texts + 1) log text h calm
order_failed taken texts (put_failed bytes ∷ log) text h calm = absurd calm

-- a take where as many texts were put as messages are complete
pub order_took : (taken : List ℕ) (texts : ℕ) (log : List Passage) (more : List ℕ) → InOrder taken texts log → NoneFailed log
    → texts + length (puts_of log) ≡ length (complete_messages (taken ++ taken_of log)) → InOrder taken texts (log ++ took more ∷ [])
order_took taken texts [] more h calm e = (omega (arith, e, ap (λ (t : List ℕ). length (complete_messages t)) (append-nil taken)), tt)
order_took taken texts (read name bytes ∷ log) more h calm e = absurd h
order_took taken texts (wrote name bytes ∷ log) more h calm e = absurd h
order_took taken texts (write_failed name bytes ∷ log) more h calm e = absurd h
order_took taken texts (took bytes ∷ log) more h calm e = (h.0, order_took (taken ++ bytes) texts log more h.1 calm (e ∙ ap (λ (t : List ℕ). length (complete_messages t)) (sym (append_assoc taken bytes (taken_of log)))))
order_took taken texts (put bytes ∷ log) more h calm e = order_took taken (texts + 1) log more h calm (let s : texts + 1 + length (puts_of log) ≡ texts + length (bytes ∷ puts_of log) = omega arith in s ∙ e)
order_took taken texts (put_failed bytes ∷ log) more h calm e = absurd calm

pub calm_more : (log more : List Passage) → NoneFailed log → NoneFailed more → NoneFailed (log ++ more)
calm_more [] more calm then = then
calm_more (read name bytes ∷ log) more calm then = calm_more log more calm then
calm_more (wrote name bytes ∷ log) more calm then = calm_more log more calm then
calm_more (write_failed name bytes ∷ log) more calm then = calm_more log more calm then
calm_more (took bytes ∷ log) more calm then = calm_more log more calm then
calm_more (put bytes ∷ log) more calm then = calm_more log more calm then
calm_more (put_failed bytes ∷ log) more calm then = absurd calm

-- ---- where the link tells

pub sent_more : (log more : List Passage) (sent then : List ℕ) → WereSent log sent → WereSent more then → WereSent (log ++ more) (sent ++ then)
sent_more [] more sent then h k = rw h k
sent_more (read name bytes ∷ log) more sent then h k = sent_more log more sent then h k
sent_more (wrote name bytes ∷ log) more sent then h k = sent_more log more sent then h k
sent_more (write_failed name bytes ∷ log) more sent then h k = sent_more log more sent then h k
sent_more (took bytes ∷ log) more sent then h k = sent_more log more sent then h k
sent_more (put bytes ∷ log) more sent then h k =
    (h.0 ++ then, ap (λ (l : List ℕ). l ++ then) h.1 ∙ append_assoc bytes h.0 then, sent_more log more h.0 then h.2 k)
sent_more (put_failed bytes ∷ log) more sent then h k =
    (h.0, h.1 ++ then, ap (λ (l : List ℕ). l ++ then) h.2 ∙ append_assoc (take h.0 bytes) h.1 then, sent_more log more h.1 then h.3 k)

-- a fresh link has passed nothing
pub nothing_passed : (v : LinkView) → v.ended ≡ false → v.log ≡ [] → HasPassed v.told v
nothing_passed v fresh none = by v.told refl
  where
    by : (told : Option Transcript) → v.told ≡ told → HasPassed told v
    by None is = is
    by (Some t) is = record {
      sent = [];
      told = is ∙ ap (λ (s : List ℕ). Some (record t { sent = s })) (sym (append-nil t.sent));
      were_sent = rw none refl;
      input = (t.input, rw none refl);
      whole = λ ended. absurd (let e : false ≡ true = sym fresh ∙ ended in cc);
    }

-- a take
pub passed_took : (told : Option Transcript) (v w : LinkView) (n : ℕ) (into : List ℕ) → HasPassed told v → HasTaken v n into w → HasPassed told w
passed_took None v w n into h taken = taken.told ∙ h
passed_took (Some t) v w n into h taken =
    let is : w.told ≡ Some (record t { sent = t.sent ++ h.sent }) = taken.told ∙ h.told in
    record {
      sent = h.sent;
      told = is;
      were_sent = rw (taken.log, sym (append-nil h.sent)) (sent_more v.log (took (take n into) ∷ []) h.sent [] h.were_sent refl);
      input = rw is at taken.input;
      whole = rw is at taken.whole;
    }

-- a take that failed
pub passed_same : (told : Option Transcript) (v w : LinkView) → HasPassed told v → w.log ≡ v.log → w.ended ≡ v.ended → w.told ≡ v.told → HasPassed told w
passed_same None v w h log ended is = is ∙ h
passed_same (Some t) v w h log ended is = record {
  sent = h.sent;
  told = is ∙ h.told;
  were_sent = rw log h.were_sent;
  input = rw log h.input;
  whole = rw (log, ended) h.whole;
}

follows : (t : Transcript) (before bytes : List ℕ) (told after : Option Transcript) → told ≡ Some (record t { sent = t.sent ++ before }) → FollowSent told bytes after
    → after ≡ Some (record t { sent = t.sent ++ (before ++ bytes) })
follows t before bytes told after is f =
    let g : FollowSent (Some (record t { sent = t.sent ++ before })) bytes after = subst (λ (o : Option Transcript). FollowSent o bytes after) is f in
    g ∙ ap (λ (s : List ℕ). Some (record t { sent = s })) (append_assoc t.sent before bytes)

-- a put, or one that failed
pub passed_put : {F : Type 0} (told : Option Transcript) (v w : LinkView) (bytes : List ℕ) (result : Result (Unit {0}) F) → taken_of w.log ≡ taken_of v.log
    → HasPassed told v → SendsBytes v bytes result w → HasPassed told w
passed_put None v w bytes (Ok u) same h sends = let s = sends.told in rw h at s
passed_put None v w bytes (Err f) same h sends = let s = sends.told in (rw h at s).1
passed_put (Some t) v w bytes (Ok u) same h sends = record {
  sent = h.sent ++ bytes;
  told = follows t h.sent bytes v.told w.told h.told sends.told;
  were_sent = rw sends.log (sent_more v.log (put bytes ∷ []) h.sent bytes h.were_sent ([], sym (append-nil bytes), refl));
  input = rw same h.input;
  whole = rw (same, sends.ended) h.whole;
}
passed_put (Some t) v w bytes (Err f) same h sends =
    let n = sends.told.0 in
    record {
      sent = h.sent ++ take n bytes;
      told = follows t h.sent (take n bytes) v.told w.told h.told sends.told.1;
      were_sent = rw sends.log (sent_more v.log (put_failed bytes ∷ []) h.sent (take n bytes) h.were_sent (n, [], sym (append-nil (take n bytes)), refl));
      input = rw same h.input;
      whole = rw (same, sends.ended) h.whole;
    }

pub ended_now : (old : Bool) (n : ℕ) → n ≡ 0 → (old || eqb n 0) ≡ true
ended_now old n e = rw e (by old)
  where
    by : (b : Bool) → (b || true) ≡ true
    by true = refl
    by false = refl
