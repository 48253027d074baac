-- What was taken and put, of a log with passages added.
use Rattle.std.proofs.Math.Seq.{take-add}
use Rattle.std.proofs.Common.{◌≡◌, ℕ, ◌+◌, ◌-◌, ◌<◌, ◌≤◌, ◌==◌, ◌||◌, min, nat_le, Bool, true, false, List, [], ◌∷◌, ◌++◌, length, take, drop, Option, Some, None, Err, refl, sym, ap, subst, ◌∙◌, append_assoc, append-nil, arith, inl, inr}
use Rattle.std.specs.Option.{unwrap_or}
use Rattle.std.proofs.lemmas.Bool.{cases_Bool, cases_eq, ne_eqb}
use Rattle.std.proofs.lemmas.List.{take-append-drop, take_all}
use Rattle.desk_outside.specs.Passages.{Passage, read, wrote, write_failed, took, put, put_failed}
use Rattle.desk_outside.specs.Failures.{sent_bytes}
use Rattle.desk_outside.specs.declared.failures.Failure.{Failure}
use Rattle.desk_links.specs.Links.{taken_of, puts_of, LinkView, HasTaken, SendsBytes}
use Rattle.desk_links.specs.LinksInMemory.{ScriptView, HeldLink, link_view}

pub taken-append : (log more : List Passage) → taken_of (log ++ more) ≡ taken_of log ++ taken_of more
taken-append [] more = refl
taken-append (read name bytes ∷ log) more = taken-append log more
taken-append (wrote name bytes ∷ log) more = taken-append log more
taken-append (write_failed name bytes ∷ log) more = taken-append log more
taken-append (took bytes ∷ log) more = ap (λ (l : List ℕ). bytes ++ l) (taken-append log more) ∙ sym (append_assoc bytes (taken_of log) (taken_of more))
taken-append (put bytes ∷ log) more = taken-append log more
taken-append (put_failed bytes ∷ log) more = taken-append log more

pub puts-append : (log more : List Passage) → puts_of (log ++ more) ≡ puts_of log ++ puts_of more
puts-append [] more = refl
puts-append (read name bytes ∷ log) more = puts-append log more
puts-append (wrote name bytes ∷ log) more = puts-append log more
puts-append (write_failed name bytes ∷ log) more = puts-append log more
puts-append (took bytes ∷ log) more = puts-append log more
puts-append (put bytes ∷ log) more = ap (λ (l : List (List ℕ)). bytes ∷ l) (puts-append log more)
puts-append (put_failed bytes ∷ log) more = puts-append log more

-- the bytes of one take more
pub taken-took : (log : List Passage) (bytes : List ℕ) → taken_of (log ++ took bytes ∷ []) ≡ taken_of log ++ bytes
taken-took log bytes = taken-append log (took bytes ∷ []) ∙ ap (λ (l : List ℕ). taken_of log ++ l) (append-nil bytes)

pub taken-put : (log : List Passage) (bytes : List ℕ) → taken_of (log ++ put bytes ∷ []) ≡ taken_of log
taken-put log bytes = taken-append log (put bytes ∷ []) ∙ append-nil (taken_of log)

pub taken-put_failed : (log : List Passage) (bytes : List ℕ) → taken_of (log ++ put_failed bytes ∷ []) ≡ taken_of log
taken-put_failed log bytes = taken-append log (put_failed bytes ∷ []) ∙ append-nil (taken_of log)

-- where what was taken is a front of the input, so is what was taken with the next bytes of it
pub taken_on : (log : List Passage) (input bytes : List ℕ) (at n : ℕ) → taken_of log ≡ take at input → bytes ≡ take n (drop at input) → taken_of (log ++ took bytes ∷ []) ≡ take (at + n) input
taken_on log input bytes at n before next = taken-took log bytes ∙ ap (λ (l : List ℕ). l ++ bytes) before ∙ ap (λ (l : List ℕ). take at input ++ l) next ∙ sym (take-add at n input)

-- a front of the input begins it, and one that reaches its end is all of it
pub begins : (input taken : List ℕ) (at : ℕ) → taken ≡ take at input → (rest : List ℕ) × (input ≡ taken ++ rest)
begins input taken at is = (drop at input, sym (take-append-drop at input) ∙ ap (λ (l : List ℕ). l ++ drop at input) (sym is))

pub all_taken : (input taken : List ℕ) (at : ℕ) → taken ≡ take at input → at ≡ length input → input ≡ taken
all_taken input taken at is end = sym (take_all at input (omega (arith, end))) ∙ sym is

-- what a take of a link in memory leaves is what the trait says
pub has_taken : (v u : HeldLink) (input sent : List ℕ) (log : List Passage) (ended : Bool) (faults at : ℕ) (into : List ℕ) (n : ℕ) → v ≡ u → n ≤ length into
    → log ≡ v.log ++ took (take n into) ∷ [] → input ≡ v.input → sent ≡ v.sent → ended ≡ (v.ended || (n == 0)) → taken_of log ≡ take at input → (ended ≡ true → at ≡ length input)
    → HasTaken (link_view u) n into (record { told = Some (record { input = input; sent = sent }); ended = ended; faults = faults; log = log })
has_taken v u input sent log ended faults at into n same within logged input_is sent_is ended_is now whole =
    let w : LinkView = record { told = Some (record { input = input; sent = sent }); ended = ended; faults = faults; log = log } in
    let taken : HasTaken (link_view v) n into w = record {
      within = within;
      log = logged;
      ended = ended_is;
      told = ap (λ (i : List ℕ). Some (record { input = i; sent = sent })) input_is ∙ ap (λ (s : List ℕ). Some (record { input = v.input; sent = s })) sent_is;
      input = begins input (taken_of log) at now;
      whole = λ e. all_taken input (taken_of log) at now (whole e);
    } in
    subst (λ (x : HeldLink). HasTaken (link_view x) n into w) same taken

-- what is kept of a link in memory after a take
pub taken_kept : (log now : List Passage) (s t : ScriptView) (bytes : List ℕ) (n : ℕ) → taken_of log ≡ take s.taken s.input → bytes ≡ take n (drop s.taken s.input) → t ≡ record s { taken = s.taken + n } → now ≡ log ++ took bytes ∷ [] → taken_of now ≡ take t.taken t.input
taken_kept log now s t bytes n before next after logged =
    ap taken_of logged ∙ taken_on log s.input bytes s.taken n before next ∙ sym (ap (λ (u : ScriptView). take u.taken u.input) after)

pub ended_kept : (s t : ScriptView) (most n : ℕ) (over : Bool) → (over ≡ true → s.taken ≡ length s.input) → n ≡ min most (length s.input - s.taken) → 0 < most → t ≡ record s { taken = s.taken + n } → t.taken ≤ length t.input
    → (over || (n == 0)) ≡ true → t.taken ≡ length t.input
ended_kept s t most n over before count some after inside now =
    let taken : t.taken ≡ s.taken + n = ap (λ (u : ScriptView). u.taken) after in
    let input : length t.input ≡ length s.input = ap (λ (u : ScriptView). length u.input) after in
    elim (cases_Bool over) [
      | inl held ↦ omega (arith, before held, count, taken, input, inside)
      | inr never ↦
          elim (cases_eq n 0) [
            | inl none ↦ omega (arith, none, count, some, taken, input, inside)
            | inr more ↦ absurd (let e : (over || (n == 0)) ≡ false = rw never (ne_eqb n 0 more) in cc)
          ]
    ]

-- what a put appends is a front of its bytes
sent_front : (free : ℕ) (failure : Option Failure) (bytes : List ℕ) → (n : ℕ) × (sent_bytes free failure bytes ≡ take n bytes)
sent_front free None bytes =
    elim (cases_Bool (nat_le (length bytes) free)) [
      | inl fits ↦ (length bytes, let e : sent_bytes free None bytes ≡ bytes = rw fits refl in e ∙ sym (take_all (length bytes) bytes (omega arith)))
      | inr past ↦ (0, rw past refl)
    ]
sent_front free (Some failure) bytes = (min (unwrap_or failure.part 0) free, refl)

-- what a put that failed leaves of a link in memory is what the trait says
pub unsent : {E : Type 0} (fault : E) (v u : HeldLink) (sent : List ℕ) (log : List Passage) (faults : ℕ) (bytes : List ℕ) (free : ℕ) (failure : Option Failure) → v ≡ u
    → log ≡ v.log ++ put_failed bytes ∷ [] → sent ≡ v.sent ++ sent_bytes free failure bytes
    → SendsBytes {E = E} (link_view u) bytes (Err fault) (record { told = Some (record { input = v.input; sent = sent }); ended = v.ended; faults = faults; log = log })
unsent {E} fault v u sent log faults bytes free failure same logged is =
    let w : LinkView = record { told = Some (record { input = v.input; sent = sent }); ended = v.ended; faults = faults; log = log } in
    let front = sent_front free failure bytes in
    let sends : SendsBytes {E = E} (link_view v) bytes (Err fault) w = record {
      log = logged;
      ended = refl;
      told = (front.0, ap (λ (s : List ℕ). Some (record { input = v.input; sent = s })) (is ∙ ap (λ (l : List ℕ). v.sent ++ l) front.1));
    } in
    subst (λ (x : HeldLink). SendsBytes {E = E} (link_view x) bytes (Err fault) w) same sends
