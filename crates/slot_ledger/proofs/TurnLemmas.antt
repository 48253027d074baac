-- What a pass has seen after its turn.
use Rattle.std.proofs.Common.{◌≡◌, ℕ, ◌<◌, ◌≤◌, true, false, List, [], ◌∷◌, ◌++◌, length, refl, sym, ap, ◌∙◌, inr, subst, IfOk, IfErr, Result, Ok, Err}
use Rattle.turn_lock.specs.History.{GoesOnFrom, MayGive, Grew, own}
use Rattle.turn_lock.specs.Seats.{SeatView}
use Rattle.scr_reader.specs.declared.line.Item.{Item}
use Rattle.holding_book.specs.declared.answer.Answer.{Answer}
use Rattle.holding_book.specs.declared.answer.Entry.{Entry}
use Rattle.holding_book.specs.Books.{SlotBook}
use Rattle.holding_book.specs.Histories.{IsLegal}
use Rattle.slot_ledger.specs.Starts.{entry_caller, new_entry}
use Rattle.slot_ledger.specs.Passes.{HasEntered, HasSeenMore, IsStillPass, read_pass}
use Rattle.slot_ledger.specs.Beside.{ReadsParts, ReadsEntries, ReadsOwn, MayMark, IsKeepFault, RefusedAt}
use Rattle.slot_ledger.specs.declared.fault.EnterFault.{EnterFault}
use Rattle.slot_ledger.specs.declared.fault.EnterFault.TheVariants.{Full, Broken, Memory}
use Rattle.slot_ledger.proofs.ReadLemmas.{reads_on, marked_give, marked_read, marked_own}

module _ {X : Type 0} (read : List X → List Entry) (done : Entry → X) (number : X → ℕ) (parts : ReadsParts read) (entries : ReadsEntries read done number) where
  -- what may be given back after an ask
  pub may_give : (caller : ℕ) (ask : Item) (r : Result Answer EnterFault) (old new : List X) → IfOk r (λ answer. new ≡ old ++ done (new_entry caller ask answer) ∷ [])
      → IfErr r (λ _. MayMark read number caller old new) → MayGive number caller old new
  may_give caller ask (Ok answer) old new entered marks = inr (done (new_entry caller ask answer), entered, (entries (new_entry caller ask answer)).1)
  may_give caller ask (Err f) old new entered marks = marked_give read number parts caller old new marks

  -- why an ask was not kept is why it was not entered
  pub keep_refused : (broken : List X → ℕ → Type 0) (found most : ℕ) (xs : List X) (fault : EnterFault) → IsKeepFault broken xs fault → (fault ≡ Memory → length (read xs) < most) → RefusedAt read broken found most xs fault
  keep_refused broken found most xs (Full n) h room = absurd h
  keep_refused broken found most xs (Broken n) h room = h
  keep_refused broken found most xs Memory h room = (room refl, h)

module _ {X O : Type 0} (read : List X → List Entry) (done : Entry → X) (number : X → ℕ) (parts : ReadsParts read) (entries : ReadsEntries read done number) (owns : ReadsOwn read number) where
  -- the seat before its turn, with the turn, and after it; and the turn's list before and after
  pub record Turned (before mid after : SeatView O X) (old new : List X) : Type 0 where
    pub taken : mid ≡ record before { seen = old; holds = true }
    pub longer : GoesOnFrom number before.number before.seen old
    pub given : after ≡ record mid { seen = new; own = own number mid.number new; holds = false }
    pub grew : Grew mid.seen new mid.own after.own

  module _ (before mid after : SeatView O X) (old new : List X) (t : Turned before mid after old new) where
    number_is : after.number ≡ before.number
    number_is = ap (λ (s : SeatView O X). s.number) t.given ∙ ap (λ (s : SeatView O X). s.number) t.taken

    seen_is : after.seen ≡ new
    seen_is = ap (λ (s : SeatView O X). s.seen) t.given

    mid_seen : mid.seen ≡ old
    mid_seen = ap (λ (s : SeatView O X). s.seen) t.taken

    mid_own : mid.own ≡ before.own
    mid_own = ap (λ (s : SeatView O X). s.own) t.taken

    own_is : after.own ≡ own number after.number after.seen
    own_is = ap (λ (s : SeatView O X). s.own) t.given
        ∙ ap (λ (n : ℕ). own number n new) (sym (ap (λ (s : SeatView O X). s.number) t.given))
        ∙ ap (λ (xs : List X). own number after.number xs) (sym seen_is)

    -- the pass is still one of its ledger
    pub still_pass : (start : SlotBook) (most : ℕ) (history : List Entry) → read new ≡ history → IsLegal start history → length history ≤ most
        → IsStillPass start most (read_pass read before) (read_pass read after)
    still_pass start most history is legal few =
        let seen : read after.seen ≡ history = ap read seen_is ∙ is in
        record {
          number = number_is;
          own_is = ap read own_is ∙ sym (owns after.number after.seen);
          legal = rw seen legal;
          few = rw seen few;
        }

    -- nothing was entered
    pub seen_more : (caller : ℕ) → MayMark read number caller old new → HasSeenMore (read_pass read before) (read_pass read after)
    seen_more caller may =
        let seen : read after.seen ≡ read old = ap read seen_is ∙ marked_read read number parts caller old new may in
        record {
          goes_on = rw seen (reads_on read number parts owns before.number before.seen old t.longer);
          own_stays = marked_own read number parts caller mid.seen new mid.own after.own (rw mid_seen may) t.grew ∙ ap read mid_own;
        }

    -- an ask was entered
    pub has_entered : (ask : Item) (answer : Answer) (caller : ℕ) → caller ≡ mid.number → new ≡ old ++ done (new_entry caller ask answer) ∷ []
        → HasEntered ask answer (read_pass read before) (read_pass read after)
    has_entered ask answer caller same more =
        let n : caller ≡ before.number = same ∙ ap (λ (s : SeatView O X). s.number) t.taken in
        let e = new_entry before.number ask answer in
        let is : new ≡ old ++ done e ∷ [] = subst (λ (k : ℕ). new ≡ old ++ done (new_entry k ask answer) ∷ []) n more in
        let added : (xs : List X) → read (xs ++ done e ∷ []) ≡ read xs ++ e ∷ [] = λ xs. parts xs (done e ∷ []) ∙ ap (λ (es : List Entry). read xs ++ es) (entries e).0 in
        record {
          between = read old;
          goes_on = reads_on read number parts owns before.number before.seen old t.longer;
          seen = ap read seen_is ∙ ap read is ∙ added old;
          grew = ap read (t.grew.1 (done e) (is ∙ ap (λ (xs : List X). xs ++ done e ∷ []) (sym mid_seen))) ∙ added mid.own ∙ ap (λ (es : List Entry). es ++ e ∷ []) (ap read mid_own);
        }
