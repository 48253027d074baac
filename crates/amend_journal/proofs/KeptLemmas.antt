-- What a ledger leaves of its journal.
use Rattle.std.proofs.Common.{◌≡◌, ◌⊎◌, ◌+◌, ◌*◌, ◌<◌, ◌≤◌, ℕ, suc, List, [], ◌∷◌, ◌++◌, length, get_or, take, refl, sym, ap, subst, ◌∙◌, append_assoc, append-nil, length-append, inl, None, Some, arith}
use Rattle.std.proofs.lemmas.List.{take_more}
use Rattle.season_days.specs.Term.{Term}
use Rattle.desk_outside.specs.Cause.{Rose}
use Rattle.desk_disk.specs.Stops.{DiskPassage, DiskStart, AtEachMoment}
use Rattle.desk_disk.specs.Disks.{DiskView}
use Rattle.holding_book.specs.declared.answer.Entry.{Entry}
use Rattle.holding_book.specs.Books.{SlotBook}
use Rattle.holding_book.specs.Asks.{CanAsk, next}
use Rattle.holding_book.specs.Histories.{replay}
use Rattle.season_days.specs.declared.declaration.Declaration.{Declaration}
use Rattle.scr_reader.specs.Again.{IsFitItem}
use Rattle.scr_reader.specs.declared.line.Item.{Item}
use Rattle.scr_reader.specs.declared.line.Item.TheVariants.{One, Pair, Query}
use Rattle.holding_book.specs.declared.answer.Answer.{Answer}
use Rattle.slot_ledger.specs.Starts.{new_entry}
use Rattle.amend_journal.specs.Format.{IsJournalOf}
use Rattle.amend_journal.specs.Durable.{JournalView, IsReady, AreDurable, MayHavePair, IsLaterDisk}
use Rattle.amend_journal.specs.Kept.{asked_by, asks_of, book_after, IsJournalUpTo, KeepsEach, AllKept, MayHaveOneMore, KeptView, IsKept, CanKeep}
use Rattle.amend_journal.specs.declared.asked.Asked.{Asked}
use Rattle.amend_journal.specs.declared.told.Failure.{Failure}
use Rattle.amend_journal.proofs.MomentLemmas.{ReadBack, LeftBack, moments_join, moments_weaker, no_moment, later_join}

-- ---- what was asked

pub asks_more : (history : List Entry) (e : Entry) → asks_of (history ++ e ∷ []) ≡ asks_of history ++ asked_by e ∷ []
asks_more [] e = refl
asks_more (x ∷ history) e = ap (λ (asks : List Asked). asked_by x ∷ asks) (asks_more history e)

pub asks_count : (history : List Entry) → length (asks_of history) ≡ length history
asks_count [] = refl
asks_count (x ∷ history) = ap suc (asks_count history)

-- ---- the beginning

pub all_kept_at_start : (began : JournalView) → AllKept began began.disk []
all_kept_at_start began = record {
  faults = refl;
  durable = λ s pairs d n. subst (λ (list : List Asked). AreDurable s began.disk.log began.season list) (sym (append-nil pairs)) d;
  moments = λ s pairs d n. no_moment (IsJournalOf began.season pairs) s began.disk.log d.left;
}

-- ---- the asks one after the other

module _ (season : Term) (s : DiskStart) (asked : Asked) (all : List Asked) (now later : List DiskPassage) (read_back : ReadBack) (left_back : LeftBack) (put : AtEachMoment s now later (IsJournalUpTo season asked all)) where
  put_behind : (before : List DiskPassage) (pairs : List Asked) → pairs ≡ all → AtEachMoment s before now (IsJournalOf season pairs) → AtEachMoment s before later (IsJournalUpTo season asked pairs)
  put_behind before pairs is h =
      moments_join (IsJournalUpTo season asked pairs) s before now later read_back left_back
      (moments_weaker (IsJournalOf season pairs) (IsJournalUpTo season asked pairs) s before now (λ c j. inl j) h)
      (subst (λ (list : List Asked). AtEachMoment s now later (IsJournalUpTo season asked list)) (sym is) put)

  -- one more was kept
  pub keeps_more : AreDurable s later season (all ++ asked ∷ []) → (before : List DiskPassage) (pairs asks : List Asked) → pairs ++ asks ≡ all
      → KeepsEach season s (IsJournalOf season) before pairs asks now → KeepsEach season s (IsJournalOf season) before pairs (asks ++ asked ∷ []) later
  keeps_more durable before pairs [] is h =
      let same : pairs ≡ all = sym (append-nil pairs) ∙ is in
      let kept : AreDurable s later season (pairs ++ asked ∷ []) = subst (λ (list : List Asked). AreDurable s later season (list ++ asked ∷ [])) (sym same) durable in
      (later, put_behind before pairs same h, kept, no_moment (IsJournalOf season (pairs ++ asked ∷ [])) s later kept.left)
  keeps_more durable before pairs (a ∷ asks) is h =
      (h.0, h.1, h.2, keeps_more durable h.0 (pairs ++ a ∷ []) asks (append_assoc pairs (a ∷ []) asks ∙ is) h.3)

  -- a put failed behind all that was kept
  pub keeps_failed : (before : List DiskPassage) (pairs asks : List Asked) → pairs ++ asks ≡ all
      → KeepsEach season s (IsJournalOf season) before pairs asks now → KeepsEach season s (IsJournalUpTo season asked) before pairs asks later
  keeps_failed before pairs [] is h = put_behind before pairs (sym (append-nil pairs) ∙ is) h
  keeps_failed before pairs (a ∷ asks) is h =
      (h.0, h.1, h.2, keeps_failed h.0 (pairs ++ a ∷ []) asks (append_assoc pairs (a ∷ []) asks ∙ is) h.3)

pub kept_at_start : (k : KeptView) → k.journal ≡ k.began → k.failure ≡ None → IsKept k []
kept_at_start k same whole = record {
  season = ap (λ (j : JournalView). j.season) same;
  count = ap (λ (j : JournalView). j.count) same ∙ omega arith;
  later = rw same (record { start = refl; truly = λ h. h; agrees = λ s h. h });
  disk = rw (whole, same) (all_kept_at_start k.began);
}

-- ---- a put

abbrev pub PutMoments : JournalView → DiskView → List ℕ → Type 0
PutMoments old disk slot = (s : DiskStart) (asks : List Asked) (asked : Asked) → AreDurable s old.disk.log old.season asks → length asks ≡ old.count → IsReady old.season asked slot
    → AtEachMoment s old.disk.log disk.log (λ c. IsJournalOf old.season asks c ⊎ IsJournalOf old.season (asks ++ asked ∷ []) c)

abbrev pub PutKept : JournalView → DiskView → List ℕ → Type 0
PutKept old disk slot = (s : DiskStart) (asks : List Asked) (asked : Asked) → AreDurable s old.disk.log old.season asks → length asks ≡ old.count → IsReady old.season asked slot
    → AreDurable s disk.log old.season (asks ++ asked ∷ [])

abbrev pub PutLeft : JournalView → DiskView → List ℕ → Type 0
PutLeft old disk slot = (s : DiskStart) (asks : List Asked) (asked : Asked) → AreDurable s old.disk.log old.season asks → length asks ≡ old.count → IsReady old.season asked slot
    → MayHavePair s disk.log old.season asks asked

module _ (began old : JournalView) (disk : DiskView) (asks : List Asked) (asked : Asked) (slot : List ℕ)
    (season : old.season ≡ began.season) (count : old.count ≡ began.count + length asks) (kept : AllKept began old.disk asks) (ready : IsReady old.season asked slot) where
  durable : (s : DiskStart) (pairs : List Asked) → AreDurable s began.disk.log began.season pairs → length pairs ≡ began.count → AreDurable s old.disk.log old.season (pairs ++ asks)
  durable s pairs d n = rw season (kept.durable s pairs d n)

  whole : (pairs : List Asked) → length pairs ≡ began.count → length (pairs ++ asks) ≡ old.count
  whole pairs n = length-append pairs asks ∙ ap (λ (k : ℕ). k + length asks) n ∙ sym count

  put_of : PutMoments old disk slot → (s : DiskStart) (pairs : List Asked) → AreDurable s began.disk.log began.season pairs → length pairs ≡ began.count
      → AtEachMoment s old.disk.log disk.log (IsJournalUpTo began.season asked (pairs ++ asks))
  put_of put s pairs d n =
      subst (λ (t : Term). AtEachMoment s old.disk.log disk.log (IsJournalUpTo t asked (pairs ++ asks))) season (put s (pairs ++ asks) asked (durable s pairs d n) (whole pairs n) ready)

  kept_of : PutKept old disk slot → (s : DiskStart) (pairs : List Asked) → AreDurable s began.disk.log began.season pairs → length pairs ≡ began.count
      → AreDurable s disk.log began.season ((pairs ++ asks) ++ asked ∷ [])
  kept_of put s pairs d n =
      subst (λ (t : Term). AreDurable s disk.log t ((pairs ++ asks) ++ asked ∷ [])) season (put s (pairs ++ asks) asked (durable s pairs d n) (whole pairs n) ready)

  pub put_keeps_all : ReadBack → LeftBack → PutMoments old disk slot → PutKept old disk slot → disk.faults ≡ old.disk.faults → AllKept began disk (asks ++ asked ∷ [])
  put_keeps_all read_back left_back moments put faults = record {
    faults = faults ∙ kept.faults;
    durable = λ s pairs d n. subst (λ (list : List Asked). AreDurable s disk.log began.season list) (append_assoc pairs asks (asked ∷ [])) (kept_of put s pairs d n);
    moments = λ s pairs d n. keeps_more began.season s asked (pairs ++ asks) old.disk.log disk.log read_back left_back (put_of moments s pairs d n) (kept_of put s pairs d n)
        began.disk.log pairs asks refl (kept.moments s pairs d n);
  }

  pub put_may_have : ReadBack → LeftBack → PutMoments old disk slot → PutLeft old disk slot → Rose old.disk.faults disk.faults → MayHaveOneMore began disk asks
  put_may_have read_back left_back moments put rose = record {
    rose = subst (λ (n : ℕ). Rose n disk.faults) kept.faults rose;
    asked = asked;
    left = λ s pairs d n. subst (λ (t : Term). MayHavePair s disk.log t (pairs ++ asks) asked) season (put s (pairs ++ asks) asked (durable s pairs d n) (whole pairs n) ready);
    moments = λ s pairs d n. keeps_failed began.season s asked (pairs ++ asks) old.disk.log disk.log read_back left_back (put_of moments s pairs d n) began.disk.log pairs asks refl (kept.moments s pairs d n);
  }

-- ---- the book

pub replay_is : (b : SlotBook) (history : List Entry) → replay b history ≡ book_after b (asks_of history)
replay_is b [] = refl
replay_is b (e ∷ history) = replay_is (next b e.ask) history

pub after_parts : (b : SlotBook) (first later : List Asked) → book_after b (first ++ later) ≡ book_after (book_after b first) later
after_parts b [] later = refl
after_parts b (a ∷ first) later = after_parts (next b a.ask) first later

-- one pair more
pub after_one_more : (b now after : SlotBook) (pairs : List Asked) (i : ℕ) (d : Asked) → i < length pairs → now ≡ book_after b (take i pairs) → after ≡ next now (get_or pairs i d).ask → after ≡ book_after b (take (i + 1) pairs)
after_one_more b now after pairs i d lt is stepped =
    let asked = get_or pairs i d in
    stepped ∙ ap (λ (s : SlotBook). next s asked.ask) is ∙ sym (after_parts b (take i pairs) (asked ∷ []))
    ∙ ap (λ (asks : List Asked). book_after b asks) (sym (take_more pairs i d lt))

abbrev pub StaysDeclared : Type 0
StaysDeclared = (b : SlotBook) (ask : Item) → (next b ask).declaration ≡ b.declaration

abbrev pub AddsFew : Type 0
AddsFew = (b : SlotBook) (ask : Item) → length (next b ask).holdings ≤ length b.holdings + 3

pub declared_one_more : StaysDeclared → (d : Declaration) (now after : SlotBook) (ask : Item) → after ≡ next now ask → now.declaration ≡ d → after.declaration ≡ d
declared_one_more stays d now after ask stepped same = ap (λ (s : SlotBook). s.declaration) stepped ∙ stays now ask ∙ same

pub few_one_more : AddsFew → (n i : ℕ) (now after : SlotBook) (ask : Item) → after ≡ next now ask → length now.holdings ≤ n + 3 * i → length after.holdings ≤ n + 3 * (i + 1)
few_one_more adds n i now after ask stepped few = omega (arith, ap (λ (s : SlotBook). length s.holdings) stepped, adds now ask, few)

-- ---- a put behind the history

module _ (k : KeptView) (journal : JournalView) (slot : List ℕ) (caller : ℕ) (ask : Item) (history : List Entry)
    (whole : k.failure ≡ None) (kept : IsKept k history) (ready : IsReady k.journal.season (record { caller = caller; ask = ask }) slot)
    (read_back : ReadBack) (left_back : LeftBack) (season : journal.season ≡ k.journal.season) (later : IsLaterDisk k.journal.disk journal.disk) (moments : PutMoments k.journal journal.disk slot) where
  all : AllKept k.began k.journal.disk (asks_of history)
  all = rw whole at kept.disk

  counted : k.journal.count ≡ k.began.count + length (asks_of history)
  counted = kept.count ∙ ap (λ (n : ℕ). k.began.count + n) (sym (asks_count history))

  pub kept_put : PutKept k.journal journal.disk slot → journal.count ≡ k.journal.count + 1 → journal.disk.faults ≡ k.journal.disk.faults → (answer : Answer)
      → IsKept (record { began = k.began; journal = journal; failure = k.failure }) (history ++ new_entry caller ask answer ∷ [])
  kept_put put count faults answer = record {
    season = season ∙ kept.season;
    count = omega (arith, count, kept.count, length-append history (new_entry caller ask answer ∷ []));
    later = later_join k.began.disk k.journal.disk journal.disk kept.later later;
    disk = rw (whole, asks_more history (new_entry caller ask answer))
        (put_keeps_all k.began k.journal journal.disk (asks_of history) (record { caller = caller; ask = ask }) slot kept.season counted all ready read_back left_back moments put faults);
  }

  pub kept_failed : PutLeft k.journal journal.disk slot → journal.count ≡ k.journal.count → Rose k.journal.disk.faults journal.disk.faults → (failure : Failure) → failure.faults ≡ journal.disk.faults
      → IsKept (record { began = k.began; journal = journal; failure = Some failure }) history
  kept_failed put count rose failure faults = record {
    season = season ∙ kept.season;
    count = count ∙ kept.count;
    later = later_join k.began.disk k.journal.disk journal.disk kept.later later;
    disk = (put_may_have k.began k.journal journal.disk (asks_of history) (record { caller = caller; ask = ask }) slot kept.season counted all ready read_back left_back moments put rose, faults);
  }

-- ---- what can be asked

pub can_ask : (d : Declaration) (ask : Item) → IsFitItem d.season ask → CanAsk d ask
can_ask d (One line) h = record { spelled = h.fits; paired = tt }
can_ask d (Pair historic request) h = record { spelled = h.fits; paired = h.asked.1 }
can_ask d (Query flight) h = record { spelled = h.fits; paired = tt }

pub can_keep : (began : JournalView) (season : Term) (caller : ℕ) (ask : Item) → began.season ≡ season → caller < 256 → IsFitItem season ask → CanKeep began caller ask
can_keep began season caller ask same few h = (few, rw same h)
