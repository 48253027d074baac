-- Messages, one run after the other.
use Rattle.std.proofs.Common.{◌≡◌, ◌≢◌, ◌⊎◌, ℕ, zero, suc, ◌+◌, ◌<◌, ◌≤◌, true, List, [], ◌∷◌, ◌++◌, length, take, drop, get_or, Bor, refl, sym, ap, subst, ◌∙◌, arith, inl, inr, drop-cons, append_assoc}
use Rattle.std.specs.Prelude.{Result, Ok, Err, IsErrAnd, IfErr}
use Rattle.std.proofs.lemmas.List.{append-nil, length-map, length-drop}
use Rattle.std.proofs.lemmas.Bool.{cases_Bool}
use Rattle.std.specs.Prelude.{◌==◌, ◌&&◌}
use Rattle.slot_text.specs.Lines.{lines_of, onto_first, starts_with_lf}
use Rattle.slot_text.specs.Fields.{is_blank_line}
use Rattle.scr_reader.specs.Private.Texts.{text_in, texts_in}
use Rattle.scr_reader.specs.Messages.{Run, run_from, runs_of, front_length, IsMessage, IsMessageFault, AreMessages, IsFirstFault, FirstIs, IsFaultOfFirst}
use Rattle.scr_reader.specs.Private.Decided.{Decides, OnlyMessage, OnlyFault, Advances, Stops, BeginsFull}
use Rattle.scr_reader.specs.declared.message.Message.{Message}
use Rattle.scr_reader.specs.declared.fault.ScrFault.{ScrFault}
use Rattle.scr_reader.specs.declared.fault.ScrFault.TheVariants.{BadHeader}
use Rattle.scr_reader.proofs.RunLemmas.{runs_cons, runs_skip, front_full, front_empty, front_none}
use Rattle.scr_reader.proofs.MessageLemmas.{drop_texts}

abbrev no_lines : List (List ℕ)
no_lines = []

nothing_to_drop : (k : ℕ) → drop k (no_lines) ≡ no_lines
nothing_to_drop zero = refl
nothing_to_drop (suc k) = refl

drop_more : (lines : List (List ℕ)) (k n : ℕ) → drop n (drop k lines) ≡ drop (k + n) lines
drop_more lines zero n = let e : n ≡ 0 + n = omega arith in ap (λ (m : ℕ). drop m lines) e
drop_more [] (suc k) n = nothing_to_drop n ∙ sym (nothing_to_drop (suc k + n))
drop_more (line ∷ lines) (suc k) n =
    let e : suc k + n ≡ suc (k + n) = omega arith in
    rw e (drop_more lines k n)

-- what has been read, when the lines from a place on are still to come
pub record Progress (lines : List (Bor (List ℕ))) (messages : List Message) (at : ℕ) : Type 0 where
  pub within : at ≤ length lines
  pub all : (rest : List Message) → AreMessages (runs_of (1 + at) (drop at (texts_in lines))) rest → AreMessages (runs_of 1 (texts_in lines)) (messages ++ rest)
  pub same : (whole : List Message) → AreMessages (runs_of 1 (texts_in lines)) whole → (rest : List Message) × (whole ≡ messages ++ rest) × AreMessages (runs_of (1 + at) (drop at (texts_in lines))) rest
  pub later : (f : ScrFault) → IsFirstFault (runs_of 1 (texts_in lines)) f → IsFirstFault (runs_of (1 + at) (drop at (texts_in lines))) f
  pub back : (f : ScrFault) → IsFirstFault (runs_of (1 + at) (drop at (texts_in lines))) f → IsFirstFault (runs_of 1 (texts_in lines)) f

pub progress_start : (lines : List (Bor (List ℕ))) (messages : List Message) → messages ≡ [] → Progress lines messages 0
progress_start lines messages none =
    rw none (record { within = omega arith; all = λ rest are. are; same = λ whole are. (whole, refl, are); later = λ f is. is; back = λ f is. is })

-- ---- one step

pub blank_more : (lines : List (Bor (List ℕ))) (i : ℕ) (d : Bor (List ℕ)) → i < length lines → is_blank_line (get_or lines i d).now ≡ true → runs_of 1 (texts_in lines) ≡ runs_of (1 + i) (texts_in (drop i lines))
    → runs_of 1 (texts_in lines) ≡ runs_of (1 + (i + 1)) (texts_in (drop (i + 1) lines))
blank_more lines i d lt empty so_far =
    let here : texts_in (drop i lines) ≡ (get_or lines i d).now ∷ texts_in (drop (suc i) lines) = ap texts_in (drop-cons lines i d lt) in
    let next : suc i ≡ i + 1 = omega arith in
    let number : 1 + i + 1 ≡ 1 + (i + 1) = omega arith in
    so_far ∙ ap (runs_of (1 + i)) here ∙ runs_skip (1 + i) (get_or lines i d).now (texts_in (drop (suc i) lines)) empty ∙ ap (λ (k : ℕ). runs_of (1 + i + 1) (texts_in (drop k lines))) next
    ∙ ap (λ (k : ℕ). runs_of k (texts_in (drop (i + 1) lines))) number

pub skip_one : (number : ℕ) (lines : List (List ℕ)) (messages : List Message) → 0 < length lines → front_length lines ≡ 0 → Advances number lines 1 messages messages
skip_one number [] messages some none = absurd (omega (arith, some))
skip_one number (line ∷ lines) messages some none =
    let empty : is_blank_line line ≡ true = elim (cases_Bool (is_blank_line line)) [
      | inl is ↦ is
      | inr full ↦ absurd (omega (arith, none, front_full line lines full))
    ] in
    record { some = omega arith; within = omega arith; step = inl (refl, runs_skip number line lines empty) }

pub first_run : (number : ℕ) (lines : List (List ℕ)) → 1 ≤ front_length lines → runs_of number lines ≡ run_from number (take (front_length lines) lines) ∷ runs_of (number + front_length lines) (drop (front_length lines) lines)
first_run number [] some = absurd (omega (arith, some, front_none))
first_run number (line ∷ lines) some =
    elim (cases_Bool (is_blank_line line)) [
      | inl empty ↦ absurd (omega (arith, some, front_empty line lines empty))
      | inr full ↦ runs_cons number line lines full
    ]

take_texts : (lines : List (Bor (List ℕ))) (k : ℕ) → texts_in (take k lines) ≡ take k (texts_in lines)
take_texts lines zero = refl
take_texts [] (suc k) = refl
take_texts (a ∷ lines) (suc k) = ap (λ (l : List (List ℕ)). a.now ∷ l) (take_texts lines k)

-- the run that is cut off is the first one
cut_run : (number count : ℕ) (rest run : List (Bor (List ℕ))) → count ≢ 0 → count ≡ front_length (texts_in rest) → run ≡ take count rest
    → runs_of number (texts_in rest) ≡ run_from number (texts_in run) ∷ runs_of (number + count) (drop count (texts_in rest))
cut_run number count rest run some front cut =
    let lines = texts_in rest in
    let same : texts_in run ≡ take count lines = ap texts_in cut ∙ take_texts rest count in
    let few : 1 ≤ front_length lines = omega (arith, some, front) in
    rw (same, front) (first_run number lines few)

pub advance_run : (number count : ℕ) (rest run : List (Bor (List ℕ))) (m : Message) (before after : List Message) → count ≢ 0 → count ≡ front_length (texts_in rest) → count ≤ length rest → run ≡ take count rest → OnlyMessage (run_from number (texts_in run)) m
    → after ≡ before ++ m ∷ [] → Advances number (texts_in rest) count before after
advance_run number count rest run m before after some front within cut only put =
    record { some = omega (arith, some); within = omega (arith, within, length-map rest text_in); step = inr (run_from number (texts_in run), m, put, cut_run number count rest run some front cut, only) }

pub stop_run : (number count : ℕ) (rest run : List (Bor (List ℕ))) (f none : ScrFault) → count ≢ 0 → count ≡ front_length (texts_in rest) → run ≡ take count rest → (f ≡ none) ⊎ OnlyFault (run_from number (texts_in run)) f
    → (f ≡ none) ⊎ Stops number (texts_in rest) f
stop_run number count rest run f none some front cut (inl out) = inl out
stop_run number count rest run f none some front cut (inr only) = inr (run_from number (texts_in run), runs_of (number + count) (drop count (texts_in rest)), cut_run number count rest run some front cut, only)

-- ---- all runs

moved_runs : (lines : List (Bor (List ℕ))) (rest : List (Bor (List ℕ))) (at count : ℕ) → rest ≡ drop at lines → runs_of (1 + at + count) (drop count (texts_in rest)) ≡ runs_of (1 + (at + count)) (drop (at + count) (texts_in lines))
moved_runs lines rest at count cut =
    let number : 1 + at + count ≡ 1 + (at + count) = omega arith in
    let texts : texts_in rest ≡ drop at (texts_in lines) = ap texts_in cut ∙ drop_texts lines at in
    ap (λ (k : ℕ). runs_of k (drop count (texts_in rest))) number ∙ ap (λ (l : List (List ℕ)). runs_of (1 + (at + count)) l) (ap (λ (l : List (List ℕ)). drop count l) texts ∙ drop_more (texts_in lines) at count)

step_over : (lines : List (Bor (List ℕ))) (before after : List Message) (at next : ℕ) → next ≤ length lines → after ≡ before → runs_of (1 + at) (drop at (texts_in lines)) ≡ runs_of (1 + next) (drop next (texts_in lines)) → Progress lines before at → Progress lines after next
step_over lines before after at next within same moved so_far =
    let whole = runs_of 1 (texts_in lines) in
    let all : (rest : List Message) → AreMessages (runs_of (1 + next) (drop next (texts_in lines))) rest → AreMessages whole (before ++ rest) = subst (λ (r : List Run). (rest : List Message) → AreMessages r rest → AreMessages whole (before ++ rest)) moved so_far.all in
    let one : (u : List Message) → AreMessages whole u → (rest : List Message) × (u ≡ before ++ rest) × AreMessages (runs_of (1 + next) (drop next (texts_in lines))) rest =
    subst (λ (r : List Run). (u : List Message) → AreMessages whole u → (rest : List Message) × (u ≡ before ++ rest) × AreMessages r rest) moved so_far.same in
    let later : (f : ScrFault) → IsFirstFault whole f → IsFirstFault (runs_of (1 + next) (drop next (texts_in lines))) f = subst (λ (r : List Run). (f : ScrFault) → IsFirstFault whole f → IsFirstFault r f) moved so_far.later in
    let back : (f : ScrFault) → IsFirstFault (runs_of (1 + next) (drop next (texts_in lines))) f → IsFirstFault whole f = subst (λ (r : List Run). (f : ScrFault) → IsFirstFault r f → IsFirstFault whole f) moved so_far.back in
    rw same (record { within = within; all = all; same = one; later = later; back = back })

first_of_messages : (run : Run) (m : Message) (tail : List Run) (whole : List Message) → OnlyMessage run m → AreMessages (run ∷ tail) whole → (rest : List Message) × (whole ≡ m ∷ rest) × AreMessages tail rest
first_of_messages run m tail [] only are = absurd are
first_of_messages run m tail (x ∷ whole) only are = (whole, ap (λ (y : Message). y ∷ whole) (sym (only.1 x are.0)), are.1)

later_fault : (run : Run) (m : Message) (tail : List Run) (f : ScrFault) → OnlyMessage run m → IsFirstFault (run ∷ tail) f → IsFirstFault tail f
later_fault run m tail f only (inl here) = absurd (only.2 f here)
later_fault run m tail f only (inr later) = later.1

step_read : (lines : List (Bor (List ℕ))) (before after : List Message) (at next : ℕ) (run : Run) (m : Message) → next ≤ length lines → after ≡ before ++ m ∷ [] → runs_of (1 + at) (drop at (texts_in lines)) ≡ run ∷ runs_of (1 + next) (drop next (texts_in lines)) → OnlyMessage run m
    → Progress lines before at → Progress lines after next
step_read lines before after at next run m within put moved only so_far =
    let whole = runs_of 1 (texts_in lines) in
    let tail = runs_of (1 + next) (drop next (texts_in lines)) in
    let all : (rest : List Message) → AreMessages (run ∷ tail) rest → AreMessages whole (before ++ rest) = subst (λ (r : List Run). (rest : List Message) → AreMessages r rest → AreMessages whole (before ++ rest)) moved so_far.all in
    let one : (u : List Message) → AreMessages whole u → (rest : List Message) × (u ≡ before ++ rest) × AreMessages (run ∷ tail) rest =
    subst (λ (r : List Run). (u : List Message) → AreMessages whole u → (rest : List Message) × (u ≡ before ++ rest) × AreMessages r rest) moved so_far.same in
    let later : (f : ScrFault) → IsFirstFault whole f → IsFirstFault (run ∷ tail) f = subst (λ (r : List Run). (f : ScrFault) → IsFirstFault whole f → IsFirstFault r f) moved so_far.later in
    let back : (f : ScrFault) → IsFirstFault (run ∷ tail) f → IsFirstFault whole f = subst (λ (r : List Run). (f : ScrFault) → IsFirstFault r f → IsFirstFault whole f) moved so_far.back in
    rw put (record {
      within = within;
      all = λ rest are. rw append_assoc (all (m ∷ rest) (only.0, are));
      same = λ u are.
          let split = one u are in
          let parts = first_of_messages run m tail split.0 only split.2 in
          (parts.0, split.1 ∙ ap (λ (l : List Message). before ++ l) parts.1 ∙ sym (append_assoc before (m ∷ []) parts.0), parts.2);
      later = λ f is. later_fault run m tail f only (later f is);
      back = λ f is. back f (inr ((m, only.0), is));
    })

pub progress_step : (lines rest : List (Bor (List ℕ))) (before after : List Message) (at count : ℕ) → rest ≡ drop at lines → Advances (1 + at) (texts_in rest) count before after → Progress lines before at → Progress lines after (at + count)
progress_step lines rest before after at count cut advances so_far =
    let texts : texts_in rest ≡ drop at (texts_in lines) = ap texts_in cut ∙ drop_texts lines at in
    let within : at + count ≤ length lines = omega (arith, advances.within, so_far.within, length-map rest text_in, ap (λ (l : List (Bor (List ℕ))). length l) cut, length-drop at lines) in
    let moved = moved_runs lines rest at count cut in
    let here : runs_of (1 + at) (texts_in rest) ≡ runs_of (1 + at) (drop at (texts_in lines)) = ap (runs_of (1 + at)) texts in
    elim (advances.step) as (λ _. Progress lines after (at + count)) [
      | inl skipped ↦
          let same : runs_of (1 + at) (drop at (texts_in lines)) ≡ runs_of (1 + (at + count)) (drop (at + count) (texts_in lines)) = sym here ∙ skipped.1 ∙ moved in
          step_over lines before after at (at + count) within skipped.0 same so_far
      | inr read ↦
          let same : runs_of (1 + at) (drop at (texts_in lines)) ≡ read.0 ∷ runs_of (1 + (at + count)) (drop (at + count) (texts_in lines)) = sym here ∙ read.3 ∙ ap (λ (l : List Run). read.0 ∷ l) moved in
          step_read lines before after at (at + count) read.0 read.1 within read.2 same read.4 so_far
    ]

-- ---- what was decided

pub decided_err : {X : Type 0} (Reads : X → Type 0) (Fails : ScrFault → Type 0) (none f : ScrFault) (r : Result X ScrFault) → IsErrAnd r (λ e. e ≡ f)
    → (f ≡ none) ⊎ (Fails f × ((other : X) → Reads other → ⊥) × ((g : ScrFault) → Fails g → g ≡ f)) → Decides none Reads Fails r
decided_err Reads Fails none f (Ok x) err only = absurd err
decided_err {X} Reads Fails none f (Err e) err only = subst (λ (y : ScrFault). (y ≡ none) ⊎ (Fails y × ((other : X) → Reads other → ⊥) × ((g : ScrFault) → Fails g → g ≡ y))) (sym err) only

stop_fault : (run : Run) (tail : List Run) (f g : ScrFault) → OnlyFault run f → IsFirstFault (run ∷ tail) g → g ≡ f
stop_fault run tail f g only (inl here) = only.2 g here
stop_fault run tail f g only (inr later) = absurd (only.1 later.0.0 later.0.1)

stop_messages : (run : Run) (tail : List Run) (f : ScrFault) (whole : List Message) → OnlyFault run f → AreMessages (run ∷ tail) whole → ⊥
stop_messages run tail f [] only are = are
stop_messages run tail f (m ∷ whole) only are = only.1 m are.0

pub progress_stop : (lines rest : List (Bor (List ℕ))) (messages : List Message) (at : ℕ) (f none : ScrFault) → rest ≡ drop at lines → (f ≡ none) ⊎ Stops (1 + at) (texts_in rest) f → Progress lines messages at
    → (f ≡ none) ⊎ (IsFirstFault (runs_of 1 (texts_in lines)) f × ((other : List Message) → AreMessages (runs_of 1 (texts_in lines)) other → ⊥) × ((g : ScrFault) → IsFirstFault (runs_of 1 (texts_in lines)) g → g ≡ f))
progress_stop lines rest messages at f none cut (inl out) so_far = inl out
progress_stop lines rest messages at f none cut (inr stops) so_far =
    let run = stops.0 in
    let tail = stops.1 in
    let texts : texts_in rest ≡ drop at (texts_in lines) = ap texts_in cut ∙ drop_texts lines at in
    let same : runs_of (1 + at) (drop at (texts_in lines)) ≡ run ∷ tail = ap (runs_of (1 + at)) (sym texts) ∙ stops.2 in
    inr (
      so_far.back f (subst (λ (r : List Run). IsFirstFault r f) (sym same) (inl stops.3.0)),
      (λ other are. let split = so_far.same other are in stop_messages run tail f split.0 stops.3 (subst (λ (r : List Run). AreMessages r split.0) same split.2)),
      λ g is. stop_fault run tail f g stops.3 (subst (λ (r : List Run). IsFirstFault r g) same (so_far.later g is)),
    )

all_dropped : (lines : List (List ℕ)) (k : ℕ) → length lines ≤ k → drop k lines ≡ []
all_dropped [] zero past = refl
all_dropped [] (suc k) past = refl
all_dropped (line ∷ lines) zero past = absurd (omega (arith, past))
all_dropped (line ∷ lines) (suc k) past = all_dropped lines k (omega (arith, past))

pub no_runs : (n : ℕ) → runs_of n [] ≡ []
unfolding runs_of
no_runs n = refl

no_messages : (rest : List Message) → AreMessages [] rest → rest ≡ []
no_messages [] are = refl
no_messages (m ∷ rest) are = absurd are

pub progress_end : (lines : List (Bor (List ℕ))) (messages : List Message) (at : ℕ) → length lines ≤ at → Progress lines messages at
    → AreMessages (runs_of 1 (texts_in lines)) messages × ((other : List Message) → AreMessages (runs_of 1 (texts_in lines)) other → messages ≡ other) × ((f : ScrFault) → IsFirstFault (runs_of 1 (texts_in lines)) f → ⊥)
progress_end lines messages at past so_far =
    let none : runs_of (1 + at) (drop at (texts_in lines)) ≡ [] = ap (runs_of (1 + at)) (all_dropped (texts_in lines) at (omega (arith, past, length-map lines text_in))) ∙ no_runs (1 + at) in (
      subst (λ (l : List Message). AreMessages (runs_of 1 (texts_in lines)) l) (append-nil messages) (so_far.all [] (subst (λ (r : List Run). AreMessages r []) (sym none) tt)),
      (λ other are.
          let split = so_far.same other are in
          let nothing : split.0 ≡ [] = no_messages split.0 (subst (λ (r : List Run). AreMessages r split.0) none split.2) in
          sym (append-nil messages) ∙ ap (λ (l : List Message). messages ++ l) (sym nothing) ∙ sym split.1),
      λ f is. subst (λ (r : List Run). IsFirstFault r f) none (so_far.later f is),
    )

-- ---- the first message

pub first_none : (lines : List (Bor (List ℕ))) (blank number : ℕ) → blank ≡ length lines → runs_of 1 (texts_in lines) ≡ runs_of (1 + blank) (texts_in (drop blank lines)) → number ≡ length (texts_in lines) + 1
    → IsFaultOfFirst (length (texts_in lines) + 1) (runs_of 1 (texts_in lines)) (BadHeader number) × ((other : Message) → FirstIs (runs_of 1 (texts_in lines)) other → ⊥) × ((g : ScrFault) → IsFaultOfFirst (length (texts_in lines) + 1) (runs_of 1 (texts_in lines)) g → g ≡ BadHeader number)
first_none lines blank number past skipped count =
    let dropped : texts_in (drop blank lines) ≡ [] = drop_texts lines blank ∙ all_dropped (texts_in lines) blank (omega (arith, past, length-map lines text_in)) in
    let none : runs_of 1 (texts_in lines) ≡ [] = skipped ∙ ap (runs_of (1 + blank)) dropped ∙ no_runs (1 + blank) in
    rw (none, count) (refl, (λ other is. is), λ g is. is)

begins_front : (lines : List (List ℕ)) → BeginsFull lines → 1 ≤ front_length lines
begins_front [] full = absurd full
begins_front (line ∷ lines) full = omega (arith, front_full line lines full)

pub first_is : (lines rest run : List (Bor (List ℕ))) (blank count at : ℕ) (none : ScrFault) (r : Result Message ScrFault) → rest ≡ drop blank lines → runs_of 1 (texts_in lines) ≡ runs_of (1 + blank) (texts_in (drop blank lines)) → count ≡ front_length (texts_in rest)
    → BeginsFull (texts_in (drop blank lines)) → run ≡ take count rest → Decides none (IsMessage (run_from (1 + blank) (texts_in run))) (IsMessageFault (run_from (1 + blank) (texts_in run))) r
    → Decides none (FirstIs (runs_of 1 (texts_in lines))) (IsFaultOfFirst at (runs_of 1 (texts_in lines))) r
first_is lines rest run blank count at none r from skipped front full cut decided =
    let some : 1 ≤ front_length (texts_in rest) = begins_front (texts_in rest) (subst (λ (l : List (Bor (List ℕ))). BeginsFull (texts_in l)) (sym from) full) in
    let same : runs_of 1 (texts_in lines) ≡ run_from (1 + blank) (texts_in run) ∷ runs_of (1 + blank + count) (drop count (texts_in rest)) =
    skipped ∙ ap (λ (l : List (Bor (List ℕ))). runs_of (1 + blank) (texts_in l)) (sym from) ∙ cut_run (1 + blank) count rest run (λ zero_is. omega (arith, some, front, zero_is)) front cut in
    rw same decided

pub if_err : {X : Type 0} (r : Result X ScrFault) (f : ScrFault) (P : ScrFault → Type 0) → IsErrAnd r (λ e. e ≡ f) → P f → IfErr r P
if_err (Ok x) f P err has = tt
if_err (Err e) f P err has = subst P (sym err) has

onto_few : (b : ℕ) (texts : List (List ℕ)) (n : ℕ) → length texts ≤ n → length (onto_first b texts) ≤ suc n
onto_few b [] n few = omega arith
onto_few b (text ∷ texts) n few = omega (arith, few)

-- a text has no more lines than bytes
pub lines_few : (bytes : List ℕ) → length (lines_of bytes) ≤ length bytes
unfolding lines_of
lines_few [] = omega arith
lines_few (b ∷ bytes) =
    let rest = lines_few bytes in
    elim (cases_Bool (b == 10)) [
      | inl end ↦ rw end (omega (arith, rest))
      | inr other ↦
          elim (cases_Bool ((b == 13) && starts_with_lf bytes)) [
            | inl cr ↦ rw (other, cr) (omega (arith, rest))
            | inr byte ↦ rw (other, byte) (onto_few b (lines_of bytes) (length bytes) rest)
          ]
    ]

pub table_few : (bytes : List ℕ) (lines : List (Bor (List ℕ))) → texts_in lines ≡ lines_of bytes → length lines ≤ length bytes
table_few bytes lines are = omega (arith, lines_few bytes, ap (λ (l : List (List ℕ)). length l) are, length-map lines text_in)
