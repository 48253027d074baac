-- Lines in pairs, one after the other.
use Rattle.std.proofs.Common.{◌≡◌, ◌≢◌, ℕ, zero, suc, ◌+◌, ◌<◌, ◌≤◌, Bool, false, List, [], ◌∷◌, ◌++◌, length, drop, get_or, Some, None, refl, sym, ap, subst, ◌∙◌, arith, inl, inr, add-one, drop-cons, append_assoc}
use Rattle.std.specs.Prelude.{Option, IsSomeAnd, MatchOption}
use Rattle.std.proofs.lemmas.List.{append-nil}
use Rattle.scr_reader.specs.Rows.{Row, remark, entry, question}
use Rattle.scr_reader.specs.Private.Readings.{row_read}
use Rattle.scr_reader.specs.Messages.{next_row, LineIsPaired, RowAsksChange, AsksChange, line_item, pair_item, row_item, place, items_of}
use Rattle.scr_reader.specs.Private.Pairing.{rows_read, entry_of, Follows, IsGoodReading, HasFaultAt, AreGoodReadings, IsFirstAt}
use Rattle.scr_reader.specs.declared.line.Line.{Line}
use Rattle.scr_reader.specs.declared.line.Item.{Item}
use Rattle.scr_reader.specs.declared.line.Code.{Code}
use Rattle.scr_reader.specs.declared.line.Code.TheVariants.{N, B, F, C, R, L, D, A, Z, K, H, O, U, W, X}
use Rattle.scr_reader.specs.declared.line.Item.TheVariants.{One, Pair}
use Rattle.scr_reader.specs.declared.message.Placed.{Placed}
use Rattle.scr_reader.specs.declared.rows.Reading.{Reading}
use Rattle.scr_reader.specs.declared.fault.ScrFault.{ScrFault}

-- ---- the next line that is no remark

split_at_index : (rows : List Reading) (i : ℕ) (d : Reading) → i < length rows → rows_read (drop i rows) ≡ row_read (get_or rows i d) ∷ rows_read (drop (suc i) rows)
split_at_index rows i d lt = ap rows_read (drop-cons rows i d lt)

pub pass_remark : (rows : List Reading) (i : ℕ) (reading d : Reading) → i < length rows → reading ≡ get_or rows i d → row_read reading ≡ Some remark → next_row (rows_read (drop i rows)) ≡ next_row (rows_read rows)
    → next_row (rows_read (drop (i + 1) rows)) ≡ next_row (rows_read rows)
pass_remark rows i reading d lt at is so_far =
    let here : rows_read (drop i rows) ≡ Some remark ∷ rows_read (drop (suc i) rows) = split_at_index rows i d lt ∙ ap (λ (r : Option Row). r ∷ rows_read (drop (suc i) rows)) (ap row_read (sym at) ∙ is) in
    rw add-one (sym (ap next_row here) ∙ so_far)

pub stop_at_entry : (rows : List Reading) (i : ℕ) (reading d : Reading) (line : Line) → i < length rows → reading ≡ get_or rows i d → row_read reading ≡ Some (entry line) → next_row (rows_read (drop i rows)) ≡ next_row (rows_read rows)
    → Some line ≡ entry_of (next_row (rows_read rows))
stop_at_entry rows i reading d line lt at is so_far =
    let here : rows_read (drop i rows) ≡ Some (entry line) ∷ rows_read (drop (suc i) rows) = split_at_index rows i d lt ∙ ap (λ (r : Option Row). r ∷ rows_read (drop (suc i) rows)) (ap row_read (sym at) ∙ is) in
    ap (λ (l : List (Option Row)). entry_of (next_row l)) (sym here) ∙ ap entry_of so_far

pub stop_at_none : (rows : List Reading) (i : ℕ) (reading d : Reading) → i < length rows → reading ≡ get_or rows i d → row_read reading ≡ None → next_row (rows_read (drop i rows)) ≡ next_row (rows_read rows)
    → None ≡ entry_of (next_row (rows_read rows))
stop_at_none rows i reading d lt at is so_far =
    let here : rows_read (drop i rows) ≡ None ∷ rows_read (drop (suc i) rows) = split_at_index rows i d lt ∙ ap (λ (r : Option Row). r ∷ rows_read (drop (suc i) rows)) (ap row_read (sym at) ∙ is) in
    ap (λ (l : List (Option Row)). entry_of (next_row l)) (sym here) ∙ ap entry_of so_far

nothing_left : (rows : List Reading) (i : ℕ) → length rows ≤ i → drop i rows ≡ []
nothing_left [] zero past = refl
nothing_left [] (suc i) past = refl
nothing_left (b ∷ rows) zero past = absurd (omega (arith, past))
nothing_left (b ∷ rows) (suc i) past = nothing_left rows i (omega (arith, past))

pub no_more_rows : (rows : List Reading) (i : ℕ) → length rows ≤ i → next_row (rows_read (drop i rows)) ≡ next_row (rows_read rows) → None ≡ entry_of (next_row (rows_read rows))
no_more_rows rows i past so_far = ap (λ (l : List Reading). entry_of (next_row (rows_read l))) (sym (nothing_left rows i past)) ∙ ap entry_of so_far

-- ---- one line

pub others_paired : (code : Code) (line : Line) (before after : List (Option Row)) → code ≢ C → code ≢ R → code ≢ L → LineIsPaired code line before after
others_paired C line before after c r l = absurd (c refl)
others_paired R line before after c r l = absurd (r refl)
others_paired L line before after c r l = absurd (l refl)
others_paired N line before after c r l = tt
others_paired B line before after c r l = tt
others_paired F line before after c r l = tt
others_paired D line before after c r l = tt
others_paired A line before after c r l = tt
others_paired Z line before after c r l = tt
others_paired K line before after c r l = tt
others_paired H line before after c r l = tt
others_paired O line before after c r l = tt
others_paired U line before after c r l = tt
others_paired W line before after c r l = tt
others_paired X line before after c r l = tt

pub others_item : (code : Code) (line : Line) (after : List (Option Row)) → code ≢ C → code ≢ R → code ≢ L → Some (One line) ≡ line_item code line after
others_item C line after c r l = absurd (c refl)
others_item R line after c r l = absurd (r refl)
others_item L line after c r l = absurd (l refl)
others_item N line after c r l = refl
others_item B line after c r l = refl
others_item F line after c r l = refl
others_item D line after c r l = refl
others_item A line after c r l = refl
others_item Z line after c r l = refl
others_item K line after c r l = refl
others_item H line after c r l = refl
others_item O line after c r l = refl
others_item U line after c r l = refl
others_item W line after c r l = refl
others_item X line after c r l = refl

pub pair_of : (changed asked : Line) (row : Option Row) → Some asked ≡ entry_of row → Some (Pair changed asked) ≡ pair_item changed row
pair_of changed asked None is = absurd cc
pair_of changed asked (Some remark) is = absurd cc
pair_of changed asked (Some (entry line)) is = let same : asked ≡ line = cc in rw same refl
pair_of changed asked (Some (question flight)) is = absurd cc

pub no_pair : (changed : Line) (row : Option Row) → None ≡ entry_of row → None ≡ pair_item changed row
no_pair changed None is = refl
no_pair changed (Some remark) is = refl
no_pair changed (Some (entry line)) is = absurd cc
no_pair changed (Some (question flight)) is = refl

pub asks_of : (changed asked : Line) (row : Option Row) → Some asked ≡ entry_of row → AsksChange changed asked → IsSomeAnd row (RowAsksChange changed)
asks_of changed asked None is asks = absurd cc
asks_of changed asked (Some remark) is asks = absurd cc
asks_of changed asked (Some (entry line)) is asks = let same : asked ≡ line = cc in subst (AsksChange changed) same asks
asks_of changed asked (Some (question flight)) is asks = absurd cc

pub asked_by : (changed asked : Line) (row : Option Row) → Some asked ≡ entry_of row → IsSomeAnd row (RowAsksChange changed) → AsksChange changed asked
asked_by changed asked None is asks = absurd asks
asked_by changed asked (Some remark) is asks = absurd asks
asked_by changed asked (Some (entry line)) is asks = let same : line ≡ asked = cc in subst (AsksChange changed) same asks
asked_by changed asked (Some (question flight)) is asks = absurd asks

pub not_asked : (changed : Line) (row : Option Row) → None ≡ entry_of row → IsSomeAnd row (RowAsksChange changed) → ⊥
not_asked changed None is asks = asks
not_asked changed (Some remark) is asks = asks
not_asked changed (Some (entry line)) is asks = cc
not_asked changed (Some (question flight)) is asks = asks

-- ---- all lines

-- what has been read of the rows, when the rest stands after the rows before
pub record Onward (rows : List Reading) (first : ℕ) (items : List Placed) (follows : Bool) (number : ℕ) (rest : List Reading) : Type 0 where
  pub before : List (Option Row)
  pub follows_is : Follows follows before
  pub good : AreGoodReadings before rest → AreGoodReadings [] rows
  pub fault : (f : ScrFault) → IsFirstAt number before rest f → IsFirstAt first [] rows f
  pub made : items ++ items_of number (rows_read rest) ≡ items_of first (rows_read rows)
  pub counted : number + length rest ≡ first + length rows

pub onward_start : (rows : List Reading) (first : ℕ) (items : List Placed) → items ≡ [] → Onward rows first items false first rows
onward_start rows first items none =
    record { before = []; follows_is = ((λ never. cc), (λ never. absurd never)); good = λ all. all; fault = λ f is. is; made = rw none refl; counted = refl }

place_more : (number : ℕ) (item : Option Item) (rest : List Placed) → place number item rest ≡ place number item [] ++ rest
place_more number None rest = refl
place_more number (Some item) rest = refl

items_step : (items more : List Placed) (number : ℕ) (reading : Reading) (after : List Reading) (item : Option Item) (whole : List Placed) → item ≡ row_item (row_read reading) (rows_read after) → more ≡ items ++ place number item []
    → items ++ items_of number (rows_read (reading ∷ after)) ≡ whole → more ++ items_of (number + 1) (rows_read after) ≡ whole
unfolding items_of
items_step items more number reading after item whole made put so_far =
    rw (put, append_assoc, ← place_more number item (items_of (number + 1) (rows_read after)), made) so_far

pub onward_step : (rows : List Reading) (first : ℕ) (items more : List Placed) (follows next : Bool) (number : ℕ) (rest after : List Reading) (reading : Reading) (item : Option Item) (found : Option ScrFault) → rest ≡ reading ∷ after
    → ((before : List (Option Row)) → Follows follows before → MatchOption found (IsGoodReading reading before (rows_read after)) (λ f. HasFaultAt number reading before (rows_read after) f)) → found ≡ None
    → item ≡ row_item (row_read reading) (rows_read after) → more ≡ items ++ place number item [] → ((before : List (Option Row)) → Follows follows before → Follows next (row_read reading ∷ before))
    → Onward rows first items follows number rest → Onward rows first more next (number + 1) after
onward_step rows first items more follows next number rest after reading item found is told none made put then on =
    let before = on.before in
    let good : IsGoodReading reading before (rows_read after) = subst (λ (r : Option ScrFault). MatchOption r (IsGoodReading reading before (rows_read after)) (λ f. HasFaultAt number reading before (rows_read after) f)) none (told before on.follows_is) in
    let all : AreGoodReadings before (reading ∷ after) → AreGoodReadings [] rows = subst (λ (l : List Reading). AreGoodReadings before l → AreGoodReadings [] rows) is on.good in
    let faults : (f : ScrFault) → IsFirstAt number before (reading ∷ after) f → IsFirstAt first [] rows f = subst (λ (l : List Reading). (f : ScrFault) → IsFirstAt number before l f → IsFirstAt first [] rows f) is on.fault in
    let whole : items ++ items_of number (rows_read (reading ∷ after)) ≡ items_of first (rows_read rows) = subst (λ (l : List Reading). items ++ items_of number (rows_read l) ≡ items_of first (rows_read rows)) is on.made in
    record {
      before = row_read reading ∷ before;
      follows_is = then before on.follows_is;
      good = λ rest_good. all (good, rest_good);
      fault = λ f later. faults f (inr (good, later));
      made = items_step items more number reading after item (items_of first (rows_read rows)) made put whole;
      counted = omega (arith, on.counted, ap (λ (l : List Reading). length l) is);
    }

pub onward_fault : (rows : List Reading) (first : ℕ) (items : List Placed) (follows : Bool) (number : ℕ) (rest after : List Reading) (reading : Reading) (found : Option ScrFault) (f : ScrFault) → rest ≡ reading ∷ after
    → ((before : List (Option Row)) → Follows follows before → MatchOption found (IsGoodReading reading before (rows_read after)) (λ f. HasFaultAt number reading before (rows_read after) f)) → found ≡ Some f
    → Onward rows first items follows number rest → IsFirstAt first [] rows f
onward_fault rows first items follows number rest after reading found f is told some on =
    let before = on.before in
    let bad : HasFaultAt number reading before (rows_read after) f = subst (λ (r : Option ScrFault). MatchOption r (IsGoodReading reading before (rows_read after)) (λ f. HasFaultAt number reading before (rows_read after) f)) some (told before on.follows_is) in
    let faults : (f : ScrFault) → IsFirstAt number before (reading ∷ after) f → IsFirstAt first [] rows f = subst (λ (l : List Reading). (f : ScrFault) → IsFirstAt number before l f → IsFirstAt first [] rows f) is on.fault in
    faults f (inl bad)

pub onward_end : (rows : List Reading) (first : ℕ) (items : List Placed) (follows : Bool) (number : ℕ) (rest : List Reading) → length rest ≡ 0 → Onward rows first items follows number rest → AreGoodReadings [] rows × (items ≡ items_of first (rows_read rows))
unfolding items_of
onward_end rows first items follows number [] none on = (on.good tt, sym (append-nil items) ∙ on.made)
onward_end rows first items follows number (r ∷ rest) none on = absurd (omega (arith, none))
