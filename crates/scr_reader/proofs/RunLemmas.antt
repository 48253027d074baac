-- Runs of lines that are not empty.
use Rattle.std.proofs.Common.{◌≡◌, ℕ, zero, suc, ◌+◌, ◌<◌, ◌≤◌, true, false, List, [], ◌∷◌, ◌++◌, length, take, drop, get_or, Bor, refl, sym, ap, subst, ◌∙◌, arith, inl, inr, drop-cons}
use Rattle.std.proofs.lemmas.Bool.{cases_Bool}
use Rattle.std.proofs.lemmas.List.{take_more, map-append, append-nil}
use Rattle.slot_text.specs.Lines.{lines_of}
use Rattle.season_days.specs.Term.{Term}
use Rattle.slot_text.specs.Fields.{is_blank_line}
use Rattle.scr_reader.specs.Private.Texts.{text_in, texts_in}
use Rattle.scr_reader.specs.Private.Readings.{IsRowReading, AreReadings}
use Rattle.scr_reader.specs.Messages.{run_from, begins_in_run, onto_run, runs_of, front_length}
use Rattle.scr_reader.specs.declared.rows.Reading.{Reading}

-- ---- how many lines stand before the first empty one

pub front_none : front_length [] ≡ 0
unfolding front_length
front_none = refl

pub front_full : (line : List ℕ) (lines : List (List ℕ)) → is_blank_line line ≡ false → front_length (line ∷ lines) ≡ suc (front_length lines)
unfolding front_length
front_full line lines full = rw full refl

pub front_empty : (line : List ℕ) (lines : List (List ℕ)) → is_blank_line line ≡ true → front_length (line ∷ lines) ≡ 0
unfolding front_length
front_empty line lines empty = rw empty refl

line_here : (lines : List (Bor (List ℕ))) (i : ℕ) (d : Bor (List ℕ)) → i < length lines → texts_in (drop i lines) ≡ (get_or lines i d).now ∷ texts_in (drop (suc i) lines)
line_here lines i d lt = ap texts_in (drop-cons lines i d lt)

pub front_more : (lines : List (Bor (List ℕ))) (i : ℕ) (d : Bor (List ℕ)) → i < length lines → is_blank_line (get_or lines i d).now ≡ false → front_length (texts_in lines) ≡ i + front_length (texts_in (drop i lines))
    → front_length (texts_in lines) ≡ i + 1 + front_length (texts_in (drop (i + 1) lines))
front_more lines i d lt full so_far =
    let here = ap front_length (line_here lines i d lt) ∙ front_full (get_or lines i d).now (texts_in (drop (suc i) lines)) full in
    let next : suc i ≡ i + 1 = omega arith in
    let moved : front_length (texts_in (drop (suc i) lines)) ≡ front_length (texts_in (drop (i + 1) lines)) = ap (λ (k : ℕ). front_length (texts_in (drop k lines))) next in
    omega (arith, so_far, here, moved)

pub front_stop : (lines : List (Bor (List ℕ))) (i : ℕ) (d : Bor (List ℕ)) → i < length lines → is_blank_line (get_or lines i d).now ≡ true → front_length (texts_in lines) ≡ i + front_length (texts_in (drop i lines)) → i ≡ front_length (texts_in lines)
front_stop lines i d lt empty so_far =
    let here = ap front_length (line_here lines i d lt) ∙ front_empty (get_or lines i d).now (texts_in (drop (suc i) lines)) empty in
    omega (arith, so_far, here)

nothing_left : (lines : List (Bor (List ℕ))) (i : ℕ) → length lines ≤ i → drop i lines ≡ []
nothing_left [] zero past = refl
nothing_left [] (suc i) past = refl
nothing_left (b ∷ lines) zero past = absurd (omega (arith, past))
nothing_left (b ∷ lines) (suc i) past = nothing_left lines i (omega (arith, past))

pub front_end : (lines : List (Bor (List ℕ))) (i : ℕ) → length lines ≤ i → front_length (texts_in lines) ≡ i + front_length (texts_in (drop i lines)) → i ≡ front_length (texts_in lines)
front_end lines i past so_far =
    let here : front_length (texts_in (drop i lines)) ≡ 0 = ap (λ (l : List (Bor (List ℕ))). front_length (texts_in l)) (nothing_left lines i past) ∙ front_none in
    omega (arith, so_far, here)

-- ---- the first run

pub runs_one : (n : ℕ) (line : List ℕ) (lines : List (List ℕ)) → is_blank_line line ≡ false → begins_in_run lines ≡ false → runs_of n (line ∷ lines) ≡ run_from n (line ∷ []) ∷ runs_of (n + 1) lines
unfolding runs_of
runs_one n line lines full ends = rw (full, ends) refl

pub runs_onto : (n : ℕ) (line : List ℕ) (lines : List (List ℕ)) → is_blank_line line ≡ false → begins_in_run lines ≡ true → runs_of n (line ∷ lines) ≡ onto_run n line (runs_of (n + 1) lines)
unfolding runs_of
runs_onto n line lines full goes_on = rw (full, goes_on) refl

pub runs_skip : (n : ℕ) (line : List ℕ) (lines : List (List ℕ)) → is_blank_line line ≡ true → runs_of n (line ∷ lines) ≡ runs_of (n + 1) lines
unfolding runs_of
runs_skip n line lines empty = rw empty refl

pub runs_cons : (n : ℕ) (line : List ℕ) (lines : List (List ℕ)) → is_blank_line line ≡ false
    → runs_of n (line ∷ lines) ≡ run_from n (take (front_length (line ∷ lines)) (line ∷ lines)) ∷ runs_of (n + front_length (line ∷ lines)) (drop (front_length (line ∷ lines)) (line ∷ lines))
runs_cons n line [] full =
    let one : front_length (line ∷ []) ≡ 1 = front_full line [] full ∙ ap (λ (k : ℕ). suc k) front_none in
    rw one (runs_one n line [] full refl)
runs_cons n line (next ∷ lines) full =
    elim (cases_Bool (is_blank_line next)) [
      | inl empty ↦
          let one : front_length (line ∷ next ∷ lines) ≡ 1 = front_full line (next ∷ lines) full ∙ ap (λ (k : ℕ). suc k) (front_empty next lines empty) in
          rw one (runs_one n line (next ∷ lines) full (rw empty refl))
      | inr more ↦
          let rest = front_length (next ∷ lines) in
          let count : front_length (line ∷ next ∷ lines) ≡ suc rest = front_full line (next ∷ lines) full in
          let later = runs_cons (n + 1) next lines more in
          let moved : n + 1 + rest ≡ n + suc rest = omega arith in
          let whole : runs_of n (line ∷ next ∷ lines) ≡ run_from n (line ∷ take rest (next ∷ lines)) ∷ runs_of (n + 1 + rest) (drop rest (next ∷ lines)) = runs_onto n line (next ∷ lines) full (rw more refl) ∙ ap (onto_run n line) later in
          rw count (whole ∙ ap (λ (k : ℕ). run_from n (line ∷ take rest (next ∷ lines)) ∷ runs_of k (drop rest (next ∷ lines))) moved)
    ]

-- ---- readings

pub readings_more : (season : Term) (lines : List (List ℕ)) (readings : List Reading) (line : List ℕ) (reading : Reading) → AreReadings season lines readings → IsRowReading season line reading → AreReadings season (lines ++ line ∷ []) (readings ++ reading ∷ [])
readings_more season [] [] line reading are is = (is, tt)
readings_more season [] (r ∷ readings) line reading are is = absurd are
readings_more season (l ∷ lines) [] line reading are is = absurd are
readings_more season (l ∷ lines) (r ∷ readings) line reading are is = (are.0, readings_more season lines readings line reading are.1 is)

pub rows_more : (season : Term) (lines : List (Bor (List ℕ))) (i : ℕ) (d : Bor (List ℕ)) (rows more : List Reading) (reading : Reading) → i < length lines → more ≡ rows ++ reading ∷ [] → IsRowReading season (get_or lines i d).now reading → AreReadings season (texts_in (take i lines)) rows
    → AreReadings season (texts_in (take (i + 1) lines)) more
rows_more season lines i d rows more reading lt put is are =
    let same : texts_in (take (i + 1) lines) ≡ texts_in (take i lines) ++ (get_or lines i d).now ∷ [] = ap texts_in (take_more lines i d lt) ∙ map-append text_in (take i lines) (get_or lines i d ∷ []) in
    rw (same, put) (readings_more season (texts_in (take i lines)) rows (get_or lines i d).now reading are is)

pub lines_end : (texts : List (List ℕ)) (rest : List ℕ) (whole : List (List ℕ)) → rest ≡ [] → texts ++ lines_of rest ≡ whole → texts ≡ whole
unfolding lines_of
lines_end texts rest whole none so_far =
    let last : texts ++ lines_of [] ≡ whole = subst (λ (r : List ℕ). texts ++ lines_of r ≡ whole) none so_far in
    sym (append-nil texts) ∙ last
