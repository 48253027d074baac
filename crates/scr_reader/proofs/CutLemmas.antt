-- The fields of a line in an array, and read one at a time.
use Rattle.std.proofs.Common.{◌≡◌, ◌≢◌, ℕ, zero, suc, ◌+◌, ◌-◌, ◌<◌, ◌≤◌, List, [], ◌∷◌, ◌++◌, length, map, take, set, get_or, Some, None, Bor, refl, sym, ap, ◌∙◌, arith}
use Rattle.std.specs.Prelude.{slice_get}
use Rattle.std.proofs.lemmas.List.{length-map, length-take-le, map-append, take_at, take_all, take_more_set, append-nil}
use Rattle.std.proofs.Common.{append_assoc}
use Rattle.slot_text.specs.Fields.{field_at, fields_of}
use Rattle.scr_reader.specs.Private.Texts.{text_in, empty_fields}

read_at : (items : List (Bor (List ℕ))) (count k : ℕ) (d : Bor (List ℕ)) → k < count → k < length items → Some (get_or items k d).now ≡ slice_get (map text_in (take count items)) k
read_at [] count k d lt within = absurd (omega arith)
read_at (b ∷ items) zero k d lt within = absurd (omega arith)
read_at (b ∷ items) (suc count) zero d lt within = refl
read_at (b ∷ items) (suc count) (suc k) d lt within = read_at items count k d (omega arith) (omega arith)

pub get_field : (items : List (Bor (List ℕ))) (count n : ℕ) (d : Bor (List ℕ)) → n ≢ 0 → n ≤ count → count ≤ length items → Some (get_or items (n - 1) d).now ≡ field_at (map text_in (take count items)) n
get_field items count zero d some lt within = absurd (some refl)
get_field items count (suc n) d some lt within =
    let e : suc n - 1 ≡ n = omega arith in
    rw e (read_at items count n d (omega arith) (omega arith))

past_end : (fields : List (List ℕ)) (k : ℕ) → length fields ≤ k → slice_get fields k ≡ None
past_end [] k lt = refl
past_end (f ∷ fields) zero lt = absurd (omega arith)
past_end (f ∷ fields) (suc k) lt = past_end fields k (omega arith)

pub no_field : (items : List (Bor (List ℕ))) (count n : ℕ) → count < n → count ≤ length items → None ≡ field_at (map text_in (take count items)) n
no_field items count zero lt within = refl
no_field items count (suc n) lt within = sym (past_end (map text_in (take count items)) n (omega (arith, length-map (take count items) text_in, length-take-le count items within)))

-- a field more
pub cut_more : (items : List (Bor (List ℕ))) (n : ℕ) (field after : Bor (List ℕ)) (rest whole : List (List ℕ)) → n < length items → rest ≡ field.now ∷ fields_of after.now → map text_in (take n items) ++ rest ≡ whole
    → map text_in (take (n + 1) (set items n field)) ++ fields_of after.now ≡ whole
cut_more items n field after rest whole lt e so_far =
    rw (take_more_set items n field lt, map-append text_in (take n items) (field ∷ []), append_assoc) (ap (λ (l : List (List ℕ)). map text_in (take n items) ++ l) (sym e) ∙ so_far)

pub cut_all : (items : List (Bor (List ℕ))) (n : ℕ) (rest whole : List (List ℕ)) → n ≤ 9 → n ≤ length items → rest ≡ [] → map text_in (take n items) ++ rest ≡ whole → map text_in (take n items) ≡ take 9 whole
cut_all items n rest whole few within none so_far =
    let all : whole ≡ map text_in (take n items) = sym so_far ∙ ap (λ (l : List (List ℕ)). map text_in (take n items) ++ l) none ∙ append-nil _ in
    rw all (sym (take_all 9 (map text_in (take n items)) (omega (arith, length-map (take n items) text_in, length-take-le n items within))))

pub cut_nine : (items : List (Bor (List ℕ))) (rest whole : List (List ℕ)) → length items ≡ 9 → map text_in (take 9 items) ++ rest ≡ whole → map text_in (take 9 items) ≡ take 9 whole
cut_nine items rest whole nine so_far =
    rw (← so_far) (sym (take_at (map text_in (take 9 items)) rest 9 (length-map (take 9 items) text_in ∙ length-take-le 9 items (omega (arith, nine)))))

pub cut_none : (first : ℕ) (nothing : Bor (List ℕ)) (items : List (Bor (List ℕ))) (rest : List (List ℕ)) → first ≤ 1 → nothing.now ≡ [] → items ≡ nothing ∷ nothing ∷ nothing ∷ nothing ∷ nothing ∷ nothing ∷ nothing ∷ nothing ∷ nothing ∷ []
    → map text_in (take first items) ++ rest ≡ empty_fields first ++ rest
cut_none zero nothing items rest few none are = refl
cut_none (suc zero) nothing items rest few none are = rw (are, none) refl
cut_none (suc (suc first)) nothing items rest few none are = absurd (omega arith)
