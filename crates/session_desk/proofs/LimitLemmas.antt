-- Whether the message under way breaks a limit.
use Rattle.std.proofs.Common.{◌≡◌, ℕ, ◌+◌, ◌≤◌, Bool, true, false, ◌||◌, eqb, ltb, List, [], ◌∷◌, ◌++◌, length, take, refl, sym, ap, ◌∙◌, length-append, inl, inr, arith, min, if◌then◌else◌}
use Rattle.std.proofs.lemmas.Bool.{cases_Bool, or_parts, eqb-true, ltb-false, lt-ltb, le-ltb, eq-eqb, ne_eqb, cases_lt, cases_eq}
use Rattle.std.proofs.lemmas.List.{length-take}
use Rattle.slot_text.specs.Fields.{is_blank_line}
use Rattle.scr_reader.specs.Cuts.{some_passes}
use Rattle.scr_reader.specs.Streams.{without_last_cr, one_message, message_under_way, is_too_long, breaks_limit}
use Rattle.session_desk.proofs.LineLemmas.{cr_left, byte_left}

pub some_append : {X : Type 0} (p : X → Bool) (xs ys : List X) → some_passes p (xs ++ ys) ≡ (some_passes p xs || some_passes p ys)
some_append p [] ys = refl
some_append p (y ∷ xs) ys =
    let ih = some_append p xs ys in
    elim (cases_Bool (p y)) [
      | inl t ↦ rw t refl
      | inr f ↦ rw f ih
    ]

or_nothing : (b : Bool) → (b || false) ≡ b
or_nothing true = refl
or_nothing false = refl

min_long : (n : ℕ) → ltb 200 (min 201 n) ≡ ltb 200 n
min_long n = elim (cases_lt 200 n) [
  | inl lt ↦ lt-ltb 200 (min 201 n) (omega arith) ∙ sym (lt-ltb 200 n lt)
  | inr le ↦ le-ltb 200 (min 201 n) (omega arith) ∙ sym (le-ltb 200 n le)
]

min_longer : (n : ℕ) → ltb 200 (min 201 n + 1) ≡ ltb 200 (n + 1)
min_longer n = elim (cases_lt 200 (n + 1)) [
  | inl lt ↦ lt-ltb 200 (min 201 n + 1) (omega arith) ∙ sym (lt-ltb 200 (n + 1) lt)
  | inr le ↦ le-ltb 200 (min 201 n + 1) (omega arith) ∙ sym (le-ltb 200 (n + 1) le)
]

-- whether a line is too long, by its first 201 bytes
pub long_now : (o : List ℕ) → ltb 200 (length (take 201 o)) ≡ is_too_long o
long_now o = ap (ltb 200) (length-take 201 o) ∙ min_long (length o)

-- and once another byte follows
pub long_after : (o : List ℕ) (b : ℕ) → ltb 200 (if eqb b 13 then length (take 201 o) else length (take 201 o) + 1) ≡ is_too_long (without_last_cr (o ++ b ∷ []))
long_after o b =
    elim (cases_Bool (eqb b 13)) [
      | inl t ↦
          let e : b ≡ 13 = eqb-true b 13 t in
          rw (e, cr_left o, length-take 201 o) (min_long (length o))
      | inr f ↦ rw (f, byte_left o b f, length-take 201 o) (min_longer (length o) ∙ ap (ltb 200) (sym (length-append o (b ∷ []))))
    ]

-- whether one of the lines is the 1,001st, when one more comes
count_after : (ls : List (List ℕ)) (line : List ℕ) → length ls ≤ 1000 → ltb 1000 (length (ls ++ line ∷ [])) ≡ eqb (length ls) 1000
count_after ls line few =
    let grown : length (ls ++ line ∷ []) ≡ length ls + 1 = length-append ls (line ∷ []) in
    elim (cases_eq (length ls) 1000) [
      | inl all ↦ lt-ltb 1000 (length (ls ++ line ∷ [])) (omega arith) ∙ sym (eq-eqb (length ls) 1000 all)
      | inr some ↦ le-ltb 1000 (length (ls ++ line ∷ [])) (omega arith) ∙ sym (ne_eqb (length ls) 1000 some)
    ]

-- lines of a message that breaks no limit
pub one_fine : (ls : List (List ℕ)) → some_passes breaks_limit (one_message ls) ≡ false → (some_passes is_too_long ls ≡ false) × (length ls ≤ 1000)
one_fine [] none = (refl, omega arith)
one_fine (l ∷ ls) none =
    let both = or_parts (some_passes is_too_long (l ∷ ls)) (ltb 1000 (length (l ∷ ls))) (or_parts (breaks_limit (l ∷ ls)) false none).0 in
    (both.0, ltb-false 1000 (length (l ∷ ls)) both.1)

one_of_more : (ls : List (List ℕ)) (line : List ℕ) → some_passes breaks_limit (one_message (ls ++ line ∷ [])) ≡ breaks_limit (ls ++ line ∷ [])
one_of_more [] line = or_nothing (breaks_limit (line ∷ []))
one_of_more (l ∷ ls) line = or_nothing (breaks_limit (l ∷ (ls ++ line ∷ [])))

pub under_blank : (ls : List (List ℕ)) (line : List ℕ) → is_blank_line line ≡ true → message_under_way ls line ≡ one_message ls
under_blank ls line blank = rw blank refl

pub under_full : (ls : List (List ℕ)) (line : List ℕ) → is_blank_line line ≡ false → message_under_way ls line ≡ one_message (ls ++ line ∷ [])
under_full ls line full = rw full refl

-- the line before it is short, and so are those before that
pub last_fine : (ls : List (List ℕ)) (line : List ℕ) → some_passes breaks_limit (one_message (ls ++ line ∷ [])) ≡ false
    → (some_passes is_too_long ls ≡ false) × (is_too_long line ≡ false) × (length ls + 1 ≤ 1000)
last_fine ls line none =
    let fine = one_fine (ls ++ line ∷ []) none in
    let parts = or_parts (some_passes is_too_long ls) (some_passes is_too_long (line ∷ [])) (sym (some_append is_too_long ls (line ∷ [])) ∙ fine.0) in
    (parts.0, (or_parts (is_too_long line) false parts.1).0, omega (arith, fine.1, length-append ls (line ∷ [])))

-- the whole lines of a message under way that breaks no limit
pub open_fine : (ls : List (List ℕ)) (line : List ℕ) → some_passes breaks_limit (message_under_way ls line) ≡ false → (some_passes is_too_long ls ≡ false) × (length ls ≤ 1000)
open_fine ls line none =
    elim (cases_Bool (is_blank_line line)) [
      | inl blank ↦ one_fine ls (sym (ap (some_passes breaks_limit) (under_blank ls line blank)) ∙ none)
      | inr full ↦
          let fine = last_fine ls line (sym (ap (some_passes breaks_limit) (under_full ls line full)) ∙ none) in
          (fine.0, omega (arith, fine.2))
    ]

-- the limits of a message whose open line has a byte that is not blank
pub open_breaks : (ls : List (List ℕ)) (line : List ℕ) → some_passes is_too_long ls ≡ false → length ls ≤ 1000 → is_blank_line line ≡ false
    → some_passes breaks_limit (message_under_way ls line) ≡ (is_too_long line || eqb (length ls) 1000)
open_breaks ls line short few full =
    ap (some_passes breaks_limit) (under_full ls line full)
    ∙ one_of_more ls line
    ∙ rw (some_append is_too_long ls (line ∷ []), short, count_after ls line few)
    (ap (λ (b : Bool). b || eqb (length ls) 1000) (or_nothing (is_too_long line)))
