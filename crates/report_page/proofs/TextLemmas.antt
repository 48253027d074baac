-- What is shown of a text, and digits: printed ASCII without the bytes of markup.
use Rattle.std.specs.Prelude.{nat_le}
use Rattle.std.proofs.Common.{◌≡◌, ◌≢◌, ℕ, ◌+◌, ◌%◌, ◌^◌, ◌<◌, ◌≤◌, Bool, true, not, eqb, ◌&&◌, List, [], ◌∷◌, ◌++◌, refl, codes, arith, inl, inr}
use Rattle.std.specs.Fmt.{decimal}
use Rattle.std.proofs.lemmas.Fmt.{decimal_by_steps}
use Rattle.std.proofs.lemmas.Bool.{cases_Bool, ne_eqb, eqb-false, leb-true, not-true, and_parts}
use Rattle.report_page.specs.Filled.{shown_byte, escaped, next_number, number_from, minute_of}
use Rattle.report_page.specs.Laws.{IsPlain}

pub IsPlain-append : (a b : List ℕ) → IsPlain a → IsPlain b → IsPlain (a ++ b)
IsPlain-append [] b x y = y
IsPlain-append (c ∷ a) b x y = (x.0, x.1, x.2, x.3, x.4, x.5, IsPlain-append a b x.6 y)

-- one printed byte that markup does not use
plain_byte : (b : ℕ) → 32 ≤ b → b ≤ 126 → b ≢ 60 → b ≢ 62 → b ≢ 34 → b ≢ 39 → IsPlain (b ∷ [])
plain_byte b low high lt gt quote tick = (low, high, lt, gt, quote, tick, tt)

-- a text by a test
abbrev plain_test : ℕ → Bool
plain_test b =
    (nat_le 32 b && nat_le b 126) && ((not (eqb b 60) && not (eqb b 62)) && (not (eqb b 34) && not (eqb b 39)))

abbrev is_plain : List ℕ → Bool
is_plain [] = true
is_plain (b ∷ text) = plain_test b && is_plain text

not_equal : (b n : ℕ) → not (eqb b n) ≡ true → b ≢ n
not_equal b n h = eqb-false b n (not-true (eqb b n) h)

plain_by_test : (text : List ℕ) → is_plain text ≡ true → IsPlain text
plain_by_test [] h = tt
plain_by_test (b ∷ text) h =
    let parts = and_parts (plain_test b) (is_plain text) h in
    let all = and_parts (nat_le 32 b && nat_le b 126) ((not (eqb b 60) && not (eqb b 62)) && (not (eqb b 34) && not (eqb b 39))) parts.0 in
    let printed = and_parts (nat_le 32 b) (nat_le b 126) all.0 in
    let four = and_parts (not (eqb b 60) && not (eqb b 62)) (not (eqb b 34) && not (eqb b 39)) all.1 in
    let tags = and_parts (not (eqb b 60)) (not (eqb b 62)) four.0 in
    let quotes = and_parts (not (eqb b 34)) (not (eqb b 39)) four.1 in
    (leb-true 32 b printed.0, leb-true b 126 printed.1, not_equal b 60 tags.0, not_equal b 62 tags.1, not_equal b 34 quotes.0, not_equal b 39 quotes.1, plain_by_test text parts.1)

shown_last : (b : ℕ) → b ≢ 38 → b ≢ 60 → b ≢ 62 → b ≢ 34 → b ≢ 39 → IsPlain (shown_byte b)
shown_last b amp lt gt quote tick =
    rw (ne_eqb b 38 amp, ne_eqb b 60 lt, ne_eqb b 62 gt, ne_eqb b 34 quote, ne_eqb b 39 tick)
    (elim (cases_Bool (nat_le 32 b && nat_le b 126)) [
      | inl printed ↦ rw printed (plain_byte b (leb-true 32 b (and_parts _ _ printed).0) (leb-true b 126 (and_parts _ _ printed).1) lt gt quote tick)
      | inr not_printed ↦ rw not_printed (plain_by_test (codes "?") refl)
    ])

pub shown_plain : (b : ℕ) → IsPlain (shown_byte b)
shown_plain b =
    elim (cases_Bool (eqb b 38)) [
      | inl amp ↦ rw amp (plain_by_test (codes "&amp;") refl)
      | inr no_amp ↦ elim (cases_Bool (eqb b 60)) [
        | inl lt ↦ rw (no_amp, lt) (plain_by_test (codes "&lt;") refl)
        | inr no_lt ↦ elim (cases_Bool (eqb b 62)) [
          | inl gt ↦ rw (no_amp, no_lt, gt) (plain_by_test (codes "&gt;") refl)
          | inr no_gt ↦ elim (cases_Bool (eqb b 34)) [
            | inl quote ↦ rw (no_amp, no_lt, no_gt, quote) (plain_by_test (codes "&quot;") refl)
            | inr no_quote ↦ elim (cases_Bool (eqb b 39)) [
              | inl tick ↦ rw (no_amp, no_lt, no_gt, no_quote, tick) (plain_by_test (codes "&#39;") refl)
              | inr no_tick ↦ shown_last b (eqb-false b 38 no_amp) (eqb-false b 60 no_lt) (eqb-false b 62 no_gt) (eqb-false b 34 no_quote) (eqb-false b 39 no_tick)
            ]
          ]
        ]
      ]
    ]

pub escaped_plain : (text : List ℕ) → IsPlain (escaped text)
escaped_plain [] = tt
escaped_plain (b ∷ text) = IsPlain-append (shown_byte b) (escaped text) (shown_plain b) (escaped_plain text)

-- ---- digits

pub number_small : (number : ℕ) (digits : List ℕ) → number < 2 ^ 64 → number_from number digits < 2 ^ 64
number_small number [] small = small
number_small number (digit ∷ digits) small = number_small (next_number number digit) digits (omega arith)

pub minute_small : (word : List ℕ) → minute_of word < 2 ^ 64
minute_small word = let small = number_small 0 word (omega arith) in omega (arith, small)

pub decimal_plain : (n : ℕ) → n < 2 ^ 64 → IsPlain (decimal n)
decimal_plain n small =
    decimal_by_steps (λ (n : ℕ) (digits : List ℕ). n < 2 ^ 64 → IsPlain digits)
    (λ n lt _. plain_byte (48 + n) (omega arith) (omega arith) (omega arith) (omega arith) (omega arith) (omega arith))
    (λ n digits ge shorter fits. IsPlain-append digits ((48 + n % 10) ∷ []) (shorter (omega arith))
    (plain_byte (48 + n % 10) (omega arith) (omega arith) (omega arith) (omega arith) (omega arith) (omega arith)))
    n small small
