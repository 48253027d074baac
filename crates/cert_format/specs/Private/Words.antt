-- What words spell.
use Rattle.std.specs.Prelude.{ℕ, ◌==◌, ◌-◌, ◌&&◌, if◌then◌else◌, nat_le, Bool, true, false, List, [], ◌∷◌, Option, Some, None, option_and_then, codes, ℤ, pos, negsuc}
use Rattle.std.specs.Fmt.{decimal}
use Rattle.std.specs.Str.{bytes_eq}
use Rattle.std.specs.Str.Parse.{digits_value}
use Rattle.cert_format.specs.Lines.{Word}

infixl 10 ◌>>=◌
abbrev pub ◌>>=◌ : {A B : Type 0} → Option A → (A → Option B) → Option B
o >>= f = option_and_then f o

-- the number up to `most` that a word spells in decimal digits, with no zero in front
unfoldable pub number_of : ℕ → Word → Option ℕ
number_of most w =
    if bytes_eq w (decimal (digits_value 10 w)) && nat_le (digits_value 10 w) most then Some
    (digits_value 10 w) else None

abbrev pub most_small : ℕ
most_small = 4294967295

abbrev pub most_large : ℕ
most_large = 18446744073709551615

-- a number, or `-` for none
unfoldable pub seen_of : Word → Option (Option ℕ)
seen_of w =
    if bytes_eq w (codes "-") then Some None else option_and_then (λ n. Some (Some n))
    (number_of most_large w)

-- a `-` is in front of the digits of a number below 0
unfoldable pub price_of : Word → Option ℤ
price_of [] = None
price_of (b ∷ w) =
    if b == 45 then option_and_then (λ n. if n == 0 then None else Some (negsuc (n - 1)))
    (number_of 9223372036854775808 w)
    else option_and_then (λ n. Some (pos n)) (number_of 9223372036854775807 (b ∷ w))

-- the words after a word that is this one
unfoldable pub after_tag : Word → List Word → Option (List Word)
after_tag tag [] = None
after_tag tag (w ∷ ws) = if bytes_eq w tag then Some ws else None

-- what the next word spells, and the words after it
unfoldable pub next_by : {A : Type 0} → (Word → Option A) → List Word → Option (A × List Word)
next_by f [] = None
next_by f (w ∷ ws) = option_and_then (λ x. Some (x, ws)) (f w)

abbrev pub is_end : List Word → Bool
is_end [] = true
is_end (w ∷ ws) = false

-- `NONE`, or a number of 32 bits
unfoldable pub choices_word : Word → Option (Option ℕ)
choices_word w =
    if bytes_eq w (codes "NONE") then Some None else option_and_then (λ n. Some (Some n))
    (number_of most_small w)
