-- Bits of a set of weekdays, as its readers make them. Private contracts alone cite these.
use Rattle.std.specs.Prelude.{ℕ, ◌+◌, ◌==◌, if◌then◌else◌, List, slice_index_or}

-- the bit that a place shows
abbrev pub bit_of_place : ℕ → ℕ
bit_of_place place = if place == 48 then 0 else 1

-- the bit of a weekday's digit
abbrev pub digit_bit : ℕ → ℕ
digit_bit b =
    if b == 49 then 1 else (if b == 50 then 2
    else (if b == 51 then 4
    else (if b == 52 then 8
    else (if b == 53 then 16 else (if b == 54 then 32 else (if b == 55 then 64 else 0))))))

abbrev pub digit_bits : List ℕ → ℕ
digit_bits text =
    digit_bit (slice_index_or text 0 0) + digit_bit (slice_index_or text 1 0)
    + digit_bit (slice_index_or text 2 0) + digit_bit (slice_index_or text 3 0)
    + digit_bit (slice_index_or text 4 0) + digit_bit (slice_index_or text 5 0)
