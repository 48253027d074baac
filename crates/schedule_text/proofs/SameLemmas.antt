-- A text names one time of the day, one set of weekdays and one kind of movements.
use Rattle.std.proofs.Common.{◌≡◌, ℕ, ◌+◌, ◌*◌, ◌/◌, ◌%◌, ◌<◌, List, length, get_or, eqb, cond, refl, sym, ap, ◌∙◌, arith, inl, inr}
use Rattle.schedule_text.specs.Days.{days_text, IsDays}
use Rattle.schedule_text.specs.Bits.{bit_of_place, digit_bits}
use Rattle.schedule_text.specs.Times.{time_text}
use Rattle.season_days.specs.declared.declaration.Kind.{Kind}
use Rattle.season_days.specs.declared.declaration.Kind.TheVariants.{Arr, Dep, Tot}
use Rattle.schedule_text.specs.Kinds.{kind_text}
use Rattle.schedule_text.proofs.DayLemmas.{bits_again, rising_again}

pub time_same : (a b : ℕ) → a < 1440 → b < 1440 → time_text a ≡ time_text b → a ≡ b
time_same a b x y e =
    let hour_tens : 48 + a / 60 / 10 % 10 ≡ 48 + b / 60 / 10 % 10 = ap (λ (l : List ℕ). get_or l 0 0) e in
    let hour_ones : 48 + a / 60 % 10 ≡ 48 + b / 60 % 10 = ap (λ (l : List ℕ). get_or l 1 0) e in
    let tens : 48 + a % 60 / 10 % 10 ≡ 48 + b % 60 / 10 % 10 = ap (λ (l : List ℕ). get_or l 2 0) e in
    let ones : 48 + a % 60 % 10 ≡ 48 + b % 60 % 10 = ap (λ (l : List ℕ). get_or l 3 0) e in
    omega arith

place_bits : List ℕ → ℕ
place_bits text =
    bit_of_place (get_or text 0 0) + 2 * bit_of_place (get_or text 1 0) + 4 * bit_of_place (get_or text 2 0) + 8 * bit_of_place (get_or text 3 0) + 16 * bit_of_place (get_or text 4 0)
    + 32 * bit_of_place (get_or text 5 0) + 64 * bit_of_place (get_or text 6 0)

placed_again : (days : ℕ) → days < 128 → place_bits (days_text days) ≡ days
unfolding place_bits
placed_again days lt = bits_again days lt

pub days_same : (text : List ℕ) (a b : ℕ) → IsDays text a → IsDays text b → a ≡ b
days_same text a b x y =
    elim (x.spelled) [
      | inl placed ↦ elim (y.spelled) [
        | inl other ↦ sym (placed_again a x.week) ∙ ap place_bits (sym placed ∙ other) ∙ placed_again b y.week
        | inr rising ↦ absurd (let seven : length text ≡ 7 = ap length placed in omega (arith, rising.2))
      ]
      | inr rising ↦ elim (y.spelled) [
        | inl placed ↦ absurd (let seven : length text ≡ 7 = ap length placed in omega (arith, rising.2))
        | inr other ↦
            sym (rising_again a x.week (omega (arith, rising.2, ap length rising.0))) ∙ ap digit_bits (sym rising.0 ∙ other.0) ∙ rising_again b y.week (omega (arith, other.2, ap length other.0))
      ]
    ]

kind_from : List ℕ → Kind
kind_from text = cond (eqb (get_or text 0 0) 65) Arr (cond (eqb (get_or text 0 0) 68) Dep Tot)

kind_again : (kind : Kind) → kind_from (kind_text kind) ≡ kind
unfolding kind_from
kind_again Arr = refl
kind_again Dep = refl
kind_again Tot = refl

pub kind_same : (a b : Kind) → kind_text a ≡ kind_text b → a ≡ b
kind_same a b e = sym (kind_again a) ∙ ap kind_from e ∙ kind_again b
