use Rattle.std.proofs.Common.{◌≡◌, ℕ, List, get_or, ap, ◌∙◌, arith}
use Rattle.schedule_text.specs.Days.{place_of_day}
use Rattle.schedule_text.specs.Bits.{bit_of_place}
use Rattle.schedule_text.proofs.DayLemmas.{bits_again}
use Rattle.schedule_text.proofs.days.bits_of.Goals as goal

pub returns-clause-only : goal.returns-clause-only
returns-clause-only c = λ days lt e.
    let at = λ (k : ℕ). ap (λ (l : List ℕ). bit_of_place (get_or l k 0)) e in
    let b1 : c.bit.result ≡ bit_of_place (place_of_day days 1) = c.bit.ensures.value ∙ at 0 in
    let b2 : c.bit-2.result ≡ bit_of_place (place_of_day days 2) = c.bit-2.ensures.value ∙ at 1 in
    let b3 : c.bit-3.result ≡ bit_of_place (place_of_day days 3) = c.bit-3.ensures.value ∙ at 2 in
    let b4 : c.bit-4.result ≡ bit_of_place (place_of_day days 4) = c.bit-4.ensures.value ∙ at 3 in
    let b5 : c.bit-5.result ≡ bit_of_place (place_of_day days 5) = c.bit-5.ensures.value ∙ at 4 in
    let b6 : c.bit-6.result ≡ bit_of_place (place_of_day days 6) = c.bit-6.ensures.value ∙ at 5 in
    let b7 : c.bit-7.result ≡ bit_of_place (place_of_day days 7) = c.bit-7.ensures.value ∙ at 6 in
    rw (b1, b2, b3, b4, b5, b6, b7) (bits_again days lt)

pub returns-clause-week : goal.returns-clause-week
returns-clause-week c = omega arith

pub overflow_mul-days : goal.overflow_mul-days
overflow_mul-days c = omega arith

pub overflow_add-days : goal.overflow_add-days
overflow_add-days c = omega arith

pub overflow_mul-days-2 : goal.overflow_mul-days-2
overflow_mul-days-2 c = omega arith

pub overflow_add-days-2 : goal.overflow_add-days-2
overflow_add-days-2 c = omega arith

pub overflow_mul-days-3 : goal.overflow_mul-days-3
overflow_mul-days-3 c = omega arith

pub overflow_add-days-3 : goal.overflow_add-days-3
overflow_add-days-3 c = omega arith

pub overflow_mul-days-4 : goal.overflow_mul-days-4
overflow_mul-days-4 c = omega arith

pub overflow_add-days-4 : goal.overflow_add-days-4
overflow_add-days-4 c = omega arith

pub overflow_mul-days-5 : goal.overflow_mul-days-5
overflow_mul-days-5 c = omega arith

pub overflow_add-days-5 : goal.overflow_add-days-5
overflow_add-days-5 c = omega arith

pub overflow_mul-days-6 : goal.overflow_mul-days-6
overflow_mul-days-6 c = omega arith

pub overflow_add-days-6 : goal.overflow_add-days-6
overflow_add-days-6 c = omega arith
