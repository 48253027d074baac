use Rattle.std.proofs.lemmas.Bool.{false≢true}
use Rattle.std.proofs.Common.{◌≡◌, ℕ, Some, length, sym, ap, ◌∙◌, arith}
use Rattle.schedule_text.specs.Days.{rising_text}
use Rattle.schedule_text.specs.Bits.{digit_bits}
use Rattle.schedule_text.proofs.DayLemmas.{rising_again}
use Rattle.schedule_text.proofs.days.read_rising.Goals as goal

pub returns-then-is_rising-clause-only : goal.returns-then-is_rising-clause-only
returns-then-is_rising-clause-only c = λ days lt e one six.
    let again : c.sum_bits-days.result ≡ days = c.sum_bits-days.ensures ∙ ap digit_bits e ∙ rising_again days lt (omega (arith, six, ap length e)) in
    ap (λ (d : ℕ). Some d) again

pub returns-else-is_rising-clause-only : goal.returns-else-is_rising-clause-only
returns-else-is_rising-clause-only c = λ days lt e one six.
    let again : c.sum_bits-days.result ≡ days = c.sum_bits-days.ensures ∙ ap digit_bits e ∙ rising_again days lt (omega (arith, six, ap length e)) in
    absurd (false≢true (c.if-is_rising.ensures.1 (e ∙ ap rising_text (sym again))))
