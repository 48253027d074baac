use Rattle.std.proofs.Common.{◌+◌, ◌*◌, ◌/◌, ◌∙◌, sym, arith}
use Rattle.left_counts.proofs.BitLemmas.{mark_in_word}
use Rattle.left_counts.proofs.words.are_clear_across.Goals as goal

pub returns-then-not-has_none : goal.returns-then-not-has_none
returns-then-not-has_none c =
    let at = c.loop-at.at in
    let from = c.loop-at.invariant.from in (
      λ t. absurd (cc t),
      λ h. c.if-not-has_none.ensures.1 (λ i low high.
          sym (mark_in_word c.args.words.now at i (omega (arith, high, c.min-count.ensures)))
          ∙ h (at / 64 * 64 + i) (omega (arith, from, low)) (omega (arith, high, c.min-count.ensures, c.loop-at-test.true))),
    )
