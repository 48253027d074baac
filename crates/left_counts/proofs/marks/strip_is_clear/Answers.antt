use Rattle.left_counts.proofs.RunLemmas.{run_used}
use Rattle.left_counts.proofs.marks.strip_is_clear.Goals as goal

pub returns-then-not-are_clear : goal.returns-then-not-are_clear
returns-then-not-are_clear c =
    let s = c.args.strip.now in
    let ensured = rw (c.run-start.ensures.start, c.run-start.ensures.end) at c.if-not-are_clear.ensures in
    (λ t. absurd (cc t), λ h. ensured.1 (λ r from to. h r (run_used s c.loop-i.i r c.loop-i-test.true from to)))
