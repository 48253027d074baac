use Rattle.window_counts.proofs.CountLemmas.{run-used}
use Rattle.window_counts.proofs.fitting.strip_fits.Goals as goal

pub returns-then-not-run_fits : goal.returns-then-not-run_fits
returns-then-not-run_fits c =
    let s = c.args.strip.now in
    let ensured = rw (c.run-start.ensures.start, c.run-start.ensures.end) at c.if-not-run_fits.ensures in
    (λ t. absurd (cc t), λ h. ensured.1 (λ r from to. h r (run-used s c.loop-i.i r c.loop-i-test.true from to)))
