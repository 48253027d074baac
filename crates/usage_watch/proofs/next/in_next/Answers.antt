use Rattle.std.proofs.Common.{◌≡◌, ℕ, ◌-◌, ◌∙◌, min, ap, true, false, rules}
use Rattle.usage_watch.proofs.NextLemmas.{no_next_line, one_next_line}
use Rattle.usage_watch.proofs.next.in_next.Goals as goal

pub returns-then-not-has_dates : goal.returns-then-not-has_dates
returns-then-not-has_dates c =
    let fails : c.has_dates.result ≡ false = search rules in
    no_next_line c.args.next.now c.args.line.now c.args.days c.min.result c.has_dates.result (c.min.ensures ∙ ap (λ (k : ℕ). min c.args.line.now.period.last.0 (k - 1)) c.length-last.ensures.exact) c.has_dates.ensures fails

pub returns : goal.returns
returns c =
    let holds : c.has_dates.result ≡ true = search rules in
    one_next_line c.args.next.now c.args.line.now c.args.days c.min.result c.has_dates.result (c.min.ensures ∙ ap (λ (k : ℕ). min c.args.line.now.period.last.0 (k - 1)) c.length-last.ensures.exact) c.has_dates.ensures holds
