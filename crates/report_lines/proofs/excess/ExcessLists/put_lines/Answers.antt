use Rattle.std.proofs.Common.{ℕ, ◌+◌, refl, sym, ◌∙◌, ap, arith, ◌*◌, length, ◌≤◌}
use Rattle.season_days.specs.Seasons.{date_count}
use Rattle.season_days.specs.Capacity.{Capacity}
use Rattle.report_lines.proofs.WindowLemmas.{line_at, starts_at, next_at, first_end}
use Rattle.report_lines.proofs.AboveLemmas.{excess_next, excess_end}
use Rattle.report_lines.proofs.excess.ExcessLists.put_lines.Goals as goal

pub loop-rule-init : goal.loop-rule-init
loop-rule-init c = record { first = refl; text = λ e are. refl }

pub put_rule-requires-clause-of : goal.put_rule-requires-clause-of
put_rule-requires-clause-of c =
    let k = c.args.windows.now in
    let same = c.items-rules.ensures ∙ ap (λ (q : Capacity). q.rules) (sym c.requires.windows) in
    line_at c.items-rules.result.now k.rules c.loop-rule.rule _ same (omega (arith, c.loop-rule-test.true, c.lines-rule-end.ensures.count))

pub loop-rule-preserved : goal.loop-rule-preserved
loop-rule-preserved c =
    let k = c.args.windows.now in
    let rule = c.loop-rule.rule in
    let same = c.items-rules.ensures ∙ ap (λ (q : Capacity). q.rules) (sym c.requires.windows) in
    let at = line_at c.items-rules.result.now k.rules rule _ same (omega (arith, c.loop-rule-test.true, c.lines-rule-end.ensures.count)) in
    let starts = starts_at k.rules rule _ k.step c.starts.result at c.starts.ensures.starts in
    let next = next_at k rule _ c.loop-rule.first c.starts.result c.days.result at c.loop-rule.invariant.first starts c.days.ensures.value in
    let size = ap (λ (n : ℕ). c.loop-rule.first + n) (ap (λ (n : ℕ). n * c.starts.result) c.days.ensures.value ∙ ap (λ (n : ℕ). date_count k.season * n) starts) in
    record {
      first = next.0;
      text = λ e are. excess_next k e rule c.loop-rule.first _ _ c.loop-rule.out.items c.put_rule.new.out.items _ at size (c.in_ok-put_rule.ensures e are) (c.loop-rule.invariant.text e are);
    }

pub returns : goal.returns
returns c = λ e are.
    let k = c.args.windows.now in
    let past : length k.rules ≤ c.loop-rule.rule = omega (arith, c.loop-rule-test.false, c.lines-rule-end.ensures.count) in
    excess_end k e c.loop-rule.rule c.loop-rule.first c.loop-rule.out.items c.put_quota.new.out.items _ past (c.loop-rule.invariant.first ∙ first_end k c.loop-rule.rule past) (c.in_ok-put_quota.ensures e are) (c.loop-rule.invariant.text e are)
