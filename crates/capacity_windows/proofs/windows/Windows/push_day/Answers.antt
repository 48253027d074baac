use Rattle.std.proofs.Common.{◌≡◌, ◌+◌, refl, arith, length, rules}
use Rattle.capacity_windows.proofs.LimitLemmas.{equal_limits}
use Rattle.capacity_windows.proofs.windows.Windows.push_day.Goals as goal

pub returns-clause-limits : goal.returns-clause-limits
returns-clause-limits c =
    let old = c.args.limits.now.items in
    let new = c.resize.new.self.items in
    let starts = c.args.starts in
    let by = c.in_ok-resize.ensures.by_index in
    let long : length new ≡ length old + starts = search rules in
    equal_limits c.args.self.now old new starts _ c.requires.before long
    (λ k d all lt. by.0 k d (omega (arith, all, c.len.ensures)) (omega (arith, lt, c.len.ensures)))
    (λ k d le lt. by.1 k d refl (omega (arith, le, c.len.ensures)) (omega (arith, lt, c.len.ensures)))
    c.requires.same
