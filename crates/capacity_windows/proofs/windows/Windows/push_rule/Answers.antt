use Rattle.std.proofs.Common.{◌≡◌, ◌+◌, ◌*◌, ℕ, ap, ◌∙◌, sym, arith, length, refl}
use Rattle.capacity_windows.specs.Windows.{starts_of}
use Rattle.capacity_windows.proofs.LimitLemmas.{day_limits}
use Rattle.capacity_windows.proofs.windows.Windows.push_rule.Goals as goal

pub push_day-requires-clause-same : goal.push_day-requires-clause-same
push_day-requires-clause-same c = λ start lt.
    let first = length c.args.limits.now.items in
    let starts : c.starts_of-starts.result ≡ starts_of c.args.self.now.step c.args.rule.now = c.starts_of-starts.ensures.value in
    let now : length c.loop-day.limits.items ≡ first + c.loop-day.day * starts_of c.args.self.now.step c.args.rule.now =
    c.loop-day.invariant.count ∙ ap (λ (n : ℕ). first + c.loop-day.day * n) starts in
    day_limits c.args.self.now c.args.rule.now first c.loop-day.day (starts_of c.args.self.now.step c.args.rule.now) (length c.loop-day.limits.items) start _ c.requires.windows (omega arith) (omega arith) now refl
    ∙ sym c.day_limit-limit.ensures
