use Rattle.std.proofs.Common.{◌≡◌, ◌∙◌, sym, length}
use Rattle.capacity_windows.specs.Windows.{window_limit}
use Rattle.capacity_windows.proofs.LimitLemmas.{next_limit, night_limit}
use Rattle.capacity_windows.proofs.windows.Windows.push_night.Goals as goal

pub returns-clause-limits : goal.returns-clause-limits
returns-clause-limits c =
    let self = c.args.self.now in
    let limits = c.args.limits.now.items in
    let same : window_limit self (length limits) ≡ c.in-Some.night.limit = night_limit self (length limits) c.in-Some.night c.requires.windows (sym c.quota.ensures ∙ c.in-Some.is) in
    rw c.in_ok-push.ensures.items (next_limit self limits _ c.requires.before same)
