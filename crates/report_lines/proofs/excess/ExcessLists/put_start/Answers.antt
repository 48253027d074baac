use Rattle.std.proofs.Common.{ℕ, ◌+◌, ◌*◌, ◌<◌, sym, ap, arith}
use Rattle.season_days.specs.Capacity.{Capacity, start_of}
use Rattle.report_lines.specs.declared.excess.Above.{Above}
use Rattle.report_lines.proofs.WindowLemmas.{from_some, starts_at, there_at}
use Rattle.report_lines.proofs.AboveLemmas.{above_at, above_line, above_none}
use Rattle.report_lines.proofs.excess.ExcessLists.put_start.Goals as goal

pub days_above-requires-clause-there : goal.days_above-requires-clause-there
days_above-requires-clause-there c =
    let k = c.args.windows.now in
    let starts = starts_at k.rules c.args.rule c.args.of k.step c.starts-starts.result c.requires.of c.starts-starts.ensures.starts in
    there_at k c.args.rule c.args.of c.args.first c.starts-starts.result c.args.start c.days.result _ c.requires.of c.requires.first starts c.requires.start c.days.ensures.value c.requires.count

pub put_above-requires-clause-there : goal.put_above-requires-clause-there
put_above-requires-clause-there c =
    let k = c.args.windows.now in
    let starts = starts_at k.rules c.args.rule c.args.of k.step c.starts-starts.result c.requires.of c.starts-starts.ensures.starts in
    there_at k c.args.rule c.args.of c.args.first c.starts-starts.result c.args.start c.days.result _ c.requires.of c.requires.first starts c.requires.start c.days.ensures.value c.requires.count c.in-Some.above.day (from_some c.days_above.result c.in-Some.above (λ (above : Above). above.day < c.days.result) c.in-Some.is c.days_above.ensures.day)

pub put_above-requires-clause-day : goal.put_above-requires-clause-day
put_above-requires-clause-day c =
    let season = ap (λ (q : Capacity). q.season) c.requires.windows in
    let below = from_some c.days_above.result c.in-Some.above (λ (above : Above). above.day < c.days.result) c.in-Some.is c.days_above.ensures.day in
    rw (← season) (omega (arith, below, c.days.ensures.value))

pub returns-in_ok-put_above-in-Some : goal.returns-in_ok-put_above-in-Some
returns-in_ok-put_above-in-Some c = λ e are.
    let k = c.args.windows.now in
    let season = ap (λ (q : Capacity). q.season) c.requires.windows in
    let step = ap (λ (q : Capacity). q.step) c.requires.windows in
    let starts = starts_at k.rules c.args.rule c.args.of k.step c.starts-starts.result c.requires.of c.starts-starts.ensures.starts in
    let above = above_at k c.args.of e c.days.result c.args.first c.starts-starts.result c.args.start c.days_above.result starts c.days.ensures.value (c.days_above.ensures.found e are) in
    let day = c.in-Some.above.day in
    let there = there_at k c.args.rule c.args.of c.args.first c.starts-starts.result c.args.start c.days.result _ c.requires.of c.requires.first starts c.requires.start c.days.ensures.value c.requires.count day (from_some c.days_above.result c.in-Some.above (λ (above : Above). above.day < c.days.result) c.in-Some.is c.days_above.ensures.day) in
    above_line k e c.args.self c.args.declaration.now.season (c.args.rule + 1) _ (c.args.first + day * c.starts-starts.result + c.args.start) c.args.of c.args.first c.args.start c.days_above.result c.in-Some.above c.args.out.now.items c.put_above.new.out.items are above c.in-Some.is (sym season)
    (ap (λ (s : ℕ). start_of s c.args.of c.args.start) (sym step)) (ap (λ (n : ℕ). c.args.first + day * n + c.args.start) starts) there c.in_ok-put_above-in-Some.ensures

pub returns-in-None : goal.returns-in-None
returns-in-None c = λ e are.
    let k = c.args.windows.now in
    let starts = starts_at k.rules c.args.rule c.args.of k.step c.starts-starts.result c.requires.of c.starts-starts.ensures.starts in
    let above = above_at k c.args.of e c.days.result c.args.first c.starts-starts.result c.args.start c.days_above.result starts c.days.ensures.value (c.days_above.ensures.found e are) in
    above_none k e (c.args.rule + 1) c.args.of c.args.first c.args.start c.days_above.result c.args.out.now.items above c.in-None.is
