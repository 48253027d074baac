use Rattle.std.proofs.Common.{ℕ, ◌+◌, ◌*◌, List, ◌++◌, slice_index, refl, sym, ◌∙◌, ap, arith}
use Rattle.season_days.specs.Seasons.{is_on}
use Rattle.season_days.specs.Capacity.{Capacity}
use Rattle.report_lines.proofs.WindowLemmas.{starts_at, there_at, start_fits, first_room}
use Rattle.report_lines.proofs.PeakLemmas.{peak_at, peak_day, peak_line, peak_none}
use Rattle.report_lines.proofs.profile.put_start.Goals as goal

pub peak_of-requires-clause-there : goal.peak_of-requires-clause-there
peak_of-requires-clause-there c = λ day lt.
    let k = c.args.windows.now in
    let starts = starts_at k.rules c.args.rule c.args.of k.step c.starts-starts.result c.requires.of c.starts-starts.ensures.starts in
    let there = there_at k c.args.rule c.args.of c.args.first c.starts-starts.result c.args.start c.days-days.result _ c.requires.of c.requires.first starts c.requires.start c.days-days.ensures.value c.requires.loads day lt in
    omega (arith, there)

pub put_peak-requires-clause-day : goal.put_peak-requires-clause-day
put_peak-requires-clause-day c =
    let k = c.args.windows.now in
    let season = ap (λ (q : Capacity). q.season) c.requires.windows in
    let f : ℕ → ℕ = λ (day : ℕ). slice_index c.args.loads.now (c.args.first + c.args.start + day * c.starts-starts.result) in
    let below = peak_day f (is_on c.args.declaration.now.season c.args.of.days) c.days-days.result c.peak_of.result c.in-Some.peak (c.peak_of.ensures f (λ day lt. refl)) c.in-Some.is in
    rw (← season) (omega (arith, below, c.days-days.ensures.value))

pub put_peak-requires-clause-start : goal.put_peak-requires-clause-start
put_peak-requires-clause-start c =
    let step = ap (λ (q : Capacity). q.step) c.requires.windows in
    let fits = start_fits c.args.declaration.now.step c.args.of c.args.start (rw (← step) c.requires.start) in
    omega (arith, fits)

pub returns-in_ok-put_peak-in-Some : goal.returns-in_ok-put_peak-in-Some
returns-in_ok-put_peak-in-Some c = λ load has.
    let k = c.args.windows.now in
    let season = ap (λ (q : Capacity). q.season) c.requires.windows in
    let step = ap (λ (q : Capacity). q.step) c.requires.windows in
    let starts = starts_at k.rules c.args.rule c.args.of k.step c.starts-starts.result c.requires.of c.starts-starts.ensures.starts in
    let peak = peak_at k c.args.rule c.args.of c.args.loads.now load c.args.declaration.now.season c.days-days.result c.args.first c.starts-starts.result c.args.start c.peak_of.result c.requires.of c.requires.first starts c.requires.start (sym season) c.days-days.ensures.value has c.peak_of.ensures in
    c.in_ok-put_peak-in-Some.ensures
    ∙ ap (λ (t : List ℕ). c.args.out.now.items ++ t) (peak_line k load c.args.declaration.now.season c.args.declaration.now.step (c.args.rule + 1) c.args.of c.args.first c.args.start c.peak_of.result c.in-Some.peak (sym season) (sym step) peak c.in-Some.is)

pub returns-in-None : goal.returns-in-None
returns-in-None c = λ load has.
    let k = c.args.windows.now in
    let season = ap (λ (q : Capacity). q.season) c.requires.windows in
    let starts = starts_at k.rules c.args.rule c.args.of k.step c.starts-starts.result c.requires.of c.starts-starts.ensures.starts in
    let peak = peak_at k c.args.rule c.args.of c.args.loads.now load c.args.declaration.now.season c.days-days.result c.args.first c.starts-starts.result c.args.start c.peak_of.result c.requires.of c.requires.first starts c.requires.start (sym season) c.days-days.ensures.value has c.peak_of.ensures in
    peak_none k load (c.args.rule + 1) c.args.of c.args.first c.args.start c.peak_of.result c.args.out.now.items peak c.in-None.is

pub overflow_add-first : goal.overflow_add-first
overflow_add-first c =
    let k = c.args.windows.now in
    let starts = starts_at k.rules c.args.rule c.args.of k.step c.starts-starts.result c.requires.of c.starts-starts.ensures.starts in
    let room = first_room k c.args.rule c.args.of c.requires.of in
    omega (arith, room, starts, c.starts-starts.ensures.few, c.requires.start, c.requires.first, c.requires.loads, c.requires.few)
