use Rattle.std.proofs.Common.{◌≡◌, refl, ◌∙◌, arith}
use Rattle.std.proofs.lemmas.List.Elements.{All-get_or}
use Rattle.scr_reader.specs.Printed.{LineFits}
use Rattle.holding_book.specs.declared.holding.Holding.{Holding}
use Rattle.usage_watch.specs.NextLines.{series_of, kept_of, confirmed_lines, series_in, kept_in, next_lines}
use Rattle.usage_watch.proofs.NextLemmas.{counted_more, lines_more, counted_end, lines_end}
use Rattle.usage_watch.proofs.watching.watch.Goals as goal

pub add-requires-clause-fits : goal.add-requires-clause-fits
add-requires-clause-fits c = rw c.in_ok-reported.ensures.season (All-get_or (λ (h : Holding). LineFits c.args.season.now h.line) c.args.held.now c.loop-holding.holding-index _ c.loop-holding-test.true c.requires.fit)

pub loop-holding-preserved : goal.loop-holding-preserved
loop-holding-preserved c =
    let season = c.args.season.now in
    let next = c.args.next.now in
    let reports = c.args.operated.now in
    let held = c.args.held.now in
    let i = c.loop-holding.holding-index in
    let lt = c.loop-holding-test.true in
    let lines = confirmed_lines held in
    let s : c.in_ok-reported.reported.season ≡ season = c.in_ok-reported.ensures.season in
    let r : c.in_ok-reported.reported.reports ≡ reports = c.in_ok-reported.ensures.reports ∙ c.items.ensures in
    record {
      series = rw (c.in_ok-add.ensures.series, s) (counted_more held i _ lt (series_of season) (series_in season) (λ line lines. refl) c.loop-holding.found.series (series_in season lines) c.loop-holding.invariant.series);
      kept = rw (c.in_ok-add.ensures.kept, s, r) (counted_more held i _ lt (kept_of season reports) (kept_in season reports) (λ line lines. refl) c.loop-holding.found.kept (kept_in season reports lines) c.loop-holding.invariant.kept);
      lines = rw (c.in_ok-add.ensures.lines, s, r) (lines_more held i _ lt season next reports c.loop-holding.found.lines.items (next_lines season next reports lines) c.loop-holding.invariant.lines);
      series_few = omega (arith, c.in_ok-add.ensures.series_few, c.loop-holding.invariant.series_few);
      kept_few = omega (arith, c.in_ok-add.ensures.kept_few, c.loop-holding.invariant.kept_few);
    }

pub returns-clause-series : goal.returns-clause-series
returns-clause-series c = counted_end c.args.held.now c.loop-holding.holding-index (omega arith) (series_in c.args.season.now) refl c.loop-holding.found.series (series_in c.args.season.now (confirmed_lines c.args.held.now)) c.loop-holding.invariant.series

pub returns-clause-kept : goal.returns-clause-kept
returns-clause-kept c = counted_end c.args.held.now c.loop-holding.holding-index (omega arith) (kept_in c.args.season.now c.args.operated.now) refl c.loop-holding.found.kept (kept_in c.args.season.now c.args.operated.now (confirmed_lines c.args.held.now)) c.loop-holding.invariant.kept

pub returns-clause-next : goal.returns-clause-next
returns-clause-next c =
    let season = c.args.season.now in
    let next = c.args.next.now in
    let reports = c.args.operated.now in
    c.new-2.ensures ∙ lines_end c.args.held.now c.loop-holding.holding-index (omega arith) season next reports c.loop-holding.found.lines.items (next_lines season next reports (confirmed_lines c.args.held.now)) c.loop-holding.invariant.lines
