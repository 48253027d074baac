use Rattle.std.proofs.Common.{◌≡◌, ◌+◌, ◌*◌, ◌≤◌, ◌++◌, drop}
use Rattle.usage_watch.specs.NextLines.{confirmed_lines, series_in, kept_in, next_lines}
use Rattle.usage_watch.proofs.watching.watch.Given as goal

abbrev pub invariant-loop-holding : goal.invariant-loop-holding
invariant-loop-holding l = record {
  series : l.found.series + series_in l.season (confirmed_lines (drop l.holding-index l.held)) ≡ series_in l.season (confirmed_lines l.held);
  kept : l.found.kept + kept_in l.season l.operated (confirmed_lines (drop l.holding-index l.held)) ≡ kept_in l.season l.operated (confirmed_lines l.held);
  lines : l.found.lines.items ++ next_lines l.season l.next l.operated (confirmed_lines (drop l.holding-index l.held)) ≡ next_lines l.season l.next l.operated (confirmed_lines l.held);
  series_few : l.found.series ≤ 7 * l.holding-index;
  kept_few : l.found.kept ≤ 7 * l.holding-index;
}
