use Rattle.std.proofs.Common.{◌≡◌}
use Rattle.usage_watch.specs.Precedence.{is_series, has_precedence}
use Rattle.usage_watch.specs.NextLines.{count_to, days_to}
use Rattle.usage_watch.proofs.weekdays.weekdays_of.Given as goal

abbrev pub invariant-loop-weekday : goal.invariant-loop-weekday
invariant-loop-weekday l = record {
  series : l.found.series ≡ count_to (is_series l.reported.season l.line) l.weekday;
  kept : l.found.kept ≡ count_to (has_precedence l.reported.season l.reported.reports l.line) l.weekday;
  days : l.found.days ≡ days_to (has_precedence l.reported.season l.reported.reports l.line) l.weekday;
}
