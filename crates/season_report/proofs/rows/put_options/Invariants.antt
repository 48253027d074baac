use Rattle.std.proofs.Common.{◌≡◌, ◌++◌, drop}
use Rattle.std.specs.Prelude.{IfSome}
use Rattle.choice_problem.specs.Problems.{resource_count}
use Rattle.season_report.specs.Private.{IsUnderWay, found_from, found_rows, found_reasons, rows_on}
use Rattle.season_report.proofs.rows.put_options.Given as goal

abbrev pub invariant-loop-i : goal.invariant-loop-i
invariant-loop-i l = record {
  text : l.out.items ++ found_rows l.tried l.others l.line (rows_on l.line l.row (found_from l.tried l.place l.line l.cost l.others l.i (drop l.i l.options)))
      ≡ l.fn.out.items ++ found_reasons l.tried l.place l.line l.cost l.fn.others l.options;
  row : IfSome l.row (IsUnderWay (resource_count l.tried.problem.now) l.i);
  others : l.others ≡ l.fn.others;
}
