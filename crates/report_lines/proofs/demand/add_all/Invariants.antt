use Rattle.std.proofs.Common.{◌≡◌, ℕ, ◌*◌, ◌<◌, ◌≤◌, length, take, slice_index}
use Rattle.report_lines.specs.Private.{lines_load}
use Rattle.report_lines.proofs.demand.add_all.Given as goal

abbrev pub invariant-loop-unit : goal.invariant-loop-unit
invariant-loop-unit l = record {
  count : length l.loads ≡ length l.fn.loads;
  sums : (r : ℕ) → r < length l.fn.loads → slice_index l.loads r ≡ lines_load l.windows (take l.unit-index l.units) r;
  few : (r : ℕ) → r < length l.fn.loads → slice_index l.loads r ≤ l.unit-index * 434;
}
