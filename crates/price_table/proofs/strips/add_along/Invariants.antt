use Rattle.std.proofs.Common.{◌≡◌, ℕ, ◌+◌, ◌<◌, ◌≤◌, length}
use Rattle.std.specs.Prelude.{slice_index}
use Rattle.price_table.proofs.strips.add_along.Given as goal

abbrev pub invariant-loop-added : goal.invariant-loop-added
invariant-loop-added l = record {
  count : length l.numbers ≡ length l.fn.numbers;
  done : (k : ℕ) → length l.numbers ≤ k + l.added → slice_index l.numbers k ≡ slice_index l.fn.numbers k + slice_index l.numbers (k + l.gap);
  rest : (k : ℕ) → k + l.added < length l.numbers → slice_index l.numbers k ≡ slice_index l.fn.numbers k;
}
