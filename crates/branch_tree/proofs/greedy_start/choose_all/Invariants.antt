use Rattle.std.proofs.Common.{◌≡◌, ℕ, ◌*◌, ◌<◌, ◌≤◌, length, slice_index}
use Rattle.choice_problem.specs.Greedy.{IsGreedy, load_before}
use Rattle.branch_tree.proofs.greedy_start.choose_all.Given as goal

abbrev pub invariant-loop-unit : goal.invariant-loop-unit
invariant-loop-unit l = record {
  greedy : IsGreedy l.problem l.unit l.alts.items;
  same_length : length l.counts ≡ length l.fn.counts;
  counted : (r : ℕ) → r < length l.fn.counts → slice_index l.counts r ≡ load_before l.problem l.alts.items l.unit r;
  few : (r : ℕ) → r < length l.fn.counts → slice_index l.counts r ≤ l.unit * 434;
}
