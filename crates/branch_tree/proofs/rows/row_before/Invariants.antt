use Rattle.std.proofs.Common.{◌≡◌, ℕ, ◌-◌, ◌≤◌}
use Rattle.branch_tree.specs.Rows.{one_uses}
use Rattle.branch_tree.proofs.rows.row_before.Given as goal

abbrev pub invariant-loop-back : goal.invariant-loop-back
invariant-loop-back l = (a r : ℕ) → l.last - l.back ≤ a → a ≤ l.last → one_uses l.problem l.unit a r ≡ one_uses l.problem l.unit l.last r
