use Rattle.std.proofs.Common.{◌≡◌, ℕ, ◌-◌, ◌<◌}
use Rattle.branch_tree.specs.Rows.{two_uses}
use Rattle.branch_tree.proofs.rows.end_alike.Given as goal

abbrev pub invariant-loop-back : goal.invariant-loop-back
invariant-loop-back l = (back r : ℕ) → back < l.back → two_uses l.problem l.unit (l.end - back) r ≡ two_uses l.problem l.unit (l.row.last - back) r
