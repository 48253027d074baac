use Rattle.std.proofs.Common.{[]}
use Rattle.price_table.proofs.TotalLemmas.{no_kept}
use Rattle.price_table.proofs.totals.totals_of.Goals as goal

pub returns : goal.returns
returns c =
    c.in_ok-push_totals.ensures [] (rw c.in_ok-totals.ensures.items (no_kept c.args.problem.now c.args.ranges.now))
