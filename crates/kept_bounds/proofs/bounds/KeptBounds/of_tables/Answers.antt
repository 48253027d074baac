use Rattle.std.proofs.Common.{rules, ◌≡◌, length, arith}
use Rattle.kept_bounds.specs.Kept.{BoundsView}
use Rattle.kept_bounds.proofs.KeptLemmas.{listed-kept}
use Rattle.kept_bounds.proofs.bounds.KeptBounds.of_tables.Goals as goal

pub returns : goal.returns
returns c = λ p ranges each.
    let kept : BoundsView = record { tables = c.in_ok-listed_tables.field-0.items; totals = c.in_ok-empty_places.field-0.items } in
    let count : c.len-count.result ≡ length c.args.tables.items = search rules in
    listed-kept p ranges c.args.tables.items kept c.in_ok-listed_tables.ensures (omega (arith, count, c.in_ok-empty_places.ensures.count)) each c.in_ok-empty_places.ensures.none
