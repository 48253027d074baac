use Rattle.std.proofs.Common.{ltb, ltb-true, arith, rules}
use Rattle.std.proofs.lemmas.List.Sorted.{IsPartitionPoint-from_clause}
use Rattle.price_table.proofs.FewLemmas.{parted_by}
use Rattle.price_table.proofs.few.first_from.Goals as goal

pub returns-clause-before : goal.returns-clause-before
returns-clause-before c =
    let parted = parted_by c.args.prices.now c.args.resource c.requires in
    let point = IsPartitionPoint-from_clause (λ p. ltb p.resource c.args.resource) _ _ c.partition_point.ensures.partitioned parted (λ a r q k. search rules) in
    λ k h. ltb-true _ _ (point.0 k _ (omega arith) h)
