use Rattle.price_table.specs.Tables.{vectors_of}
use Rattle.branch_tree.proofs.walks.Walk.visit_kept.Goals as goal

pub returns-in-Some : goal.returns-in-Some
returns-in-Some c = c.in-Some.ensures.some c.args.root.now.prices (vectors_of c.args.further.now)
