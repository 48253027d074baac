use Rattle.std.proofs.Common.{List, [], subst, ◌∙◌}
use Rattle.choice_problem.specs.declared.vectors.Price.{Price}
use Rattle.choice_problem.specs.Bounds.{whole_of}
use Rattle.kept_bounds.specs.Kept.{AreKept}
use Rattle.tested_trees.proofs.found.proves.Goals as goal

pub is_proof-requires-clause-bounds : goal.is_proof-requires-clause-bounds
is_proof-requires-clause-bounds g c =
    let p = c.args.problem.now in
    subst (λ (vectors : List (List Price)). AreKept p vectors (whole_of p) [] c.in_ok-bounds.bounds) (c.in_ok-tables.ensures.vectors ∙ c.items.ensures)
    (c.in_ok-bounds.ensures p (whole_of p) c.in_ok-tables.ensures.valid)
