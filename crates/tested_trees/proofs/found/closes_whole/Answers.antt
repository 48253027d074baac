use Rattle.std.proofs.Common.{rules, subst}
use Rattle.std.specs.Prelude.{IsTrue, All}
use Rattle.choice_problem.specs.Bounds.{IsVector}
use Rattle.tested_trees.proofs.FoundLemmas.{closes-whole}
use Rattle.tested_trees.proofs.found.closes_whole.Goals as goal

pub returns : goal.returns
returns g c =
    let p = c.args.problem.now in
    let few : IsTrue c.has_few_nodes.result = search rules in
    let listed : IsTrue c.are_listable.result = search rules in
    let checked : IsTrue c.are_vectors.result = search rules in
    let each : All (IsVector p) c.args.vectors.now = subst (All (IsVector p)) c.items.ensures (c.are_vectors.ensures checked) in
    closes-whole p c.args.budget c.args.cost c.args.fixing.now c.args.tree.now c.args.vectors.now c.is_sound.result
    (c.has_few_nodes.ensures few) (c.are_listable.ensures.few listed) (c.are_listable.ensures.prices listed) each
    c.is_sound.ensures.holds c.is_sound.ensures.sound c.is_sound.ensures.whole

pub is_sound-requires : goal.is_sound-requires
is_sound-requires g c =
    let checked : IsTrue c.are_vectors.result = search rules in
    (search rules, subst (All (IsVector c.args.problem.now)) c.items.ensures (c.are_vectors.ensures checked))
