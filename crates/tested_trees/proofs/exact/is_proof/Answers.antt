use Rattle.std.proofs.Common.{rules, ◌≡◌, ◌≤◌, ◌∷◌, [], List, ℕ, None, length, sym, ◌∙◌, ap, subst}
use Rattle.std.specs.Prelude.{All, IsTrue}
use Rattle.std.proofs.lemmas.List.Elements.{All-cons, All-nil}
use Rattle.choice_problem.specs.declared.nodes.Node.{Node}
use Rattle.choice_problem.specs.declared.nodes.Node.TheVariants.{Split}
use Rattle.choice_problem.specs.Bounds.{AreRanges, whole_of}
use Rattle.choice_problem.specs.Trees.{AreSound}
use Rattle.kept_bounds.specs.Kept.{AreKept, AreKeptFirst}
use Rattle.tested_trees.proofs.ExactLemmas.{sound-next, whole-next, sound-end, whole-end}
use Rattle.tested_trees.proofs.exact.is_proof.Goals as goal

abbrev no_node : Node
no_node = Split 0 0 None

pub loop-node-init : goal.loop-node-init
loop-node-init c =
    let p = c.args.problem.now in
    let walk_is : c.new-walk.result ≡ whole_of p ∷ [] = c.new-walk.ensures ∙ ap (λ (w : List (ℕ × ℕ)). w ∷ []) c.in_ok-whole.ensures.value in
    record {
      ranges = subst (All (AreRanges p)) (sym c.new-walk.ensures)
          (All-cons (AreRanges p) c.in_ok-whole.whole [] c.in_ok-whole.ensures.there (All-nil (AreRanges p)));
      bounds = subst (λ (w : List (List (ℕ × ℕ))). AreKeptFirst p c.args.vectors.now w c.new-changes.result.items c.args.bounds) (sym walk_is)
          (subst (λ (xs : List ℕ). AreKept p c.args.vectors.now (whole_of p) xs c.args.bounds) (sym c.new-changes.ensures.items) c.requires.bounds);
      sound = λ h. subst (λ (w : List (List (ℕ × ℕ))). AreSound p c.args.vectors.now c.args.cost w c.args.nodes.now) walk_is h;
      whole = λ h. h;
    }

pub loop-node-preserved : goal.loop-node-preserved
loop-node-preserved c =
    let p = c.args.problem.now in
    let nodes = c.args.nodes.now in
    let i = c.loop-node.node-index in
    let there = c.loop-node-test.true in
    let yes : IsTrue c.in_ok-goes_on.goes_on = search rules in
    record {
      ranges = c.in_ok-goes_on.ensures.ranges yes;
      bounds = c.in_ok-goes_on.ensures.bounds yes;
      sound = sound-next p c.args.vectors.now c.args.cost c.loop-node.walk c.passes.new.walk (whole_of p ∷ []) nodes i no_node there
          (c.in_ok-goes_on.ensures.sound yes) c.loop-node.invariant.sound;
      whole = whole-next nodes i no_node there (c.in_ok-goes_on.ensures.whole yes) c.loop-node.invariant.whole;
    }

pub returns-clause-sound : goal.returns-clause-sound
returns-clause-sound c = λ yes.
    let p = c.args.problem.now in
    let nodes = c.args.nodes.now in
    let past : length nodes ≤ c.loop-node.node-index = search rules in
    let done : c.loop-node.walk ≡ [] = search rules in
    sound-end p c.args.vectors.now c.args.cost c.loop-node.walk (whole_of p ∷ []) nodes c.loop-node.node-index past done c.loop-node.invariant.sound

pub returns-clause-whole : goal.returns-clause-whole
returns-clause-whole c = λ yes.
    let nodes = c.args.nodes.now in
    let past : length nodes ≤ c.loop-node.node-index = search rules in
    whole-end nodes c.loop-node.node-index past c.loop-node.invariant.whole
