use Rattle.std.proofs.Common.{rules, ◌≡◌, ◌≤◌, ◌∙◌, ◌++◌, ◌∷◌, ◌+◌, [], List, length, ap, sym, take}
use Rattle.std.proofs.lemmas.List.{take_more}
use Rattle.std.proofs.lemmas.List.Elements.{All-push}
use Rattle.choice_problem.specs.declared.vectors.Price.{Price}
use Rattle.choice_problem.specs.Bounds.{IsVector}
use Rattle.tested_trees.proofs.ExactLemmas.{all-taken}
use Rattle.tested_trees.proofs.exact.are_vectors.Goals as goal

pub loop-vector-preserved : goal.loop-vector-preserved
loop-vector-preserved c =
    let p = c.args.problem.now in
    let i = c.loop-vector.vector-index in
    let vectors = c.args.vectors.now in
    let v : List Price = c.vector-item.result in
    let more : take (i + 1) vectors ≡ take i vectors ++ v ∷ [] =
    take_more vectors i v c.loop-vector-test.true ∙ ap (λ (x : List Price). take i vectors ++ x ∷ []) (sym c.vector-item.is) in
    let is : IsVector p v = search rules in
    rw more (All-push (IsVector p) (take i vectors) v c.loop-vector.invariant is)

pub returns : goal.returns
returns c = λ yes.
    let past : length c.args.vectors.now ≤ c.loop-vector.vector-index = search rules in
    all-taken (IsVector c.args.problem.now) c.args.vectors.now c.loop-vector.vector-index past c.loop-vector.invariant
