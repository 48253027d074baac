use Rattle.std.proofs.Common.{◌≡◌, ◌+◌, ◌≤◌, subst, sym, arith, inl, inr, ℕ, List}
use Rattle.choice_problem.specs.declared.vectors.Price.{Price}
use Rattle.choice_problem.specs.Problems.{ProblemView}
use Rattle.choice_problem.specs.Trees.{node_count}
use Rattle.search_workers.proofs.CostLemmas.{at_most_trans, at_most_refl}
use Rattle.search_workers.proofs.TaskLemmas.{setting_same}
use Rattle.search_workers.proofs.FinishLemmas.{wider_trans}
use Rattle.search_workers.proofs.JoinedLemmas.{joined-none, joined-more}
use Rattle.search_workers.specs.Rounds.{IsRoundJoined, AreSoFarJoined}
use Rattle.search_workers.proofs.searches.run.Goals as goal

pub loop-taken-preserved : goal.loop-taken-preserved
loop-taken-preserved g c =
    let i = c.loop-taken.invariant in
    let k = c.in_ok-next.ensures in
    let w = c.in_ok-widen.ensures in
    record {
      wider = wider_trans c.args.task.now c.loop-taken.task c.widen.new.task i.wider w.wider;
      so_far = w.so_far;
      count = omega (arith, k.visits.count, i.count);
      within = omega (arith, k.within);
      fell = at_most_trans c.in_ok-next.next.cost c.loop-taken.state.cost c.args.state.cost k.visits.fell i.fell;
      joined =
          let p : ProblemView = c.args.task.now.problem in
          let budget : ℕ = c.args.budget in
          let was : List (List Price) = c.args.task.now.vectors in
          let now : List (List Price) = c.loop-taken.task.vectors in
          let next : List (List Price) = c.widen.new.task.vectors in
          let tree = c.in_ok-next.next.tree.items in
          let more : 1 ≤ c.in_ok-next.more = elim k.progress [ inl all ↦ omega (arith, all, c.loop-taken-test.true) | inr some ↦ some ] in
          let count : node_count tree ≡ c.loop-taken.taken + c.in_ok-next.more = omega (arith, k.visits.count, i.count) in
          let one : IsRoundJoined p budget tree now next = rw i.wider.problem at w.joined in
          subst (λ (n : ℕ). AreSoFarJoined p budget n was next) count
          (joined-more p budget c.loop-taken.taken was now next tree (omega (arith, count, more)) i.joined one);
    }

pub loop-taken-init : goal.loop-taken-init
loop-taken-init g c = record {
  wider = setting_same c.args.task.now;
  so_far = c.requires.so_far;
  count = c.requires.count.0;
  within = c.requires.count.1;
  fell = at_most_refl c.args.state.cost;
  joined = joined-none c.args.task.now.problem c.args.budget c.args.taken c.args.task.now.vectors;
}

pub returns-clause-joined : goal.returns-clause-joined
returns-clause-joined g c =
    let i = c.loop-taken.invariant in
    subst (λ (n : ℕ). AreSoFarJoined c.args.task.now.problem c.args.budget n c.args.task.now.vectors c.loop-taken.task.vectors) (sym i.count) i.joined
