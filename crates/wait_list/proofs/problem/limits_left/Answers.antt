use Rattle.std.proofs.Common.{◌≡◌, ◌<◌, ◌≤◌, ◌+◌, ◌∷◌, ◌++◌, [], ℕ, List, length, arith, sym, ap, subst}
use Rattle.std.specs.Prelude.{All, slice_index}
use Rattle.std.proofs.lemmas.List.{length_push}
use Rattle.std.proofs.lemmas.List.Elements.{All-push}
use Rattle.season_days.specs.declared.declaration.TheConstants.{HIGHEST_NIGHT_LIMIT}
use Rattle.holding_book.specs.Left.{left_of}
use Rattle.wait_list.proofs.ProblemLemmas.{limits-on}
use Rattle.wait_list.proofs.problem.limits_left.Goals as goal

pub loop-resource-preserved : goal.loop-resource-preserved
loop-resource-preserved c =
    let b = c.args.book.now.book in
    let n = c.loop-resource.resource in
    let old = c.loop-resource.limits.items in
    let x = c.left.result in
    let low : ℕ → Type 0 = λ k. k ≤ HIGHEST_NIGHT_LIMIT in
    let pushed : c.push.new.self.items ≡ old ++ x ∷ [] = c.in_ok-push.ensures.items in
    record {
      count = omega (arith, ap (λ (ns : List ℕ). length ns) pushed, length_push old x, c.loop-resource.invariant.count);
      each = subst (λ (ns : List ℕ). (r : ℕ) → r < n + 1 → slice_index ns r ≡ left_of b r) (sym pushed)
          (limits-on (left_of b) old x n c.loop-resource.invariant.count c.left.ensures.value c.loop-resource.invariant.each);
      few = subst (λ (ns : List ℕ). All low ns) (sym pushed) (All-push low old x c.loop-resource.invariant.few c.left.ensures.few);
    }

pub returns-clause-each : goal.returns-clause-each
returns-clause-each c = λ r lt. c.loop-resource.invariant.each r (omega (arith, lt, c.requires))
