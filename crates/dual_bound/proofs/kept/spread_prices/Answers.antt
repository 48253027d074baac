use Rattle.std.proofs.Common.{◌≡◌, ◌<◌, ◌+◌, ◌++◌, ◌∷◌, [], ◌∙◌, inl, inr, arith, length}
use Rattle.std.proofs.lemmas.Bool.{cases_lt}
use Rattle.std.proofs.lemmas.List.{length-append, get_or_append_left, get_or_push}
use Rattle.choice_problem.specs.Problems.{resource_count}
use Rattle.dual_bound.proofs.RankLemmas.{rank-le}
use Rattle.dual_bound.proofs.kept.spread_prices.Goals as goal

pub price_in-requires-clause-rank : goal.price_in-requires-clause-rank
price_in-requires-clause-rank c = λ k.
    let p = c.args.problem.now in
    let there : c.loop-resource.resource < resource_count p = omega (arith, c.loop-resource-test.true, c.resources-resource-end.ensures.count) in
    omega (arith, k, c.requires.count, rank-le (resource_count p) c.args.ranks.now (c.loop-resource.resource + 1) (resource_count p) c.requires.ranks (omega (arith, there)) (omega arith))

pub loop-resource-preserved : goal.loop-resource-preserved
loop-resource-preserved c =
    let items = c.loop-resource.spread.items in
    let resource = c.loop-resource.resource in
    let price = c.price_in.result in
    let push : c.push.new.self.items ≡ items ++ price ∷ [] = c.in_ok-push.ensures.items in
    let count : length items ≡ resource = c.loop-resource.invariant.count in
    record {
      count = rw push (omega (arith, length-append items (price ∷ []), count));
      each = λ r l. rw push (elim (cases_lt r resource) [
        | inl below ↦ get_or_append_left items (price ∷ []) 0 r (omega (arith, count)) ∙ c.loop-resource.invariant.each r below
        | inr last ↦ let e : resource ≡ r = omega arith in rw (← e) (get_or_push items price 0 resource count ∙ c.price_in.ensures.value)
      ]);
      small = λ r l. rw push (elim (cases_lt r resource) [
        | inl below ↦ rw (get_or_append_left items (price ∷ []) 0 r (omega (arith, count))) (c.loop-resource.invariant.small r below)
        | inr last ↦ let e : resource ≡ r = omega arith in rw (← e, get_or_push items price 0 resource count) c.price_in.ensures.small
      ]);
    }
