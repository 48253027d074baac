use Rattle.std.proofs.Common.{◌≡◌, ℕ, ◌<◌, ◌^◌, ◌++◌, ◌∷◌, [], inl, inr, arith}
use Rattle.std.specs.Prelude.{slice_index}
use Rattle.std.proofs.lemmas.Bool.{cases_lt}
use Rattle.std.proofs.lemmas.List.{length-append, get_or_append_left, get_or_push}
use Rattle.finite_sums.proofs.SumLemmas.{sum_below-more}
use Rattle.dual_bound.specs.Ends.{AreEnds}
use Rattle.dual_bound.proofs.loads.loads_of.Goals as goal

pub loop-at-preserved : goal.loop-at-preserved
loop-at-preserved c =
    let n = c.args.resources in
    let begins = c.args.begins.now in
    let ends = c.args.ends.now in
    let items = c.loop-at.loads.items in
    let at = c.loop-at.at in
    let load = c.saturating_sub-load.result in
    let there : at < n = c.loop-at-test.true in
    let push : c.push.new.self.items ≡ items ++ load ∷ [] = c.in_ok-push.ensures.items in
    let next : (uses : ℕ → ℕ) → AreEnds n uses begins ends → ((r : ℕ) → r < n → uses r < 2 ^ 31) → load ≡ uses at = λ uses h few.
    omega (
      arith,
      h.balance at there,
      sum_below-more at (λ k. slice_index begins k),
      sum_below-more at (λ k. slice_index ends k),
      c.loop-at.invariant.here uses h few,
      c.loop-at.invariant.small uses h few,
      h.few_begins at there,
      few at there,
      c.saturating_add.ensures,
      c.saturating_sub-load.ensures,
    ) in
    record {
      count = rw push (omega (arith, length-append items (load ∷ []), c.loop-at.invariant.count));
      each = λ uses h few r l. rw push (elim (cases_lt r at) [
        | inl below ↦ rw (get_or_append_left items (load ∷ []) 0 r (omega (arith, c.loop-at.invariant.count, below))) (c.loop-at.invariant.each uses h few r below)
        | inr last ↦ let e : at ≡ r = omega arith in rw (← e, get_or_push items load 0 at c.loop-at.invariant.count) (next uses h few)
      ]);
      here = λ uses h few. omega (arith, h.balance at there, sum_below-more at (λ k. slice_index begins k), sum_below-more at (λ k. slice_index ends k), c.loop-at.invariant.here uses h few, next uses h few);
      small = λ uses h few. omega (arith, next uses h few, few at there);
    }

pub returns-clause-each : goal.returns-clause-each
returns-clause-each c = λ uses h few r l.
    c.loop-at.invariant.each uses h few r (omega (arith, l, c.loop-at-test.false, c.loop-at.auto.at-end))
