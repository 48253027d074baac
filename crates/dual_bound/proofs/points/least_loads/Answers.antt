use Rattle.std.proofs.Common.{◌≡◌, ℕ, ◌≤◌, ◌*◌, ◌++◌, ◌∙◌, arith, length, take, drop}
use Rattle.choice_problem.specs.Problems.{unit_count, resource_count}
use Rattle.dual_bound.specs.Ends.{AreEnds}
use Rattle.dual_bound.specs.Loops.{least_alt_load}
use Rattle.dual_bound.proofs.HoldLemmas.{written-over}
use Rattle.dual_bound.proofs.points.least_loads.Goals as goal

pub returns-clause-loads : goal.returns-clause-loads
returns-clause-loads c = λ prices priced r l.
    let p = c.args.problem.now in
    let begins = c.take_least-total.new.begins in
    let ends = c.take_least-total.new.ends in
    let all_begins : take c.in_ok-begins.begins.len (begins ++ drop (length begins) c.in_ok-begins.begins.items) ≡ begins = written-over c.in_ok-begins.begins.len begins c.in_ok-begins.begins.items (omega arith) in
    let all_ends : take c.in_ok-ends.ends.len (ends ++ drop (length ends) c.in_ok-ends.ends.items) ≡ ends = written-over c.in_ok-ends.ends.len ends c.in_ok-ends.ends.items (omega arith) in
    let begins_are : c.deref.result.now ≡ begins = c.deref.ensures.value ∙ all_begins in
    let ends_are : c.deref-2.result.now ≡ ends = c.deref-2.ensures.value ∙ all_ends in
    let count : c.resources-2.result ≡ resource_count p = c.resources-2.ensures.count in
    let uses : ℕ → ℕ = λ q. least_alt_load p c.args.ranges.now prices c.args.scale (unit_count p) q in
    let few : (q : ℕ) → uses q ≤ 4096 * 434 = c.take_least-total.ensures.few prices priced in
    let runs : AreEnds c.resources-2.result uses c.deref.result.now c.deref-2.result.now = rw (count, begins_are, ends_are) (c.take_least-total.ensures.runs prices priced) in
    c.in_ok-loads.ensures.each uses runs (λ q m. omega (arith, few q)) r (omega (arith, count, l))
