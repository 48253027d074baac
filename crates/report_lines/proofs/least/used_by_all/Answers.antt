use Rattle.std.proofs.Common.{◌≡◌, ℕ, ◌+◌, ◌-◌, ◌<◌, length, arith, rules, sym, ap, subst, List, ◌∙◌}
use Rattle.choice_problem.specs.Problems.{alt_uses, resource_count}
use Rattle.report_lines.specs.declared.least.Used.{Used}
use Rattle.report_lines.specs.Private.{AreUsed, least_uses}
use Rattle.report_lines.proofs.LeastLemmas.{least_back, back_step, back_all, back_ge, used_same, used_none, few_least}
use Rattle.report_lines.proofs.least.used_by_all.Goals as goal

pub loop-i-preserved : goal.loop-i-preserved
loop-i-preserved c =
    let p = c.args.problem.now in
    let unit = c.args.unit in
    let i = c.loop-i.i in
    let n = c.alts-alts.result in
    let some : 0 < i = omega arith in
    let next : i ≡ i + 1 - 1 = omega arith in
    let are : AreUsed (λ (r : ℕ). least_back (λ (alt : ℕ). alt_uses p unit alt r) n (i - 1)) (resource_count p) c.deref.result.now = subst (λ (xs : List Used). AreUsed (λ (r : ℕ). least_back (λ (alt : ℕ). alt_uses p unit alt r) n (i - 1)) (resource_count p) xs) (sym c.deref.ensures.value) c.loop-i.invariant.used in
    record {
      used = used_same _ (λ (r : ℕ). least_back (λ (alt : ℕ). alt_uses p unit alt r) n (i + 1 - 1)) (resource_count p) _ (λ r lt. back_step (λ (alt : ℕ). alt_uses p unit alt r) n i some ∙ ap (λ (k : ℕ). least_back (λ (alt : ℕ). alt_uses p unit alt r) n k) next)
          (c.in_ok-used-2.ensures.used (λ (r : ℕ). least_back (λ (alt : ℕ). alt_uses p unit alt r) n (i - 1)) are);
      zeros = c.in_ok-used-2.ensures.zeros;
      count = c.in_ok-used-2.ensures.count ∙ c.loop-i.invariant.count;
    }

pub returns-then-is_empty-clause-used : goal.returns-then-is_empty-clause-used
returns-then-is_empty-clause-used c =
    let p = c.args.problem.now in
    let unit = c.args.unit in
    let i = c.loop-i.i in
    let n = c.alts-alts.result in
    let none : length c.loop-i.used.items ≡ 0 = search rules in
    used_none (λ (r : ℕ). least_back (λ (alt : ℕ). alt_uses p unit alt r) n (i - 1)) (least_uses p unit) (resource_count p) c.loop-i.used.items none
    (λ r. rw (← c.alts-alts.ensures.count) (back_ge (λ (alt : ℕ). alt_uses p unit alt r) n (i - 1) (omega arith))) c.loop-i.invariant.used

pub returns-clause-used : goal.returns-clause-used
returns-clause-used c =
    let p = c.args.problem.now in
    let unit = c.args.unit in
    let i = c.loop-i.i in
    let n = c.alts-alts.result in
    used_same (λ (r : ℕ). least_back (λ (alt : ℕ). alt_uses p unit alt r) n (i - 1)) (least_uses p unit) (resource_count p) c.loop-i.used.items
    (λ r lt. rw (← c.alts-alts.ensures.count) (back_all (λ (alt : ℕ). alt_uses p unit alt r) n (i - 1) c.alts-alts.ensures.some (omega arith))) c.loop-i.invariant.used

pub returns-in_err-used-clause-few : goal.returns-in_err-used-clause-few
returns-in_err-used-clause-few c = few_least c.args.problem.now c.args.unit 434 c.used_by.ensures.few

pub returns-then-is_empty-clause-few : goal.returns-then-is_empty-clause-few
returns-then-is_empty-clause-few c = few_least c.args.problem.now c.args.unit 434 c.used_by.ensures.few

pub returns-in_err-used-2-clause-few : goal.returns-in_err-used-2-clause-few
returns-in_err-used-2-clause-few c = few_least c.args.problem.now c.args.unit 434 c.used_by.ensures.few

pub returns-clause-few : goal.returns-clause-few
returns-clause-few c = few_least c.args.problem.now c.args.unit 434 c.used_by.ensures.few
