use Rattle.std.proofs.Common.{rules, ◌≡◌, ◌≤◌, ℕ, length, get_or, ◌∙◌, subst, arith, inl, inr}
use Rattle.std.specs.List.{Contains}
use Rattle.std.proofs.lemmas.Bool.{cases_lt}
use Rattle.cert_checker.proofs.MarkedLemmas.{any-default}
use Rattle.cert_checker.proofs.marked.mark_all.Goals as goal

pub loop-unit-preserved : goal.loop-unit-preserved
loop-unit-preserved c =
    let units = c.args.units.now in
    let i = c.loop-unit.unit-index in
    record {
      most = c.mark.ensures.most ∙ c.loop-unit.invariant.most;
      all = λ k lt. elim (cases_lt k i) [
        | inl below ↦ c.mark.ensures.stay (get_or units k 0) (c.loop-unit.invariant.all k below)
        | inr past ↦ let e : i ≡ k = omega (arith, past, lt) in
            subst (λ (n : ℕ). Contains c.mark.new.self.units (get_or units n 0)) e c.in_ok-mark.ensures.marked
      ];
      stay = λ u h. c.mark.ensures.stay u (c.loop-unit.invariant.stay u h);
    }

pub returns-clause-all : goal.returns-clause-all
returns-clause-all c = λ u h.
    let units = c.args.units.now in
    let past : length units ≤ c.loop-unit.unit-index = search rules in
    let is : get_or units h.0 0 ≡ u = any-default units h.0 0 u h.1 ∙ h.2 in
    subst (λ (x : ℕ). Contains c.loop-unit.marked.units x) is (c.loop-unit.invariant.all h.0 (omega (arith, h.1, past)))
