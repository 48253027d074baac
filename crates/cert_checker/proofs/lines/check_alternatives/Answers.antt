use Rattle.std.proofs.Common.{◌≡◌, ◌+◌, ◌<◌, ℕ, length, get_or, sym, subst, arith}
use Rattle.choice_problem.specs.Problems.{alt_count}
use Rattle.cert_checker.specs.declared.lines.Judged.{Judged}
use Rattle.cert_checker.specs.declared.verdict.Verdict.TheVariants.{Yes}
use Rattle.cert_checker.specs.Tests.{alternative_tests}
use Rattle.cert_checker.specs.Parts.{IsPart}
use Rattle.cert_checker.proofs.VerdictLemmas.{alternatives-passed, alternatives-refused}
use Rattle.cert_checker.proofs.lines.check_alternatives.Goals as goal

pub returns-then-alt-alts : goal.returns-then-alt-alts
returns-then-alt-alts c =
    let p = c.args.problem.now in
    let cert = c.args.cert.now in
    let alts = c.args.choice.now in
    let k = c.loop-unit.unit in
    let lt : k < length alts = omega (arith, c.requires.count, c.units-unit-end.ensures.count, c.loop-unit-test.true, c.loop-unit.auto.unit-end) in
    let fails : get_or alts k 0 < alt_count p k → ⊥ = λ passes. omega (arith, passes, c.alt.ensures, c.alts.ensures.count, c.if-alt-alts.true) in
    subst (λ (j : Judged). IsPart p cert c.args.line (alternative_tests 0 alts) j.verdict j.next) (sym c.refused.ensures)
    (alternatives-refused p cert c.args.line alts k (c.args.line + k) lt c.loop-unit.invariant fails)

pub returns : goal.returns
returns c =
    let p = c.args.problem.now in
    let cert = c.args.cert.now in
    let alts = c.args.choice.now in
    let there : (i : ℕ) → i < length alts → get_or alts i 0 < alt_count p i = λ i lt.
    c.loop-unit.invariant i (omega (arith, lt, c.requires.count, c.units-unit-end.ensures.count, c.loop-unit-test.false, c.loop-unit.auto.unit-end)) in
    let count : c.args.line + length alts ≡ c.args.line + c.units.result = omega (arith, c.requires.count, c.units.ensures.count) in
    subst (λ (j : Judged). IsPart p cert c.args.line (alternative_tests 0 alts) j.verdict j.next) (sym c.passed.ensures)
    (subst (λ (n : ℕ). IsPart p cert c.args.line (alternative_tests 0 alts) Yes n) count (alternatives-passed p cert c.args.line alts there))
