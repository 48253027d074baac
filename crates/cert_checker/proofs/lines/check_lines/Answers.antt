use Rattle.std.proofs.Common.{rules, ◌≡◌, ◌+◌, ℕ, suc, true, false, refl, subst, arith, length-append}
use Rattle.cert_checker.specs.declared.verdict.Verdict.{Verdict}
use Rattle.cert_checker.specs.Tests.{Passes, choice_tests, proof_tests}
use Rattle.cert_checker.specs.Verdicts.{IsVerdict}
use Rattle.cert_checker.specs.Parts.{cost_part}
use Rattle.cert_checker.proofs.LineLemmas.{proof_tests-length}
use Rattle.cert_checker.proofs.PassLemmas.{tested-choice}
use Rattle.cert_checker.proofs.VerdictLemmas.{IsPart-then, IsPart-stop}
use Rattle.cert_checker.proofs.lines.check_lines.Goals as goal

pub check_choice-judged-requires : goal.check_choice-judged-requires
check_choice-judged-requires c =
    let p = c.args.problem.now in
    let cert = c.args.cert.now in
    omega (arith, c.requires.lines, proof_tests-length p cert, length-append (choice_tests cert.choice) (cost_part p cert))

pub returns-then-not-is_passed-clause-verdict : goal.returns-then-not-is_passed-clause-verdict
returns-then-not-is_passed-clause-verdict c =
    let p = c.args.problem.now in
    let cert = c.args.cert.now in
    let judged = c.check_choice-judged.result in
    let no : c.is_passed.result ≡ false = search rules in
    let count : c.args.first + 1 ≡ suc c.args.first = omega arith in
    subst (λ (n : ℕ). IsVerdict (Passes p cert) n (proof_tests p cert) judged.verdict) count
    (IsPart-stop p cert (c.args.first + 1) (choice_tests cert.choice) (cost_part p cert) judged.verdict judged.next c.check_choice-judged.ensures (c.is_passed.ensures.no no)).verdict_is

pub from_cost-requires-clause-room : goal.from_cost-requires-clause-room
from_cost-requires-clause-room c =
    let p = c.args.problem.now in
    let cert = c.args.cert.now in
    let yes : c.is_passed.result ≡ true = search rules in
    let next = c.check_choice-judged.ensures.counted (c.is_passed.ensures.yes yes) in
    omega (arith, next, c.requires.lines, proof_tests-length p cert, length-append (choice_tests cert.choice) (cost_part p cert))

pub returns-clause-verdict : goal.returns-clause-verdict
returns-clause-verdict c =
    let p = c.args.problem.now in
    let cert = c.args.cert.now in
    let judged = c.check_choice-judged.result in
    let last = c.in_ok-last.last in
    let yes : c.is_passed.result ≡ true = search rules in
    let count : c.args.first + 1 ≡ suc c.args.first = omega arith in
    subst (λ (n : ℕ). IsVerdict (Passes p cert) n (proof_tests p cert) last.verdict) count
    (IsPart-then p cert (c.args.first + 1) (choice_tests cert.choice) (cost_part p cert) judged.verdict last.verdict judged.next last.next
    c.check_choice-judged.ensures (c.is_passed.ensures.yes yes) c.in_ok-last.ensures).verdict_is

pub returns-clause-next : goal.returns-clause-next
returns-clause-next c = λ done.
    let p = c.args.problem.now in
    let cert = c.args.cert.now in
    let yes : c.is_passed.result ≡ true = search rules in
    omega (
      arith,
      c.in_ok-last.ensures.counted done,
      c.check_choice-judged.ensures.counted (c.is_passed.ensures.yes yes),
      proof_tests-length p cert,
      length-append (choice_tests cert.choice) (cost_part p cert),
    )

pub from_cost-requires-clause-choice : goal.from_cost-requires-clause-choice
from_cost-requires-clause-choice c =
    let p = c.args.problem.now in
    let cert = c.args.cert.now in
    let yes : c.is_passed.result ≡ true = search rules in
    let none = subst (λ (v : Verdict). IsVerdict (Passes p cert) (c.args.first + 1) (choice_tests cert.choice) v) (c.is_passed.ensures.yes yes) c.check_choice-judged.ensures.verdict_is in
    tested-choice p cert cert.choice refl none
