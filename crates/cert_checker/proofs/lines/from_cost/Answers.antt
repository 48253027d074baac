use Rattle.std.proofs.Common.{rules, ◌≡◌, true, false}
use Rattle.cert_checker.specs.Tests.{cost_tests}
use Rattle.cert_checker.specs.Parts.{bound_part}
use Rattle.cert_checker.proofs.VerdictLemmas.{IsPart-then, IsPart-stop}
use Rattle.cert_checker.proofs.lines.from_cost.Goals as goal

pub returns-then-not-is_passed : goal.returns-then-not-is_passed
returns-then-not-is_passed c =
    let judged = c.in_ok-judged.judged in
    let no : c.is_passed.result ≡ false = search rules in
    IsPart-stop c.args.problem.now c.args.cert.now c.args.line (cost_tests c.args.cert.now.cost) (bound_part c.args.problem.now c.args.cert.now) judged.verdict judged.next
    c.in_ok-judged.ensures (c.is_passed.ensures.no no)

pub returns : goal.returns
returns c =
    let judged = c.in_ok-judged.judged in
    let last = c.in_ok-last.last in
    let yes : c.is_passed.result ≡ true = search rules in
    IsPart-then c.args.problem.now c.args.cert.now c.args.line (cost_tests c.args.cert.now.cost) (bound_part c.args.problem.now c.args.cert.now) judged.verdict last.verdict judged.next last.next
    c.in_ok-judged.ensures (c.is_passed.ensures.yes yes) c.in_ok-last.ensures
