use Rattle.std.proofs.Common.{rules, ◌≡◌, None}
use Rattle.cert_checker.proofs.FixedLemmas.{fixing-none}
use Rattle.cert_checker.proofs.lines.from_fixing.Goals as goal

pub returns-in_ok-last-in-None : goal.returns-in_ok-last-in-None
returns-in_ok-last-in-None c =
    let last = c.in_ok-last-in-None.last in
    let none : c.args.cert.now.fixing ≡ None = search rules in
    fixing-none c.args.problem.now c.args.cert.now c.args.line last.verdict last.next none c.in_ok-last-in-None.ensures
