use Rattle.std.proofs.Common.{codes, ◌∷◌, [], arith, length-append}
use Rattle.cert_format.specs.Spelling.{proof_lines}
use Rattle.wait_list.proofs.CheckLemmas.{checked, yes-proof, proof-yes}
use Rattle.wait_list.proofs.stage.recheck.Goals as goal

pub check_stage-requires-clause-lines : goal.check_stage-requires-clause-lines
check_stage-requires-clause-lines c = omega (arith, c.requires.printable.few, length-append (proof_lines c.args.cert.now) ((codes "END" ∷ []) ∷ []))

pub returns-clause-exact : goal.returns-clause-exact
returns-clause-exact c = checked c.args.book.now.book c.args.waiting.now c.args.cert.now c.in_ok-problem.problem c.in_ok-verdict.verdict c.in_ok-problem.ensures c.in_ok-verdict.ensures.verdict c.in_ok-verdict.ensures.proof

pub returns-clause-proof : goal.returns-clause-proof
returns-clause-proof c =
    let b = c.args.book.now.book in
    let lines = c.args.waiting.now in
    let cert = c.args.cert.now in (
      yes-proof b lines cert c.in_ok-verdict.verdict (returns-clause-exact c),
      proof-yes b lines cert c.in_ok-verdict.verdict (λ line reason proof fails. c.one_waiting_line.ensures.never b lines cert line reason c.requires.printable proof fails) (returns-clause-exact c),
    )

pub returns-clause-mark : goal.returns-clause-mark
returns-clause-mark c = λ e.
    let b = c.args.book.now.book in
    c.waiting_marks.ensures b c.args.waiting.now c.args.cert.now (yes-proof b c.args.waiting.now c.args.cert.now c.in_ok-verdict.verdict (returns-clause-exact c) e)
