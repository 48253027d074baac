use Rattle.std.proofs.Common.{subst}
use Rattle.cert_checker.specs.declared.verdict.Verdict.{Verdict}
use Rattle.wait_list.specs.Claims.{IsWaitingProof, WaitingFailsAt, IsWaitingCheck}
use Rattle.desk_commands.proofs.JudgementLemmas.{one_season}
use Rattle.desk_commands.proofs.WaitingLemmas.{of_left, accepts_extra, refuses_extra}
use Rattle.desk_commands.proofs.recheck.judge_stage.Goals as goal

pub returns-in-Yes-clause-proof : goal.returns-in-Yes-clause-proof
returns-in-Yes-clause-proof c = c.in_ok-verdict.ensures.proof.0 c.in-Yes.is

pub returns-in-Yes-clause-alone : goal.returns-in-Yes-clause-alone
returns-in-Yes-clause-alone c = λ name cert capacity requests proved asks extra rest season spelled alone by said said_alone.
    let left = c.args.left.now in
    let stage = c.args.stage.now in
    accepts_extra (one_season c.one_answer.ensures.one c.one_reading.ensures.all c.one_reading.ensures.all_fault c.one_reading.ensures.all_or_fault)
    name capacity requests proved asks extra rest left.submission cert season spelled alone by.history by.asked by.only stage said said_alone c.requires.printable c.one_waiting_line.ensures.never
    (of_left (λ b lines. IsWaitingProof b lines stage) left.submission cert asks.bytes left.book.book left.waiting left.header by (returns-in-Yes-clause-proof c))

pub returns-in-No-clause-stop : goal.returns-in-No-clause-stop
returns-in-No-clause-stop c = λ names name cert capacity requests proved asks extra rest season spelled alone by said said_alone.
    let left = c.args.left.now in
    let stage = c.args.stage.now in
    let line = c.in-No.line in
    let reason = c.in-No.reason in
    let fails : WaitingFailsAt left.book.book left.waiting stage line reason = subst (λ (v : Verdict). IsWaitingCheck left.book.book left.waiting stage v) c.in-No.is c.in_ok-verdict.ensures.exact in
    refuses_extra (one_season c.one_answer.ensures.one c.one_reading.ensures.all c.one_reading.ensures.all_fault c.one_reading.ensures.all_or_fault)
    name capacity requests proved asks extra rest left.submission cert season spelled alone by.history by.asked by.only stage said said_alone c.requires.printable c.one_waiting_line.ensures.never c.one_waiting_line.ensures.one line reason
    (of_left (λ b lines. WaitingFailsAt b lines stage line reason) left.submission cert asks.bytes left.book.book left.waiting left.header by fails)
