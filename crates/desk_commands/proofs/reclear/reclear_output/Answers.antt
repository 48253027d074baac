use Rattle.std.proofs.Common.{◌≡◌, ℕ, List, length, arith, refl, ap}
use Rattle.cert_format.specs.declared.cert.TheConstants.{MOST_SEASON_BYTES}
use Rattle.wait_list.specs.Claims.{IsWaitingProof}
use Rattle.desk_commands.specs.declared.files.TheConstants.{LONGEST_CERT_FILE}
use Rattle.desk_commands.proofs.reclear.reclear_output.Goals as goal

pub waiting_status-status-requires : goal.waiting_status-status-requires
waiting_status-status-requires g c =
    c.all_may_be_refused.ensures.never c.args.left.now.book.book c.args.left.now.waiting c.in_ok-stage.stage
    (record { problem = c.in_ok-problem.problem; problem_is = c.in_ok-problem.ensures; proof = c.in_ok-stage.ensures.run.proof })

pub returns : goal.returns
returns g c =
    let stage = c.in_ok-stage.stage in
    let again = c.in_ok-extra.ensures.again in
    let proof : IsWaitingProof c.args.left.now.book.book c.args.left.now.waiting stage =
    record { problem = c.in_ok-problem.problem; problem_is = c.in_ok-problem.ensures; proof = c.in_ok-stage.ensures.run.proof } in
    let most : MOST_SEASON_BYTES ≡ 536870912 = refl in
    let longest : LONGEST_CERT_FILE ≡ 536870912 = refl in
    record {
      problem = c.in_ok-problem.problem;
      problem_is = c.in_ok-problem.ensures;
      stage = stage;
      run = c.in_ok-stage.ensures.run;
      feasible = c.all_may_be_refused.ensures.never c.args.left.now.book.book c.args.left.now.waiting stage proof;
      spelled = record { has_spelling = again; spelled = c.in_ok-extra.ensures.text };
      short = omega (arith, most, longest, ap (λ (l : List ℕ). length l) c.in_ok-extra.ensures.text, c.extra_bytes.ensures stage again c.in_ok-stage.ensures.limits);
      replied = c.in_ok-replies.ensures;
      printed = rw c.into_bytes.ensures.value c.in_ok-text.ensures;
      status_is = c.waiting_status-status.ensures.status;
      settled = λ enough. c.waiting_status-status.ensures.settled (c.in_ok-stage.ensures.settled enough);
    }
