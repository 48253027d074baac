use Rattle.std.proofs.Common.{◌≡◌, ℕ, List, length, arith, sym, ap, ◌∙◌, subst}
use Rattle.season_run.specs.Runs.{IsRun}
use Rattle.desk_commands.specs.StageLines.{mark_lines, marks_status}
use Rattle.desk_commands.specs.Jobs.{IsSettledStatus}
use Rattle.desk_commands.proofs.StageLemmas.{settled_marks}
use Rattle.desk_commands.proofs.allocate.run_output.Goals as goal

pub returns : goal.returns
returns g c =
    let cert = c.in_ok-proved.proved in
    let run : IsRun c.args.submission.now c.args.nodes cert = c.in_ok-proved.ensures.run in
    let status : c.marks_status-status.result ≡ marks_status cert.stages = c.marks_status-status.ensures ∙ ap marks_status c.items-2.ensures in
    record {
      proved = cert;
      run = run;
      spelled = record { has_spelling = c.in_ok-certificate.ensures.again; spelled = c.in_ok-certificate.ensures.text };
      short = omega (arith, ap (λ (l : List ℕ). length l) c.in_ok-certificate.ensures.text, c.season_bytes.ensures cert c.in_ok-certificate.ensures.again run.limits);
      replied = c.in_ok-replies.ensures;
      printed = rw c.into_bytes.ensures.value (c.in_ok-text.ensures ∙ ap (mark_lines 1) c.items.ensures);
      status_is = status;
      settled = λ enough. subst (λ (n : ℕ). IsSettledStatus n) (sym status) (settled_marks cert.stages (c.settled_run.ensures c.args.submission.now c.args.nodes cert run enough));
    }
