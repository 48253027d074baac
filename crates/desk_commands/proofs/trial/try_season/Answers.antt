use Rattle.std.proofs.Common.{◌≡◌, ℕ, refl, sym, ap, ◌∙◌, subst}
use Rattle.season_run.specs.Runs.{IsRun}
use Rattle.desk_commands.specs.StageLines.{marks_status}
use Rattle.desk_commands.specs.Jobs.{IsSettledStatus}
use Rattle.desk_commands.specs.declared.trial.TheConstants.{TRIAL_NODES}
use Rattle.desk_commands.proofs.StageLemmas.{settled_marks}
use Rattle.desk_commands.proofs.trial.try_season.Goals as goal

pub returns : goal.returns
returns g c = λ number units made.
    let season = c.args.submission.now in
    let cert = c.in_ok-proved.proved in
    let run : IsRun season TRIAL_NODES cert = c.in_ok-proved.ensures.run in
    let status : c.marks_status-status.result ≡ marks_status cert.stages = c.marks_status-status.ensures ∙ ap marks_status c.items.ensures in
    record {
      season = season;
      proved = cert;
      made = made;
      run = run;
      valid = run.valid;
      written = refl;
      printed = rw c.into_bytes.ensures.value c.in_ok-text.ensures;
      status_is = status;
      settled = λ enough. subst (λ (n : ℕ). IsSettledStatus n) (sym status) (settled_marks cert.stages (c.settled_run.ensures season TRIAL_NODES cert run enough));
    }
