use Rattle.std.proofs.Common.{List, sym, subst}
use Rattle.std.specs.Prelude.{All}
use Rattle.cert_format.specs.declared.cert.StageCert.{StageCert}
use Rattle.desk_commands.proofs.StageLemmas.{HasFewNodes, few_nodes}
use Rattle.desk_commands.proofs.trial.trial_text.Goals as goal

pub node_total-nodes-requires-clause-few : goal.node_total-nodes-requires-clause-few
node_total-nodes-requires-clause-few c =
    subst (λ (l : List StageCert). All HasFewNodes l) (sym c.items-stages.ensures) (few_nodes c.line_counts.ensures.proof c.args.certificate.now c.requires)
