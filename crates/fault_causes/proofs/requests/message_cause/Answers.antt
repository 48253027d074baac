use Rattle.std.proofs.Common.{subst}
use Rattle.scr_reader.specs.Messages.{HasScrFault}
use Rattle.scr_reader.specs.declared.fault.ScrFault.{ScrFault}
use Rattle.fault_causes.proofs.MessageLemmas.{no_memory}
use Rattle.fault_causes.proofs.requests.message_cause.Goals as goal

pub returns-in-Memory : goal.returns-in-Memory
returns-in-Memory c =
    let text = c.args.text.now in
    absurd (no_memory text (subst (λ (f : ScrFault). HasScrFault text f) c.in-Memory.is c.requires.has))
