use Rattle.std.proofs.Common.{sym, ap, ◌∙◌}
use Rattle.amend_journal.specs.Kept.{KeptView}
use Rattle.amend_journal.proofs.ToldLemmas.{whole_unbroken}
use Rattle.amend_journal.proofs.kept.JournalKeptBeside.failed.Goals as goal

pub returns-in-None-clause-unbroken : goal.returns-in-None-clause-unbroken
returns-in-None-clause-unbroken g c = λ history. rw (sym (ap (λ (k : KeptView). k.failure) c.self.view_is) ∙ c.in-None.is) (whole_unbroken history)
