use Rattle.std.proofs.Common.{refl}
use Rattle.amend_journal.proofs.ToldLemmas.{read_parts, read_own, read_list}
use Rattle.amend_journal.proofs.kept.JournalKeptBeside.laws.Goals as goal

pub returns-clause-parts : goal.returns-clause-parts
returns-clause-parts g c = read_parts

pub returns-clause-entries : goal.returns-clause-entries
returns-clause-entries g c = λ e. (refl, refl)

pub returns-clause-own : goal.returns-clause-own
returns-clause-own g c = read_own

pub returns-clause-told : goal.returns-clause-told
returns-clause-told g c = λ history. read_list history c.args.self.now.failure
