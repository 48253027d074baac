use Rattle.report_lines.proofs.RuledOutLemmas.{none_told, told_none, over_rules_out, first_allotted}
use Rattle.report_lines.proofs.laws.ruled_out.Goals as goal

pub returns-clause-told : goal.returns-clause-told
returns-clause-told c = λ d e. (none_told d e, told_none d e)

pub returns-clause-over : goal.returns-clause-over
returns-clause-over c = over_rules_out

pub returns-clause-first : goal.returns-clause-first
returns-clause-first c = first_allotted
