use Rattle.slot_text.proofs.SpelledLemmas.{spelled_field, spelled_last, IsFieldText-decimal}
use Rattle.slot_text.proofs.laws.spelled_fields.Goals as goal

pub returns-clause-inside : goal.returns-clause-inside
returns-clause-inside c = spelled_field

pub returns-clause-last : goal.returns-clause-last
returns-clause-last c = spelled_last

pub returns-clause-digits : goal.returns-clause-digits
returns-clause-digits c = IsFieldText-decimal
