use Rattle.incumbent_word.proofs.Workers.{count_append}
use Rattle.incumbent_word.proofs.Once.{once_length}
use Rattle.incumbent_word.proofs.laws.counts.Goals as goal

pub returns : goal.returns
returns c = record { appended = count_append; once = once_length }
