use Rattle.season_maker.specs.Generated.{generated_message}
use Rattle.season_maker.proofs.FitLemmas.{read_again}
use Rattle.season_maker.proofs.laws.requests_are_read.Goals as goal

pub returns : goal.returns
returns c = λ number units few. c.printed_messages_are_read.ensures.one (generated_message number units) (read_again number units few)
