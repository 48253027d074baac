use Rattle.usage_watch.proofs.TextLemmas.{is_read}
use Rattle.usage_watch.proofs.laws.next_is_read.Goals as goal

pub returns : goal.returns
returns c = is_read c.printed_messages_are_read.ensures.many
