use Rattle.std.proofs.lemmas.Option.{none-some}
use Rattle.scr_reader.proofs.at.read_later_group.Goals as goal

pub returns-in_err-near-clause-only : goal.returns-in_err-near-clause-only
returns-in_err-near-clause-only c = λ near far minute nights is. absurd (none-some _ (c.in_err-near.ensures.only near far minute nights is.nights_text is.group is.nights_said))

pub returns-clause-only : goal.returns-clause-only
returns-clause-only c = λ near far minute nights is. c.in_ok-near.ensures.only near far minute nights is.nights_text is.group is.nights_said
