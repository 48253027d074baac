use Rattle.scr_reader.specs.Rows.{entry}
use Rattle.scr_reader.proofs.item_reader.line_on.Goals as goal

pub returns-in-Entry-clause-only : goal.returns-in-Entry-clause-only
returns-in-Entry-clause-only c = λ line is. cc (c.in-Entry.ensures.only (entry line) is)

pub returns-in-Bad-clause-only : goal.returns-in-Bad-clause-only
returns-in-Bad-clause-only c = λ line is. cc (c.in-Bad.ensures.only (entry line) is)
