use Rattle.std.proofs.Common.{◌∙◌, ap, subst, sym}
use Rattle.holding_book.specs.declared.answer.Answer.{Answer}
use Rattle.holding_book.specs.Books.{SlotBook}
use Rattle.holding_book.specs.Asks.{reply}
use Rattle.holding_book.specs.Replied.{HasAnswerLines}
use Rattle.holding_book.proofs.book.Book.apply.Goals as goal

pub returns-clause-lines : goal.returns-clause-lines
returns-clause-lines c =
    let b = c.args.self.now.book in
    let due = c.apply_with.ensures.answer ∙ ap (λ (after : SlotBook). reply after c.args.ask.now) c.in_ok-room.ensures.stays in
    subst (λ (a : Answer). HasAnswerLines b.declaration.season c.args.ask.now a) (sym due)
    (c.answer_lines.ensures.reply b c.args.ask.now c.declaration.ensures.book c.requires.ask)
