use Rattle.std.proofs.Common.{◌≡◌, sym, ◌∙◌, ap, subst, List}
use Rattle.season_days.specs.Term.{Term}
use Rattle.holding_book.specs.declared.answer.Answer.{Answer}
use Rattle.scr_replies.specs.Replies.{AreAnswerLines}
use Rattle.amend_run.specs.Private.Due.{due_answers}
use Rattle.amend_run.proofs.DueLemmas.{due_lines}
use Rattle.amend_run.proofs.asked.answer_message.Goals as goal

pub put_reply-requires : goal.put_reply-requires
put_reply-requires c =
    let b = c.args.book.now.book in
    let items = c.args.message.now.items in
    let due : c.deref.result.now ≡ due_answers b items = c.deref.ensures.value ∙ c.in_ok-answers.ensures.answers ∙ ap (due_answers b) c.items-items.ensures in
    let lines : AreAnswerLines b.declaration.season items (due_answers b items) =
    due_lines b items c.answer_lines.ensures.reply c.next_fits.ensures.book c.next_books.ensures.declaration c.declaration-declaration.ensures.book c.requires.can in
    subst (λ (answers : List Answer). AreAnswerLines c.args.message.now.season items answers) (sym due)
    (subst (λ (season : Term). AreAnswerLines season items (due_answers b items)) (sym c.requires.season) lines)
