use Rattle.std.proofs.Common.{◌≡◌, ap, ◌∙◌, sym, Some}
use Rattle.scr_reader.specs.declared.line.Line.{Line}
use Rattle.holding_book.specs.Hints.{best_line}
use Rattle.holding_book.proofs.AskLemmas.{new_fits}
use Rattle.holding_book.proofs.book.Book.hint.Goals as goal

pub best_option-requires : goal.best_option-requires
best_option-requires c = new_fits c.args.self.now.book.declaration.season c.args.ask.now c.in-Some.line (sym c.new_line.ensures ∙ c.in-Some.is) c.requires.spelled

same_line : (one other : Line) → Some one ≡ Some other → one ≡ other
same_line one other e = cc

pub returns-clause-best : goal.returns-clause-best
returns-clause-best c = λ x e.
    c.in_ok-best.ensures ∙ ap (best_line c.args.self.now.book) (same_line c.in-Some.line x (sym c.in-Some.is ∙ c.new_line.ensures ∙ e))
