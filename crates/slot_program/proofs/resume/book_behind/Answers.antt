use Rattle.std.proofs.Common.{◌≡◌, ◌≤◌, List, length, refl, sym, ap, subst, ◌∙◌, arith}
use Rattle.std.specs.Prelude.{All}
use Rattle.choice_problem.specs.declared.problems.TheConstants.{MOST_UNITS}
use Rattle.season_days.specs.Term.{Term}
use Rattle.series_model.specs.declared.unit.Unit.{Unit as SlotUnit}
use Rattle.holding_book.specs.Books.{SlotBook, IsBook}
use Rattle.holding_book.specs.Starts.{start_book}
use Rattle.amend_journal.specs.Format.{IsFit}
use Rattle.amend_journal.specs.Kept.{book_after}
use Rattle.amend_journal.specs.declared.asked.TheConstants.{MOST_PAIRS}
use Rattle.slot_program.proofs.resume.book_behind.Goals as goal

pub replayed-requires-clause-fit : goal.replayed-requires-clause-fit
unfolding start_book
replayed-requires-clause-fit c =
    let start : c.in_ok-start.start.book.declaration.season ≡ c.args.submission.now.declaration.season = ap (λ (b : SlotBook). b.declaration.season) c.in_ok-start.ensures in
    subst (λ (t : Term). All (IsFit t) c.args.pairs.now) (sym start) c.requires.fit

pub replayed-requires-clause-few : goal.replayed-requires-clause-few
replayed-requires-clause-few c =
    let s = c.args.submission.now in
    let held : length c.in_ok-start.start.book.holdings ≡ length (start_book s c.args.certificate.now).holdings = ap (λ (b : SlotBook). length b.holdings) c.in_ok-start.ensures in
    let few : length (start_book s c.args.certificate.now).holdings ≤ length s.units = c.few_holdings.ensures s c.args.certificate.now in
    let units : length c.units-units.result.now ≡ length s.units = ap (λ (l : List SlotUnit). length l) c.units-units.ensures.value in
    let most : MOST_UNITS ≡ 4096 = refl in
    omega (arith, held, few, units, most, c.units-units.ensures.few)

pub returns-clause-book : goal.returns-clause-book
returns-clause-book c = c.in_ok-book.ensures.book ∙ ap (λ (b : SlotBook). book_after b c.args.pairs.now) c.in_ok-start.ensures

pub returns-clause-declaration : goal.returns-clause-declaration
unfolding start_book
returns-clause-declaration c = c.in_ok-book.ensures.declaration ∙ ap (λ (b : SlotBook). b.declaration) c.in_ok-start.ensures

pub returns-clause-start : goal.returns-clause-start
returns-clause-start c = subst (λ (b : SlotBook). IsBook b) c.in_ok-start.ensures c.declaration-declaration.ensures.book

pub returns-clause-few : goal.returns-clause-few
returns-clause-few c =
    let s = c.args.submission.now in
    let held : length c.in_ok-start.start.book.holdings ≡ length (start_book s c.args.certificate.now).holdings = ap (λ (b : SlotBook). length b.holdings) c.in_ok-start.ensures in
    let few : length (start_book s c.args.certificate.now).holdings ≤ length s.units = c.few_holdings.ensures s c.args.certificate.now in
    let units : length c.units-units.result.now ≡ length s.units = ap (λ (l : List SlotUnit). length l) c.units-units.ensures.value in
    let most : MOST_UNITS ≡ 4096 = refl in
    let pairs : MOST_PAIRS ≡ 100000 = refl in
    omega (arith, held, few, units, most, pairs, c.units-units.ensures.few, c.in_ok-book.ensures.few, c.requires.many)
