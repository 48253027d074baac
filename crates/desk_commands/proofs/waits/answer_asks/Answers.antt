use Rattle.std.proofs.Common.{◌≡◌, ◌≤◌, List, length, refl, ap, arith}
use Rattle.choice_problem.specs.declared.problems.TheConstants.{MOST_UNITS}
use Rattle.series_model.specs.declared.unit.Unit.{Unit as SlotUnit}
use Rattle.holding_book.specs.Books.{SlotBook}
use Rattle.holding_book.specs.Starts.{start_book}
use Rattle.desk_commands.specs.declared.files.TheConstants.{LONGEST_FILE}
use Rattle.desk_commands.proofs.AmendLemmas.{start_few}
use Rattle.desk_commands.proofs.WaitingLemmas.{asked_of, only_of, one_of, book_of, declared_of, can_of}
use Rattle.desk_commands.proofs.waits.answer_asks.Goals as goal

pub amend_messages-requires : goal.amend_messages-requires
amend_messages-requires c =
    let s = c.args.submission.now in
    let start : SlotBook = start_book s c.args.certificate.now in
    let held : length c.in_ok-book.book.book.holdings ≡ length start.holdings = ap (λ (b : SlotBook). length b.holdings) c.in_ok-book.ensures in
    let few : length start.holdings ≤ length s.units = start_few s c.args.certificate.now in
    let units : length c.units-units.result.now ≡ length s.units = ap (λ (l : List SlotUnit). length l) c.units-units.ensures.value in
    let most : MOST_UNITS ≡ 4096 = refl in
    let longest : LONGEST_FILE ≡ 4194304 = refl in
    record { few = omega (arith, held, few, units, most, longest, c.units-units.ensures.few, c.requires.short) }

pub returns-clause-asked : goal.returns-clause-asked
returns-clause-asked c = asked_of c.args.submission.now c.args.certificate.now c.args.asks.now c.in_ok-book.book.book c.in_ok-book.ensures c.in_ok-amended.amended c.in_ok-amended.ensures.amended

pub returns-clause-only : goal.returns-clause-only
returns-clause-only c =
    only_of c.args.submission.now c.args.certificate.now c.args.asks.now c.in_ok-book.book.book c.in_ok-book.ensures c.in_ok-amended.amended c.in_ok-amended.ensures.amended c.in_ok-amended.ensures.only

pub returns-clause-one : goal.returns-clause-one
returns-clause-one c = one_of c.args.submission.now c.args.certificate.now c.args.asks.now c.in_ok-book.book.book c.in_ok-book.ensures c.in_ok-amended.amended c.in_ok-amended.ensures.amended

pub returns-clause-book : goal.returns-clause-book
returns-clause-book c = book_of c.args.submission.now c.args.certificate.now c.args.asks.now c.in_ok-book.book.book c.in_ok-book.ensures c.in_ok-amended.amended c.in_ok-amended.ensures.amended

pub returns-clause-declared : goal.returns-clause-declared
returns-clause-declared c =
    declared_of c.args.submission.now c.args.certificate.now c.args.asks.now c.in_ok-book.book.book c.in_ok-book.ensures c.in_ok-amended.amended c.in_ok-amended.ensures.amended c.replays_fit.ensures.declaration

pub returns-clause-can : goal.returns-clause-can
returns-clause-can c =
    can_of c.args.submission.now c.args.certificate.now c.args.asks.now c.in_ok-book.book.book c.in_ok-book.ensures c.in_ok-amended.amended c.in_ok-amended.ensures.amended c.replays_fit.ensures.declaration
