use Rattle.std.proofs.Common.{rules, ◌≡◌, ◌≤◌, List, length, refl, ap, ◌∙◌, arith}
use Rattle.std.specs.String.{string_bytes}
use Rattle.choice_problem.specs.declared.problems.TheConstants.{MOST_UNITS}
use Rattle.series_model.specs.declared.unit.Unit.{Unit as SlotUnit}
use Rattle.holding_book.specs.Books.{SlotBook}
use Rattle.holding_book.specs.Starts.{start_book}
use Rattle.desk_commands.specs.Amendments.{entries_line}
use Rattle.desk_commands.specs.declared.files.TheConstants.{LONGEST_FILE}
use Rattle.desk_commands.proofs.AmendLemmas.{start_few, amends}
use Rattle.desk_commands.proofs.amend.amend_output.Goals as goal

pub amend_messages-requires : goal.amend_messages-requires
amend_messages-requires c =
    let s = c.args.submission.now in
    let start : SlotBook = start_book s c.args.certificate.now in
    let held : length c.in_ok-book.book.book.holdings ≡ length start.holdings = ap (λ (b : SlotBook). length b.holdings) c.in_ok-book.ensures in
    let few : length start.holdings ≤ length s.units = start_few s c.args.certificate.now in
    let units : length c.units-units.result.now ≡ length s.units = ap (λ (l : List SlotUnit). length l) c.units-units.ensures.value in
    let most : MOST_UNITS ≡ 4096 = refl in
    let longest : LONGEST_FILE ≡ 4194304 = refl in
    record { few = omega (arith, held, few, units, most, longest, c.units-units.ensures.few, c.requires.short) }

pub returns : goal.returns
returns c =
    let start : SlotBook = start_book c.args.submission.now c.args.certificate.now in
    let is = c.in_ok-amended.ensures.amended in
    let history = c.in_ok-amended.amended.history.items in
    let text = string_bytes c.in_ok-text.text in
    let count : c.len.result ≡ length history = search rules in
    amends start c.in_ok-book.book.book c.args.asks.now c.in_ok-amended.amended.text.items text history is.texts c.in_ok-book.ensures is.asked is.fits is.text (c.in_ok-text.ensures ∙ ap entries_line count)
