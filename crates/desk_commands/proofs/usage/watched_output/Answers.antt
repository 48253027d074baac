use Rattle.std.proofs.Common.{◌≡◌, ◌≤◌, ◌<◌, List, length, refl, sym, ap, ◌∙◌, subst, arith}
use Rattle.choice_problem.specs.declared.problems.TheConstants.{MOST_UNITS}
use Rattle.season_days.specs.Term.{Term}
use Rattle.scr_reader.specs.declared.header.Header.{Header}
use Rattle.scr_reader.specs.declared.message.Message.{Message}
use Rattle.series_model.specs.declared.unit.Unit.{Unit as SlotUnit}
use Rattle.series_model.specs.Units.{units_of}
use Rattle.holding_book.specs.declared.holding.Holding.{Holding}
use Rattle.holding_book.specs.Books.{SlotBook}
use Rattle.holding_book.specs.Starts.{start_book}
use Rattle.desk_commands.proofs.AmendLemmas.{start_few}
use Rattle.desk_commands.proofs.UsageLemmas.{next_fits, next_header_season, held_fit, all_historic, series_are, kept_are, lines_are, watched}
use Rattle.desk_commands.proofs.usage.watched_output.Goals as goal

-- the lines fit, as those of each book do
pub watch-requires-clause-fit : goal.watch-requires-clause-fit
watch-requires-clause-fit c = held_fit c.args.book.now.book c.declaration.result.now c.holdings.result.now c.declaration.ensures.value c.holdings.ensures c.declaration.ensures.book

-- there are no more than units
pub watch-requires-clause-few : goal.watch-requires-clause-few
watch-requires-clause-few c =
    let s = c.args.submission.now in
    let start : SlotBook = start_book s c.args._certificate.now in
    let given : length c.holdings.result.now ≡ length c.args.book.now.book.holdings = ap (λ (l : List Holding). length l) c.holdings.ensures in
    let held : length c.args.book.now.book.holdings ≡ length start.holdings = ap (λ (b : SlotBook). length b.holdings) c.requires.start in
    let few : length start.holdings ≤ length s.units = start_few s c.args._certificate.now in
    let units : length c.units-units.result.now ≡ length s.units = ap (λ (l : List SlotUnit). length l) c.units-units.ensures.value in
    let most : MOST_UNITS ≡ 4096 = refl in
    omega (arith, given, held, few, units, most, c.units-units.ensures.few)

-- what was found is historic lines of the header's season
pub print_next-requires : goal.print_next-requires
print_next-requires c =
    let season : c.next_header-header.result.season ≡ c.args.next = ap (λ (h : Header). h.season) c.next_header-header.ensures ∙ (next_header_season c.args.submission.now ∙ sym c.requires.next) in
    all_historic c.args.book.now.book c.declaration.result.now c.holdings.result.now c.declaration.ensures.value c.holdings.ensures c.declaration.ensures.book c.next_lines_fit.ensures c.args.next c.args.operated.now c.next_header-header.result
    c.items.result.now season (c.items.ensures ∙ c.in_ok-usage.ensures.next)

pub returns : goal.returns
unfolding start_book
returns c =
    let s = c.args.submission.now in
    let start : SlotBook = start_book s c.args._certificate.now in
    let b = c.args.book.now.book in
    let d = c.declaration.result.now in
    let hs = c.holdings.result.now in
    let reports = c.args.operated.now in
    let declared = c.declaration.ensures.value in
    let same : b ≡ start = c.requires.start in
    let lines_is = c.items.ensures ∙ (c.in_ok-usage.ensures.next ∙ lines_are b d hs declared c.holdings.ensures start same c.args.next reports c.requires.next) in
    let fits = next_fits s c.args._certificate.now reports (subst (λ (t : Term). t.year < 100) c.requires.next c.year-year.ensures.digits)
    (λ none. ap (λ (l : List SlotUnit). length l) (sym c.units-units.ensures.value ∙ (c.units-units.ensures.of_messages ∙ ap (λ (l : List Message). units_of l) none))) c.requires.asked in
    let season : c.next_header-header.result.season ≡ c.args.next = ap (λ (h : Header). h.season) c.next_header-header.ensures ∙ (next_header_season s ∙ sym c.requires.next) in
    let historic = all_historic b d hs declared c.holdings.ensures c.declaration.ensures.book c.next_lines_fit.ensures c.args.next reports c.next_header-header.result c.items.result.now season (c.items.ensures ∙ c.in_ok-usage.ensures.next) in
    watched s start reports c.next_header-header.result c.items.result.now c.next_header-header.ensures lines_is c.next_is_read.ensures fits historic
    c.in_ok-usage.usage.series c.in_ok-usage.usage.kept c.in_ok-written.written.items _
    (c.in_ok-usage.ensures.series ∙ series_are b d hs declared c.holdings.ensures start same)
    (c.in_ok-usage.ensures.kept ∙ kept_are b d hs declared c.holdings.ensures start same reports)
    c.in_ok-written.ensures c.in_ok-text.ensures
