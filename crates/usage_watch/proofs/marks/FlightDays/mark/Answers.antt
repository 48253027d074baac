use Rattle.std.proofs.Common.{◌||◌, ap, ◌∙◌, get_or, false, List, Bool}
use Rattle.indexmap.specs.IndexMap.{get}
use Rattle.season_days.specs.Periods.{is_date_of}
use Rattle.holding_book.specs.Lines.{is_flight}
use Rattle.usage_watch.specs.Private.Marks.{days_or_none}
use Rattle.usage_watch.proofs.MarkLemmas.{marks_put}
use Rattle.usage_watch.proofs.marks.FlightDays.mark.Goals as goal

pub returns : goal.returns
returns c = λ other day lt.
    let flight = c.args.flight in
    let date = is_date_of c.args.season.now c.args.period day in
    let put = c.in_ok-days.ensures day lt ∙ ap (λ (xs : List Bool). get_or xs day false || date) c.of_flight.ensures in
    ap (λ o. get_or (days_or_none o) day false) (c.in_ok-insert.ensures.updates.0 other)
    ∙ marks_put flight other day c.in_ok-days.days (get is_flight c.args.self.now.days) date put
