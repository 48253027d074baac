use Rattle.std.proofs.Common.{rules}
use Rattle.scr_reader.specs.Private.Texts.{texts_in}
use Rattle.scr_reader.specs.Messages.{parts_from_season, IsHeaderFault}
use Rattle.scr_reader.proofs.HeaderLemmas.{fault_in_date, fault_in_airport, names_same}
use Rattle.scr_reader.proofs.header.read_names.Goals as goal

pub returns-in_err-day-clause-fault : goal.returns-in_err-day-clause-fault
returns-in_err-day-clause-fault c = λ first count.
    let bad : IsHeaderFault c.args.place parts_from_season first (texts_in c.args.run.now) c.in_err-day.field-0.0 =
    fault_in_date c.args.place first c.args.number (texts_in c.args.run.now) _ _ c.in_ok-season.season c.in_err-day.field-0.0 count c.line_at.ensures c.line_at-2.ensures c.in_ok-season.ensures.found c.in_err-day.ensures.fault in
    search rules

pub returns-in_err-airport-clause-fault : goal.returns-in_err-airport-clause-fault
returns-in_err-airport-clause-fault c = λ first count.
    let bad : IsHeaderFault c.args.place parts_from_season first (texts_in c.args.run.now) c.in_err-airport.field-0.0 =
    fault_in_airport c.args.place first c.args.number (texts_in c.args.run.now) _ _ _ c.in_ok-season.season c.in_ok-day.day c.in_ok-day.month c.in_err-airport.field-0.0 count c.line_at.ensures c.line_at-2.ensures c.line_at-3.ensures
    c.in_ok-season.ensures.found c.in_ok-day.ensures.found c.in_err-airport.ensures.fault in
    search rules

pub returns-clause-same : goal.returns-clause-same
returns-clause-same c = λ other agrees.
    names_same (texts_in c.args.run.now) c.args.place _ _ _ c.in_ok-season.season c.in_ok-day.day c.in_ok-day.month c.in_ok-airport.airport other c.line_at.ensures c.line_at-2.ensures c.line_at-3.ensures
    c.in_ok-season.ensures.same c.in_ok-day.ensures.same c.in_ok-airport.ensures.same agrees
