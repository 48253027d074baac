use Rattle.std.proofs.Common.{◌+◌, ◌++◌, arith}
use Rattle.std.specs.List.{flat_map}
use Rattle.season_days.specs.Seasons.{is_on, dates_of}
use Rattle.series_model.specs.Movements.{movements_on}
use Rattle.series_model.proofs.DateLemmas.{list_step, list_end}
use Rattle.series_model.proofs.movements.push_movements.Goals as goal

pub overflow_add-end : goal.overflow_add-end
overflow_add-end c = let short = (c.lengths.ensures.bounds c.args.season.now).1 in omega (arith, short)

pub push_date-requires : goal.push_date-requires
push_date-requires c = let short = (c.lengths.ensures.bounds c.args.season.now).1 in omega (arith, short)

pub loop-date-preserved : goal.loop-date-preserved
loop-date-preserved c =
    let line = c.args.line.now in
    list_step c.listed_days.ensures.passes c.listed_days.ensures.fails (is_on c.args.season.now line.period.days) (movements_on c.args.season.now line c.args.arrival c.args.departure) c.loop-date.movements.items c.push_date.new.movements.items
    (c.args.movements.now.items ++ flat_map (movements_on c.args.season.now line c.args.arrival c.args.departure) (dates_of c.args.season.now line.period)) c.loop-date.date (line.period.last.0 + 1) c.loop-date-test.true c.in_ok-push_date.ensures c.loop-date.invariant

pub returns : goal.returns
returns c =
    let line = c.args.line.now in
    list_end c.listed_days.ensures.ends (is_on c.args.season.now line.period.days) (movements_on c.args.season.now line c.args.arrival c.args.departure) c.loop-date.movements.items
    (c.args.movements.now.items ++ flat_map (movements_on c.args.season.now line c.args.arrival c.args.departure) (dates_of c.args.season.now line.period)) c.loop-date.date (line.period.last.0 + 1) c.loop-date-test.false c.loop-date.invariant
