use Rattle.season_days.specs.Periods.{is_date_of}
use Rattle.usage_watch.proofs.MarkLemmas.{same_test}
use Rattle.usage_watch.proofs.marks.is_date.Goals as goal

pub returns : goal.returns
returns c = same_test c.has_date.result (is_date_of c.args.season.now c.args.period c.args.day.0) c.has_date.ensures (c.date_answers.ensures.date c.args.season.now c.args.period c.args.day.0)
