use Rattle.std.proofs.Common.{rules}
use Rattle.season_days.proofs.CivilLemmas.{first_date}
use Rattle.season_days.proofs.season.Season.first.Goals as goal

pub returns-in-Summer-clause-date : goal.returns-in-Summer-clause-date
returns-in-Summer-clause-date c = first_date c.args.self.now c.last_sunday.result (search rules) (search rules) c.last_sunday.ensures.sunday

pub returns-in-Winter-clause-date : goal.returns-in-Winter-clause-date
returns-in-Winter-clause-date c = first_date c.args.self.now c.last_sunday-in-Winter.result (search rules) (search rules) c.last_sunday-in-Winter.ensures.sunday
