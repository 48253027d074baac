use Rattle.std.proofs.Common.{arith}
use Rattle.std.proofs.lemmas.Int.{ints}
use Rattle.season_days.proofs.CivilLemmas.{outside_after}
use Rattle.season_days.proofs.season.Season.number_of.Goals as goal

pub returns-then-found-length-clause-none : goal.returns-then-found-length-clause-none
returns-then-found-length-clause-none c =
    outside_after c.args.self.now c.unsigned_abs-found.result c.first.result c.args.date c.until-days.result
    c.first.ensures.number c.until-days.ensures.value
    (omega (arith, ints, c.if-days-lt0.false)) (omega (arith, c.length.ensures.exact, c.if-found-length.true))
