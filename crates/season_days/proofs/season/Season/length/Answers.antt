use Rattle.std.proofs.Common.{◌≡◌, arith}
use Rattle.std.proofs.lemmas.Int.{ints}
use Rattle.season_days.proofs.SeasonLemmas.{length_from, date_count-is}
use Rattle.season_days.proofs.season.Season.length.Goals as goal

pub returns-clause-exact : goal.returns-clause-exact
returns-clause-exact c =
    let n = length_from c.args.self.now c.first.result c.after.result c.until.result c.first.ensures.number c.after.ensures.number c.until.ensures.value in
    let e : c.unsigned_abs.result ≡ n.0 = omega (arith, ints, n.1.0, n.1.2) in
    rw e (date_count-is c.args.self.now n.0 n.1.1)

pub returns-clause-some : goal.returns-clause-some
returns-clause-some c =
    let n = length_from c.args.self.now c.first.result c.after.result c.until.result c.first.ensures.number c.after.ensures.number c.until.ensures.value in
    omega (arith, ints, n.1.0, n.1.2, n.1.3)

pub returns-clause-most : goal.returns-clause-most
returns-clause-most c =
    let n = length_from c.args.self.now c.first.result c.after.result c.until.result c.first.ensures.number c.after.ensures.number c.until.ensures.value in
    omega (arith, ints, n.1.0, n.1.2)
