use Rattle.std.proofs.Common.{◌≡◌, rules}
use Rattle.cert_format.specs.declared.cert.Mark.TheVariants.{Optimal}
use Rattle.season_run.proofs.TieLemmas.{tie-of}
use Rattle.season_run.proofs.ties.third_tie.Goals as goal

pub returns-in_ok-found-in-Some : goal.returns-in_ok-found-in-Some
returns-in_ok-found-in-Some g c =
    let mark : c.args.last.now.third.mark ≡ Optimal = search rules in
    tie-of c.args.submission.now.declaration 3 c.args.states.now c.args.last.now.third c.in-Some.third c.in_ok-found-in-Some.found mark c.in-Some.is c.in_ok-found-in-Some.ensures
