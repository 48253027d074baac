use Rattle.std.proofs.Common.{◌≡◌, sym, true}
use Rattle.std.proofs.lemmas.List.Elements.{All-more}
use Rattle.season_report.specs.Tallies.{comes_before}
use Rattle.season_report.proofs.AirlineLemmas.{next_none}
use Rattle.season_report.proofs.airlines.place_of.Goals as goal

pub loop-i-preserved : goal.loop-i-preserved
loop-i-preserved c =
    All-more (λ other. comes_before other c.args.airline ≡ true) c.args.airlines.now c.loop-i.i _ c.loop-i-test.true c.loop-i.invariant (sym c.if-not-comes_before.ensures)

pub returns-clause-next : goal.returns-clause-next
returns-clause-next c = next_none c.args.airlines.now c.args.airline
