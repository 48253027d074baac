use Rattle.std.proofs.Common.{sym, ◌∙◌, ap, subst, List}
use Rattle.std.proofs.lemmas.List.{take_all}
use Rattle.season_report.specs.declared.decided.Decided.{Decided}
use Rattle.season_report.specs.Tallies.{tally_of}
use Rattle.season_report.specs.Private.{IsSmallTally}
use Rattle.season_report.proofs.TallyLemmas.{tally_step, first_small}
use Rattle.season_report.proofs.tallies.tally_of.Goals as goal

pub with_unit-tally-requires-clause-small : goal.with_unit-tally-requires-clause-small
with_unit-tally-requires-clause-small c =
    subst IsSmallTally (sym c.loop-unit.invariant) (first_small c.args.declaration.now c.args.units.now c.loop-unit.unit-index c.requires.told c.requires.few)

pub loop-unit-preserved : goal.loop-unit-preserved
loop-unit-preserved c =
    tally_step c.args.declaration.now c.args.units.now c.loop-unit.unit-index _ c.loop-unit.tally c.with_unit-tally.result c.loop-unit-test.true c.loop-unit.invariant c.with_unit-tally.ensures

pub returns : goal.returns
returns c =
    let units = c.args.units.now in
    c.loop-unit.invariant ∙ ap (λ (us : List Decided). tally_of c.args.declaration.now us) (take_all c.loop-unit.unit-index units c.loop-unit-test.false)
