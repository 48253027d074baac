use Rattle.std.proofs.Common.{sym, subst}
use Rattle.series_model.specs.declared.unit.Unit.{Unit as SlotUnit}
use Rattle.series_model.specs.Units.{UnitFits}
use Rattle.wait_list.proofs.GivenLemmas.{state-is}
use Rattle.wait_list.proofs.ProblemLemmas.{unit-fits}
use Rattle.wait_list.proofs.given.given_state.Goals as goal

pub times_at-found-requires-clause-unit : goal.times_at-found-requires-clause-unit
times_at-found-requires-clause-unit c =
    subst (λ (unit : SlotUnit). UnitFits c.args.terms.now.season unit) (sym c.waiting_unit-unit.ensures) (unit-fits c.args.terms.now.season c.args.line.now c.requires.line)

pub returns-in-Some : goal.returns-in-Some
returns-in-Some c =
    state-is c.args.terms.now c.args.line.now c.args.number c.in-Some.number c.waiting_unit-unit.result c.times_at-found.result c.unwrap_or-times.result
    c.in-Some.is c.waiting_unit-unit.ensures c.times_at-found.ensures c.unwrap_or-times.ensures
