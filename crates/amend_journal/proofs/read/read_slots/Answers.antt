use Rattle.std.proofs.Common.{◌∙◌}
use Rattle.amend_journal.proofs.MomentLemmas.{looks_join, later_join}
use Rattle.amend_journal.proofs.read.read_slots.Goals as goal

pub returns-in_err-gate-clause-looks : goal.returns-in_err-gate-clause-looks
returns-in_err-gate-clause-looks g c = looks_join _ _ _ c.loop-number.invariant.looks c.push_slot.ensures.looks

pub returns-in_err-gate-clause-later : goal.returns-in_err-gate-clause-later
returns-in_err-gate-clause-later g c = later_join _ _ _ c.loop-number.invariant.later c.push_slot.ensures.later

pub loop-number-preserved : goal.loop-number-preserved
loop-number-preserved g c = record {
  looks = looks_join _ _ _ c.loop-number.invariant.looks c.push_slot.ensures.looks;
  read = c.in_ok-gate.ensures.read;
  count = c.in_ok-gate.ensures.number;
  later = later_join _ _ _ c.loop-number.invariant.later c.push_slot.ensures.later;
  told = c.push_slot.ensures.told ∙ c.loop-number.invariant.told;
  faults = c.in_ok-gate.ensures.cause.kept ∙ c.loop-number.invariant.faults;
}
