use Rattle.fault_causes.proofs.OneCapacityLemmas.{one_capacity_cause}
use Rattle.fault_causes.proofs.OneMessageLemmas.{one_message_cause, one_submission_cause}
use Rattle.fault_causes.proofs.laws.one_cause.Goals as goal

pub returns-clause-capacity : goal.returns-clause-capacity
returns-clause-capacity c = one_capacity_cause

pub returns-clause-message : goal.returns-clause-message
returns-clause-message c = one_message_cause

pub returns-clause-submission : goal.returns-clause-submission
returns-clause-submission c = one_submission_cause
