use Rattle.slot_text.specs.Lines.{lines_of}
use Rattle.capacity_file.proofs.DeclareLemmas.{declares_same}
use Rattle.capacity_file.proofs.FaultLemmas.{fault_same, no_fault}
use Rattle.capacity_file.proofs.laws.one_answer.Goals as goal

pub returns-clause-one : goal.returns-clause-one
returns-clause-one c = λ text a b x y. declares_same (record { time = c.one_value.ensures.time; days = c.one_value.ensures.days; kind = c.one_value.ensures.kind }) (lines_of text) a b x.clean x.declares y.declares

pub returns-clause-fault : goal.returns-clause-fault
returns-clause-fault c = λ text a b x y. fault_same (record { time = c.one_value.ensures.time; days = c.one_value.ensures.days; kind = c.one_value.ensures.kind }) (lines_of text) a b x y

pub returns-clause-not_both : goal.returns-clause-not_both
returns-clause-not_both c = λ text d fault x y. no_fault (record { time = c.one_value.ensures.time; days = c.one_value.ensures.days; kind = c.one_value.ensures.kind }) (lines_of text) d fault x y
