use Rattle.std.proofs.Common.{ℕ, List, sym, subst}
use Rattle.capacity_file.specs.Faults.{HasCapacityFault}
use Rattle.capacity_file.specs.declared.fault.CapFault.{CapFault}
use Rattle.fault_causes.specs.Capacities.{IsTwiceCause, IsCapacityCause}
use Rattle.fault_causes.proofs.CapacityLemmas.{bad_line, bad_cause, twice_line}
use Rattle.fault_causes.proofs.capacity.capacity_cause.Goals as goal

pub twice_cause-requires : goal.twice_cause-requires
twice_cause-requires c =
    let text = c.args.text.now in
    let has = twice_line text c.in-Twice.line (subst (λ (f : CapFault). HasCapacityFault text f) c.in-Twice.is c.requires.has) in
    (has.cause, subst (λ (l : List ℕ). IsTwiceCause l has.cause) (sym (c.line_of-in-Twice.ensures has.line has.stands)) has.is)

pub returns-in-BadLine : goal.returns-in-BadLine
returns-in-BadLine c =
    let text = c.args.text.now in
    let has = bad_line text c.in-BadLine.line (subst (λ (f : CapFault). HasCapacityFault text f) c.in-BadLine.is c.requires.has) in
    subst (λ (f : CapFault). IsCapacityCause text f c.bad_line_cause.result) (sym c.in-BadLine.is)
    (bad_cause text c.in-BadLine.line has c.line_of.result.now c.bad_line_cause.result c.line_of.ensures c.bad_line_cause.ensures)
