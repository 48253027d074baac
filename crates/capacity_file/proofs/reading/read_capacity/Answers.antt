use Rattle.std.proofs.Common.{◌≡◌, rules}
use Rattle.std.specs.Prelude.{IsErrAnd}
use Rattle.slot_text.specs.Lines.{lines_of}
use Rattle.capacity_file.proofs.FinishLemmas.{rules_are_allowed}
use Rattle.capacity_file.proofs.LoopLemmas.{answer_err, answer_found, answer_fault, answer_only, answer_exact, answer_capacity, answer_keeps, answer_allowed}
use Rattle.capacity_file.proofs.reading.read_capacity.Goals as goal

pub returns-in_err-draft-clause-only : goal.returns-in_err-draft-clause-only
returns-in_err-draft-clause-only c =
    let lines = lines_of c.args.bytes.now in
    let err : IsErrAnd c.from_residual.result (λ f. f ≡ c.in_err-draft.field-0.0) = search rules in
    answer_only (record { time = c.one_value.ensures.time; days = c.one_value.ensures.days; kind = c.one_value.ensures.kind }) lines c.from_residual.result (answer_err lines c.in_err-draft.field-0.0 c.from_residual.result err c.in_err-draft.ensures)

pub returns-in_err-draft-clause-exact : goal.returns-in_err-draft-clause-exact
returns-in_err-draft-clause-exact c =
    let lines = lines_of c.args.bytes.now in
    let err : IsErrAnd c.from_residual.result (λ f. f ≡ c.in_err-draft.field-0.0) = search rules in
    answer_exact (record { time = c.one_value.ensures.time; days = c.one_value.ensures.days; kind = c.one_value.ensures.kind }) lines c.from_residual.result (answer_err lines c.in_err-draft.field-0.0 c.from_residual.result err c.in_err-draft.ensures)

pub finish-requires-clause-rules : goal.finish-requires-clause-rules
finish-requires-clause-rules c = rules_are_allowed (lines_of c.args.bytes.now) c.in_ok-draft.draft.singles c.in_ok-draft.draft.rules.items c.in_ok-draft.ensures

pub returns-clause-found : goal.returns-clause-found
returns-clause-found c = answer_found (lines_of c.args.bytes.now) c.finish.result (c.finish.ensures (lines_of c.args.bytes.now) c.in_ok-draft.ensures)

pub returns-clause-only : goal.returns-clause-only
returns-clause-only c = answer_only (record { time = c.one_value.ensures.time; days = c.one_value.ensures.days; kind = c.one_value.ensures.kind }) (lines_of c.args.bytes.now) c.finish.result (c.finish.ensures (lines_of c.args.bytes.now) c.in_ok-draft.ensures)

pub returns-clause-fault : goal.returns-clause-fault
returns-clause-fault c = answer_fault (lines_of c.args.bytes.now) c.finish.result (c.finish.ensures (lines_of c.args.bytes.now) c.in_ok-draft.ensures)

pub returns-clause-exact : goal.returns-clause-exact
returns-clause-exact c = answer_exact (record { time = c.one_value.ensures.time; days = c.one_value.ensures.days; kind = c.one_value.ensures.kind }) (lines_of c.args.bytes.now) c.finish.result (c.finish.ensures (lines_of c.args.bytes.now) c.in_ok-draft.ensures)

pub returns-clause-capacity : goal.returns-clause-capacity
returns-clause-capacity c = answer_capacity (lines_of c.args.bytes.now) c.finish.result (c.finish.ensures (lines_of c.args.bytes.now) c.in_ok-draft.ensures)

pub returns-clause-allowed : goal.returns-clause-allowed
returns-clause-allowed c = answer_allowed (lines_of c.args.bytes.now) c.finish.result (c.finish.ensures (lines_of c.args.bytes.now) c.in_ok-draft.ensures)

pub returns-clause-keeps : goal.returns-clause-keeps
returns-clause-keeps c = answer_keeps (lines_of c.args.bytes.now) c.finish.result (c.finish.ensures (lines_of c.args.bytes.now) c.in_ok-draft.ensures)
