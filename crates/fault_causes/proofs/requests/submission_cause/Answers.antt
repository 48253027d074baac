use Rattle.std.proofs.Common.{ℕ, List, sym, subst}
use Rattle.series_model.specs.declared.fault.ModelFault.{ModelFault}
use Rattle.fault_causes.specs.Requests.{IsCodeCause, IsSubmissionCause, HasSubmissionFault}
use Rattle.fault_causes.proofs.MessageLemmas.{code_here, code_cause, no_model_memory}
use Rattle.fault_causes.proofs.requests.submission_cause.Goals as goal

pub code_cause-requires : goal.code_cause-requires
code_cause-requires c =
    let text = c.args.text.now in
    let has = code_here text c.in-NotInitial.line (subst (λ (f : ModelFault). HasSubmissionFault text f) c.in-NotInitial.is c.requires.has) in
    (has.code.cause, subst (λ (l : List ℕ). IsCodeCause l has.code.cause) (sym (c.line_of.ensures has.line has.stands)) has.code.is)

pub returns-in-NotInitial : goal.returns-in-NotInitial
returns-in-NotInitial c =
    let text = c.args.text.now in
    let has = code_here text c.in-NotInitial.line (subst (λ (f : ModelFault). HasSubmissionFault text f) c.in-NotInitial.is c.requires.has) in
    subst (λ (f : ModelFault). IsSubmissionCause text f c.code_cause.result) (sym c.in-NotInitial.is)
    (code_cause text c.in-NotInitial.line has c.line_of.result.now c.code_cause.result c.line_of.ensures c.code_cause.ensures)

pub returns-in-Memory : goal.returns-in-Memory
returns-in-Memory c =
    let text = c.args.text.now in
    absurd (no_model_memory text (subst (λ (f : ModelFault). HasSubmissionFault text f) c.in-Memory.is c.requires.has))
