use Rattle.std.proofs.Common.{sym, ◌∙◌}
use Rattle.fault_causes.proofs.ShapeLemmas.{question_field, part_field}
use Rattle.fault_causes.proofs.requests.field_cause.Goals as goal

pub returns-in-len1-up : goal.returns-in-len1-up
returns-in-len1-up c = question_field c.args.season.now c.args.line.now c.args.number c.question_cause.result c.in-len1-up.len_at_least c.if-first-eq81.true c.question_cause.ensures

pub returns-in-len1-up-2 : goal.returns-in-len1-up-2
returns-in-len1-up-2 c =
    part_field c.args.season.now c.args.line.now c.args.number c.part_cause.result c.in-len1-up.len_at_least c.if-first-eq81.false (sym c.is_blank_byte.ensures ∙ c.if-not-is_blank_byte.true) c.part_cause.ensures
