use Rattle.std.proofs.lemmas.Option.{none-some}
use Rattle.fault_causes.proofs.MessageLemmas.{here, not_none, name_is, is_cause}
use Rattle.fault_causes.proofs.requests.line_cause.Goals as goal

pub returns-in-Some-read : goal.returns-in-Some-read
returns-in-Some-read c =
    is_cause c.args.text.now c.args.number c.args.at c.requires.has c.standing_of.result.season.now c.standing_of.ensures.season c.in-Some.name.now c.in-Some-read.season c.line_of-line.result.now c.field_cause.result
    c.in-Some.ensures c.in-Some-read.ensures.found c.in-Some-read.ensures.digits c.line_of-line.ensures c.field_cause.ensures

pub returns-in-None-read : goal.returns-in-None-read
returns-in-None-read c =
    let at = here c.args.text.now c.args.number c.args.at c.requires.has in
    absurd (none-some at.season (c.in-None-read.ensures.only at.season at.year
    (name_is c.args.text.now c.args.number c.args.at c.requires.has c.standing_of.result.season.now c.standing_of.ensures.season c.in-Some.name.now c.in-Some.ensures)))

pub returns-in-None : goal.returns-in-None
returns-in-None c = absurd (not_none c.args.text.now c.args.number c.args.at c.requires.has c.standing_of.result.season.now c.standing_of.ensures.season c.in-None.ensures)
