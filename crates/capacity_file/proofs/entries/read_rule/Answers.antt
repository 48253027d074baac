use Rattle.std.proofs.Common.{refl}
use Rattle.std.proofs.lemmas.Bool.{false≢true}
use Rattle.slot_text.specs.Fields.{fields_of}
use Rattle.capacity_file.proofs.EntryLemmas.{rule_value, no_rule}
use Rattle.capacity_file.proofs.entries.read_rule.Goals as goal

pub returns-then-is_usable : goal.returns-then-is_usable
returns-then-is_usable c =
    let fields = c.in_ok-fields.fields in
    rule_value c.in_ok-read_kind.field-0 c.in_ok-read_number.field-0 c.in_ok-read_minute.field-0 c.in_ok-read_minute-2.field-0 c.in_ok-read_weekdays.field-0 c.in_ok-read_number-2.field-0
    fields.kind.now fields.length.now fields.from.now fields.to.now fields.days.now fields.limit.now (fields_of c.args.rest.now) c.in_ok-fields.ensures
    c.in_ok-read_kind.ensures c.in_ok-read_number.ensures.found c.in_ok-read_minute.ensures.found c.in_ok-read_minute-2.ensures.found c.in_ok-read_weekdays.ensures.found c.in_ok-read_number-2.ensures.found
    (c.if-is_usable.ensures.0 refl)

pub returns-else-is_usable : goal.returns-else-is_usable
returns-else-is_usable c =
    let fields = c.in_ok-fields.fields in
    no_rule c.in_ok-read_number.field-0 c.in_ok-read_minute.field-0 c.in_ok-read_minute-2.field-0 c.in_ok-read_weekdays.field-0
    fields.kind.now fields.length.now fields.from.now fields.to.now fields.days.now fields.limit.now (fields_of c.args.rest.now) c.in_ok-fields.ensures
    c.in_ok-read_number.ensures.only c.in_ok-read_minute.ensures.only c.in_ok-read_minute-2.ensures.only c.in_ok-read_weekdays.ensures.only
    (λ usable. false≢true (c.if-is_usable.ensures.1 usable))
