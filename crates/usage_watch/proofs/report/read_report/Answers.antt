use Rattle.std.proofs.Common.{List, ℕ, sym, subst, arith, rules}
use Rattle.std.specs.Prelude.{codes}
use Rattle.std.proofs.lemmas.Option.{none-some, same_Some}
use Rattle.slot_text.specs.Fields.{fields_of}
use Rattle.schedule_text.specs.Kinds.{kind_text}
use Rattle.scr_reader.specs.Parts.{IsFlight}
use Rattle.usage_watch.proofs.ReportLemmas.{same_fields, same_report}
use Rattle.usage_watch.proofs.report.read_report.Goals as goal

pub returns-in_err-fields-clause-only : goal.returns-in_err-fields-clause-only
returns-in_err-fields-clause-only c = λ report is. absurd (c.in_err-fields.ensures (kind_text report.kind) is.flight_field is.dates_field is.days_field is.fields)

pub returns-in_err-kind-clause-only : goal.returns-in_err-kind-clause-only
returns-in_err-kind-clause-only c = λ report is.
    let x = c.in_ok-fields.fields in
    let same = same_fields (fields_of c.args.line.now) (codes "OPER") (kind_text report.kind) is.flight_field is.dates_field is.days_field x.kind.now x.flight.now x.dates.now x.days.now is.fields c.in_ok-fields.ensures in
    absurd (none-some _ (c.in_err-kind.ensures.only report.kind same.0 is.kind))

pub returns-in_err-flight-clause-only : goal.returns-in_err-flight-clause-only
returns-in_err-flight-clause-only c = λ report is.
    let x = c.in_ok-fields.fields in
    let same = same_fields (fields_of c.args.line.now) (codes "OPER") (kind_text report.kind) is.flight_field is.dates_field is.days_field x.kind.now x.flight.now x.dates.now x.days.now is.fields c.in_ok-fields.ensures in
    absurd (none-some _ (c.in_err-flight.ensures.only report.flight (subst (λ (t : List ℕ). IsFlight t report.flight) (sym same.1) is.flight)))

pub returns-in_err-period-clause-only : goal.returns-in_err-period-clause-only
returns-in_err-period-clause-only c = λ report is.
    let x = c.in_ok-fields.fields in
    let same = same_fields (fields_of c.args.line.now) (codes "OPER") (kind_text report.kind) is.flight_field is.dates_field is.days_field x.kind.now x.flight.now x.dates.now x.days.now is.fields c.in_ok-fields.ensures in
    absurd (none-some _ (c.in_err-period.ensures.only report.period (rw (same.2, same.3) is.period)))

pub returns-clause-found : goal.returns-clause-found
returns-clause-found c = record {
  short = omega arith;
  trimmed = c.is_trimmed.ensures.0 (search rules);
  flight_field = c.in_ok-fields.fields.flight.now;
  dates_field = c.in_ok-fields.fields.dates.now;
  days_field = c.in_ok-fields.fields.days.now;
  fields = rw (sym c.in_ok-kind.ensures.found.0) c.in_ok-fields.ensures;
  kind = c.in_ok-kind.ensures.found.1;
  flight = c.in_ok-flight.ensures.found;
  period = c.in_ok-period.ensures.found;
}

pub returns-clause-only : goal.returns-clause-only
returns-clause-only c = λ report is.
    let x = c.in_ok-fields.fields in
    let same = same_fields (fields_of c.args.line.now) (codes "OPER") (kind_text report.kind) is.flight_field is.dates_field is.days_field x.kind.now x.flight.now x.dates.now x.days.now is.fields c.in_ok-fields.ensures in
    let kind = same_Some _ _ (c.in_ok-kind.ensures.only report.kind same.0 is.kind) in
    let flight = same_Some _ _ (c.in_ok-flight.ensures.only report.flight (subst (λ (t : List ℕ). IsFlight t report.flight) (sym same.1) is.flight)) in
    let period = same_Some _ _ (c.in_ok-period.ensures.only report.period (rw (same.2, same.3) is.period)) in
    same_report c.in_ok-kind.kind c.in_ok-flight.flight c.in_ok-period.period report kind flight period
