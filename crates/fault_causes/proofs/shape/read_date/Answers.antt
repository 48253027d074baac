use Rattle.std.proofs.Common.{subst, sym}
use Rattle.fault_causes.specs.Standings.{IsDated}
use Rattle.fault_causes.specs.declared.shape.Dated.{Dated}
use Rattle.fault_causes.proofs.DateLemmas.{date_form, fault_dated}
use Rattle.fault_causes.proofs.shape.read_date.Goals as goal

pub returns-in-Ok : goal.returns-in-Ok
returns-in-Ok c =
    let form = date_form c.args.text.now c.split_at.result.0.now c.split_at.result.1.now c.in_ok-month.month c.in_ok-day.day c.split_at.ensures.front c.split_at.ensures.back c.in_ok-day.ensures.found c.in_ok-month.ensures.found in
    ((c.in_ok-month.month, c.in_ok-day.day), form, (c.in-Ok.field-0.0, c.in-Ok.ensures.found))

pub returns-in-Err : goal.returns-in-Err
returns-in-Err c =
    let form = date_form c.args.text.now c.split_at.result.0.now c.split_at.result.1.now c.in_ok-month.month c.in_ok-day.day c.split_at.ensures.front c.split_at.ensures.back c.in_ok-day.ensures.found c.in_ok-month.ensures.found in
    let dated = fault_dated c.args.season.now c.in_ok-month.month c.in_ok-day.day c.day_of.result c.in-Err.fault c.in-Err.is c.in-Err.ensures.no_other c.day_of.ensures.no_such_date.0 c.day_of.ensures.outside c.day_of.ensures.only in
    ((c.in_ok-month.month, c.in_ok-day.day), form, subst (λ (d : Dated). IsDated c.args.season.now (c.in_ok-month.month, c.in_ok-day.day) d) (sym c.dated_fault.ensures) dated)
