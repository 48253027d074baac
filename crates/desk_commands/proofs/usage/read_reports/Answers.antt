use Rattle.std.proofs.Common.{[], ◌∷◌, ℕ, List, subst}
use Rattle.std.proofs.lemmas.Result.{err_from_is_err_and}
use Rattle.usage_watch.specs.Reports.{SaysOperated}
use Rattle.desk_commands.specs.Judgements.{NamedBytes, reports_form}
use Rattle.desk_commands.specs.Steps.{judges}
use Rattle.desk_commands.specs.Jobs.{name_at}
use Rattle.desk_commands.specs.Desk.{World, world_of}
use Rattle.desk_commands.specs.Leads.{AcceptsAlone}
use Rattle.desk_commands.specs.Stops.{IsJudged}
use Rattle.desk_commands.proofs.LeadLemmas.{leads_judge, judged_stops}
use Rattle.desk_commands.proofs.usage.read_reports.Goals as goal

pub returns-in_err-bytes-clause-stop : goal.returns-in_err-bytes-clause-stop
returns-in_err-bytes-clause-stop g c =
    let name = name_at c.args.names.now 3 in
    let p = err_from_is_err_and c.from_residual.result c.from_residual.ensures.1 in
    rw (p.1, p.2) (λ w all steps capacity requests certificate made lead.
    c.in_err-bytes.ensures.stop w all (capacity ∷ requests ∷ certificate ∷ []) (judges reports_form name ∷ steps) lead)

pub returns-in_err-operated-clause-stop : goal.returns-in_err-operated-clause-stop
returns-in_err-operated-clause-stop g c =
    let v : World = world_of g.C.Cabinet.files g.C.Cabinet.fault_count g.C.Cabinet.log c.read_file.new.cabinet in
    let names = c.args.names.now in
    let name = name_at names 3 in
    let text : NamedBytes = record { name = name; bytes = c.in_ok-bytes.bytes.items } in
    let p = err_from_is_err_and c.from_residual-in_err-operated.result c.from_residual-in_err-operated.ensures.1 in
    rw (p.1, p.2) (λ w all steps capacity requests certificate made lead.
    let one = c.in_ok-bytes.ensures.leads w all (capacity ∷ requests ∷ certificate ∷ []) (judges reports_form name ∷ steps) lead in
    let why = subst (λ (l : List ℕ). IsJudged names reports_form name (capacity ∷ requests ∷ certificate ∷ record { name = name; bytes = l } ∷ []) c.in_err-operated.field-0.0) c.deref.ensures.value (c.in_err-operated.ensures.stop names capacity requests certificate [] made) in
    judged_stops names reports_form name (capacity ∷ requests ∷ certificate ∷ text ∷ []) c.in_err-operated.field-0.0 w v all steps why one)

pub returns-clause-found : goal.returns-clause-found
returns-clause-found g c = λ w all steps capacity requests certificate made lead.
    let v : World = world_of g.C.Cabinet.files g.C.Cabinet.fault_count g.C.Cabinet.log c.read_file.new.cabinet in
    let name = name_at c.args.names.now 3 in
    let text : NamedBytes = record { name = name; bytes = c.in_ok-bytes.bytes.items } in
    let one = c.in_ok-bytes.ensures.leads w all (capacity ∷ requests ∷ certificate ∷ []) (judges reports_form name ∷ steps) lead in
    let accepted = subst (λ (l : List ℕ). AcceptsAlone reports_form name (capacity ∷ requests ∷ certificate ∷ record { name = name; bytes = l } ∷ [])) c.deref.ensures.value (c.in_ok-operated.ensures.alone name capacity requests certificate [] made) in (
      text,
      subst (λ (l : List ℕ). SaysOperated c.args.submission.now.declaration.season l c.in_ok-operated.operated) c.deref.ensures.value c.in_ok-operated.ensures.found,
      leads_judge reports_form name (capacity ∷ requests ∷ certificate ∷ text ∷ []) accepted w v all steps one,
    )
