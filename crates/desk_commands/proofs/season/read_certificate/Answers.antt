use Rattle.std.proofs.Common.{◌∷◌, []}
use Rattle.std.proofs.lemmas.Result.{err_from_is_err_and}
use Rattle.desk_commands.specs.Judgements.{NamedBytes, certificate_form, valid_certificate}
use Rattle.desk_commands.specs.Steps.{judges}
use Rattle.desk_commands.specs.Jobs.{name_at}
use Rattle.desk_commands.specs.Desk.{World, world_of}
use Rattle.desk_commands.proofs.LeadLemmas.{leads_judge, judged_stops}
use Rattle.desk_commands.proofs.season.read_certificate.Goals as goal

pub returns-in_err-certificate-clause-stop : goal.returns-in_err-certificate-clause-stop
returns-in_err-certificate-clause-stop g c =
    let v : World = world_of g.C.Cabinet.files g.C.Cabinet.fault_count g.C.Cabinet.log c.read_file.new.cabinet in
    let name = name_at c.args.names.now 2 in
    let third : NamedBytes = record { name = name; bytes = c.in_ok-bytes.bytes.items } in
    let p = err_from_is_err_and c.from_residual-in_err-certificate.result c.from_residual-in_err-certificate.ensures.1 in
    rw (p.1, p.2) (λ w all steps capacity requests season lead.
    let one = c.in_ok-bytes.ensures.leads w all (capacity ∷ requests ∷ []) (judges certificate_form name ∷ judges valid_certificate name ∷ steps) lead in
    judged_stops c.args.names.now certificate_form name (capacity ∷ requests ∷ third ∷ []) c.in_err-certificate.field-0.0 w v all (judges valid_certificate name ∷ steps) (c.in_err-certificate.ensures.stop c.args.names.now capacity requests []) one)

pub returns-in_err-judge_validity-clause-stop : goal.returns-in_err-judge_validity-clause-stop
returns-in_err-judge_validity-clause-stop g c =
    let v : World = world_of g.C.Cabinet.files g.C.Cabinet.fault_count g.C.Cabinet.log c.read_file.new.cabinet in
    let name = name_at c.args.names.now 2 in
    let third : NamedBytes = record { name = name; bytes = c.in_ok-bytes.bytes.items } in
    let p = err_from_is_err_and c.from_residual-in_err-judge_validity.result c.from_residual-in_err-judge_validity.ensures.1 in
    rw (p.1, p.2) (λ w all steps capacity requests season lead.
    let one = c.in_ok-bytes.ensures.leads w all (capacity ∷ requests ∷ []) (judges certificate_form name ∷ judges valid_certificate name ∷ steps) lead in
    let two = leads_judge certificate_form name (capacity ∷ requests ∷ third ∷ []) (c.in_ok-certificate.ensures.alone name capacity requests []) w v all (judges valid_certificate name ∷ steps) one in
    judged_stops c.args.names.now valid_certificate name (capacity ∷ requests ∷ third ∷ []) c.in_err-judge_validity.field-0.0 w v all steps
    (c.in_err-judge_validity.ensures.stop c.args.names.now name capacity requests third [] season c.in_ok-certificate.ensures.found.0 c.in_ok-certificate.ensures.only) two)

pub returns-clause-found : goal.returns-clause-found
returns-clause-found g c = λ w all steps capacity requests season lead.
    let v : World = world_of g.C.Cabinet.files g.C.Cabinet.fault_count g.C.Cabinet.log c.read_file.new.cabinet in
    let name = name_at c.args.names.now 2 in
    let third : NamedBytes = record { name = name; bytes = c.in_ok-bytes.bytes.items } in
    let one = c.in_ok-bytes.ensures.leads w all (capacity ∷ requests ∷ []) (judges certificate_form name ∷ judges valid_certificate name ∷ steps) lead in
    let two = leads_judge certificate_form name (capacity ∷ requests ∷ third ∷ []) (c.in_ok-certificate.ensures.alone name capacity requests []) w v all (judges valid_certificate name ∷ steps) one in (
      third,
      c.in_ok-certificate.ensures.found.0,
      leads_judge valid_certificate name (capacity ∷ requests ∷ third ∷ [])
          (c.in_ok-judge_validity.ensures.alone name capacity requests third [] season c.in_ok-certificate.ensures.found.0 c.in_ok-certificate.ensures.only) w v all steps two,
    )

pub returns-clause-leads : goal.returns-clause-leads
returns-clause-leads g c =
    let v : World = world_of g.C.Cabinet.files g.C.Cabinet.fault_count g.C.Cabinet.log c.read_file.new.cabinet in
    let name = name_at c.args.names.now 2 in
    let third : NamedBytes = record { name = name; bytes = c.in_ok-bytes.bytes.items } in (
      third,
      c.in_ok-certificate.ensures.found.0,
      c.in_ok-certificate.ensures.only,
      λ w all steps capacity requests season lead.
          let one = c.in_ok-bytes.ensures.leads w all (capacity ∷ requests ∷ []) (judges certificate_form name ∷ judges valid_certificate name ∷ steps) lead in
          let two = leads_judge certificate_form name (capacity ∷ requests ∷ third ∷ []) (c.in_ok-certificate.ensures.alone name capacity requests []) w v all (judges valid_certificate name ∷ steps) one in
          leads_judge valid_certificate name (capacity ∷ requests ∷ third ∷ [])
          (c.in_ok-judge_validity.ensures.alone name capacity requests third [] season c.in_ok-certificate.ensures.found.0 c.in_ok-certificate.ensures.only) w v all steps two,
    )
