use Rattle.std.proofs.Common.{◌∷◌, [], ℕ, List, refl, sym, subst}
use Rattle.std.proofs.lemmas.Result.{err_from_is_err_and}
use Rattle.desk_commands.specs.Judgements.{NamedBytes, capacity_cause, requests_cause}
use Rattle.desk_commands.specs.Steps.{Step, reads, judges}
use Rattle.desk_commands.specs.Jobs.{name_at, inspect_steps, IsInspection}
use Rattle.desk_commands.specs.Outside.{still}
use Rattle.command_words.specs.declared.job.Job.TheVariants.{Inspect}
use Rattle.desk_commands.specs.Desk.{World, world_of}
use Rattle.desk_commands.specs.Leads.{Leads}
use Rattle.desk_commands.specs.declared.files.TheConstants.{LONGEST_FILE}
use Rattle.desk_commands.proofs.LeadLemmas.{leads_start, leads_judge, judged_stops, memory_read}
use Rattle.desk_commands.proofs.EndLemmas.{read_done, stop_job}
use Rattle.desk_commands.proofs.inspect.inspect.Goals as goal

pub returns-in_err-capacity-clause-stop : goal.returns-in_err-capacity-clause-stop
returns-in_err-capacity-clause-stop g c =
    let w : World = world_of g.C.Cabinet.files g.C.Cabinet.fault_count g.C.Cabinet.log c.args.cabinet.now in
    let names = c.args.names.now in
    let p = err_from_is_err_and c.from_residual.result c.from_residual.ensures.1 in
    let after : World = world_of g.C.Cabinet.files g.C.Cabinet.fault_count g.C.Cabinet.log c.read_file.new.cabinet in
    rw (p.1, p.2) (stop_job names (Inspect names) w after c.in_err-capacity.field-0.0
    (c.in_err-capacity.ensures.stop w (inspect_steps names) [] (judges capacity_cause (name_at names 0) ∷ reads (name_at names 1) LONGEST_FILE ∷ judges requests_cause (name_at names 1) ∷ []) (leads_start w (inspect_steps names))))

pub returns-in_err-declaration-clause-stop : goal.returns-in_err-declaration-clause-stop
returns-in_err-declaration-clause-stop g c =
    let w : World = world_of g.C.Cabinet.files g.C.Cabinet.fault_count g.C.Cabinet.log c.args.cabinet.now in
    let v : World = world_of g.C.Cabinet.files g.C.Cabinet.fault_count g.C.Cabinet.log c.read_file.new.cabinet in
    let names = c.args.names.now in
    let first : NamedBytes = record { name = name_at names 0; bytes = c.deref.result.now } in
    let p = err_from_is_err_and c.from_residual-in_err-declaration.result c.from_residual-in_err-declaration.ensures.1 in
    let after : World = world_of g.C.Cabinet.files g.C.Cabinet.fault_count g.C.Cabinet.log c.read_file.new.cabinet in
    let left : List Step = reads (name_at names 1) LONGEST_FILE ∷ judges requests_cause (name_at names 1) ∷ [] in
    let one : Leads w (inspect_steps names) (first ∷ []) (judges capacity_cause (name_at names 0) ∷ left) v =
    subst (λ (b : List ℕ). Leads w (inspect_steps names) (record { name = name_at names 0; bytes = b } ∷ []) (judges capacity_cause (name_at names 0) ∷ left) v) (sym c.deref.ensures.value)
    (c.in_ok-capacity.ensures.leads w (inspect_steps names) [] (judges capacity_cause (name_at names 0) ∷ left) (leads_start w (inspect_steps names))) in
    rw (p.1, p.2) (stop_job names (Inspect names) w after c.in_err-declaration.field-0.0
    (judged_stops names capacity_cause (name_at names 0) (first ∷ []) c.in_err-declaration.field-0.0 w v (inspect_steps names) left (c.in_err-declaration.ensures.stop names []) one))

pub returns-in_err-requests-clause-stop : goal.returns-in_err-requests-clause-stop
returns-in_err-requests-clause-stop g c =
    let w : World = world_of g.C.Cabinet.files g.C.Cabinet.fault_count g.C.Cabinet.log c.args.cabinet.now in
    let v : World = world_of g.C.Cabinet.files g.C.Cabinet.fault_count g.C.Cabinet.log c.read_file.new.cabinet in
    let names = c.args.names.now in
    let first : NamedBytes = record { name = name_at names 0; bytes = c.deref.result.now } in
    let p = err_from_is_err_and c.from_residual-in_err-requests.result c.from_residual-in_err-requests.ensures.1 in
    let after : World = world_of g.C.Cabinet.files g.C.Cabinet.fault_count g.C.Cabinet.log c.read_file-2.new.cabinet in
    let left : List Step = reads (name_at names 1) LONGEST_FILE ∷ judges requests_cause (name_at names 1) ∷ [] in
    let one : Leads w (inspect_steps names) (first ∷ []) (judges capacity_cause (name_at names 0) ∷ left) v =
    subst (λ (b : List ℕ). Leads w (inspect_steps names) (record { name = name_at names 0; bytes = b } ∷ []) (judges capacity_cause (name_at names 0) ∷ left) v) (sym c.deref.ensures.value)
    (c.in_ok-capacity.ensures.leads w (inspect_steps names) [] (judges capacity_cause (name_at names 0) ∷ left) (leads_start w (inspect_steps names))) in
    let two = leads_judge capacity_cause (name_at names 0) (first ∷ []) (c.in_ok-declaration.ensures.alone (name_at names 0) []) w v (inspect_steps names) left one in
    rw (p.1, p.2) (stop_job names (Inspect names) w after c.in_err-requests.field-0.0
    (c.in_err-requests.ensures.stop w (inspect_steps names) (first ∷ []) (judges requests_cause (name_at names 1) ∷ []) two))

pub returns-in_err-submission-clause-stop : goal.returns-in_err-submission-clause-stop
returns-in_err-submission-clause-stop g c =
    let w : World = world_of g.C.Cabinet.files g.C.Cabinet.fault_count g.C.Cabinet.log c.args.cabinet.now in
    let v : World = world_of g.C.Cabinet.files g.C.Cabinet.fault_count g.C.Cabinet.log c.read_file.new.cabinet in
    let u : World = world_of g.C.Cabinet.files g.C.Cabinet.fault_count g.C.Cabinet.log c.read_file-2.new.cabinet in
    let names = c.args.names.now in
    let first : NamedBytes = record { name = name_at names 0; bytes = c.deref.result.now } in
    let second : NamedBytes = record { name = name_at names 1; bytes = c.deref-2.result.now } in
    let p = err_from_is_err_and c.from_residual-in_err-submission.result c.from_residual-in_err-submission.ensures.1 in
    let after : World = world_of g.C.Cabinet.files g.C.Cabinet.fault_count g.C.Cabinet.log c.read_file-2.new.cabinet in
    let left : List Step = reads (name_at names 1) LONGEST_FILE ∷ judges requests_cause (name_at names 1) ∷ [] in
    let one : Leads w (inspect_steps names) (first ∷ []) (judges capacity_cause (name_at names 0) ∷ left) v =
    subst (λ (b : List ℕ). Leads w (inspect_steps names) (record { name = name_at names 0; bytes = b } ∷ []) (judges capacity_cause (name_at names 0) ∷ left) v) (sym c.deref.ensures.value)
    (c.in_ok-capacity.ensures.leads w (inspect_steps names) [] (judges capacity_cause (name_at names 0) ∷ left) (leads_start w (inspect_steps names))) in
    let two = leads_judge capacity_cause (name_at names 0) (first ∷ []) (c.in_ok-declaration.ensures.alone (name_at names 0) []) w v (inspect_steps names) left one in
    let three : Leads w (inspect_steps names) (first ∷ second ∷ []) (judges requests_cause (name_at names 1) ∷ []) u =
    subst (λ (b : List ℕ). Leads w (inspect_steps names) (first ∷ record { name = name_at names 1; bytes = b } ∷ []) (judges requests_cause (name_at names 1) ∷ []) u) (sym c.deref-2.ensures.value)
    (c.in_ok-requests.ensures.leads w (inspect_steps names) (first ∷ []) (judges requests_cause (name_at names 1) ∷ []) two) in
    rw (p.1, p.2) (stop_job names (Inspect names) w after c.in_err-submission.field-0.0
    (judged_stops names requests_cause (name_at names 1) (first ∷ second ∷ []) c.in_err-submission.field-0.0 w u (inspect_steps names) [] (c.in_err-submission.ensures.stop names first [] c.in_ok-declaration.ensures.found) three))

pub returns-in_err-text-clause-stop : goal.returns-in_err-text-clause-stop
returns-in_err-text-clause-stop g c =
    let w : World = world_of g.C.Cabinet.files g.C.Cabinet.fault_count g.C.Cabinet.log c.args.cabinet.now in
    let v : World = world_of g.C.Cabinet.files g.C.Cabinet.fault_count g.C.Cabinet.log c.read_file.new.cabinet in
    let u : World = world_of g.C.Cabinet.files g.C.Cabinet.fault_count g.C.Cabinet.log c.read_file-2.new.cabinet in
    let names = c.args.names.now in
    let first : NamedBytes = record { name = name_at names 0; bytes = c.deref.result.now } in
    let second : NamedBytes = record { name = name_at names 1; bytes = c.deref-2.result.now } in
    let left : List Step = reads (name_at names 1) LONGEST_FILE ∷ judges requests_cause (name_at names 1) ∷ [] in
    let one : Leads w (inspect_steps names) (first ∷ []) (judges capacity_cause (name_at names 0) ∷ left) v =
    subst (λ (b : List ℕ). Leads w (inspect_steps names) (record { name = name_at names 0; bytes = b } ∷ []) (judges capacity_cause (name_at names 0) ∷ left) v) (sym c.deref.ensures.value)
    (c.in_ok-capacity.ensures.leads w (inspect_steps names) [] (judges capacity_cause (name_at names 0) ∷ left) (leads_start w (inspect_steps names))) in
    let two = leads_judge capacity_cause (name_at names 0) (first ∷ []) (c.in_ok-declaration.ensures.alone (name_at names 0) []) w v (inspect_steps names) left one in
    let three : Leads w (inspect_steps names) (first ∷ second ∷ []) (judges requests_cause (name_at names 1) ∷ []) u =
    subst (λ (b : List ℕ). Leads w (inspect_steps names) (first ∷ record { name = name_at names 1; bytes = b } ∷ []) (judges requests_cause (name_at names 1) ∷ []) u) (sym c.deref-2.ensures.value)
    (c.in_ok-requests.ensures.leads w (inspect_steps names) (first ∷ []) (judges requests_cause (name_at names 1) ∷ []) two) in
    let four = leads_judge requests_cause (name_at names 1) (first ∷ second ∷ []) (c.in_ok-submission.ensures.alone (name_at names 1) first [] c.in_ok-declaration.ensures.found) w u (inspect_steps names) [] three in
    let p = err_from_is_err_and c.from_residual-in_err-text.result c.from_residual-in_err-text.ensures.1 in
    rw (p.1, p.2) (λ o. memory_read w u u (inspect_steps names) (first ∷ second ∷ []) [] four refl)

pub returns-clause-done : goal.returns-clause-done
returns-clause-done g c =
    let w : World = world_of g.C.Cabinet.files g.C.Cabinet.fault_count g.C.Cabinet.log c.args.cabinet.now in
    let v : World = world_of g.C.Cabinet.files g.C.Cabinet.fault_count g.C.Cabinet.log c.read_file.new.cabinet in
    let u : World = world_of g.C.Cabinet.files g.C.Cabinet.fault_count g.C.Cabinet.log c.read_file-2.new.cabinet in
    let names = c.args.names.now in
    let first : NamedBytes = record { name = name_at names 0; bytes = c.deref.result.now } in
    let second : NamedBytes = record { name = name_at names 1; bytes = c.deref-2.result.now } in
    let left : List Step = reads (name_at names 1) LONGEST_FILE ∷ judges requests_cause (name_at names 1) ∷ [] in
    let one : Leads w (inspect_steps names) (first ∷ []) (judges capacity_cause (name_at names 0) ∷ left) v =
    subst (λ (b : List ℕ). Leads w (inspect_steps names) (record { name = name_at names 0; bytes = b } ∷ []) (judges capacity_cause (name_at names 0) ∷ left) v) (sym c.deref.ensures.value)
    (c.in_ok-capacity.ensures.leads w (inspect_steps names) [] (judges capacity_cause (name_at names 0) ∷ left) (leads_start w (inspect_steps names))) in
    let two = leads_judge capacity_cause (name_at names 0) (first ∷ []) (c.in_ok-declaration.ensures.alone (name_at names 0) []) w v (inspect_steps names) left one in
    let three : Leads w (inspect_steps names) (first ∷ second ∷ []) (judges requests_cause (name_at names 1) ∷ []) u =
    subst (λ (b : List ℕ). Leads w (inspect_steps names) (first ∷ record { name = name_at names 1; bytes = b } ∷ []) (judges requests_cause (name_at names 1) ∷ []) u) (sym c.deref-2.ensures.value)
    (c.in_ok-requests.ensures.leads w (inspect_steps names) (first ∷ []) (judges requests_cause (name_at names 1) ∷ []) two) in
    let four = leads_judge requests_cause (name_at names 1) (first ∷ second ∷ []) (c.in_ok-submission.ensures.alone (name_at names 1) first [] c.in_ok-declaration.ensures.found) w u (inspect_steps names) [] three in
    let work : IsInspection names first.bytes second.bytes [] 0 c.in_ok-text.text.items =
    record {
      season = c.in_ok-submission.submission;
      made = c.in_ok-submission.ensures.found first.bytes c.in_ok-declaration.ensures.found;
      written = refl;
      printed = c.in_ok-text.ensures;
      status_is = refl;
    } in
    λ o. read_done (Inspect names) w u (first ∷ second ∷ []) four (still o) 0 _ (refl, work)
