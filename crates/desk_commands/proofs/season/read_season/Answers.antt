use Rattle.std.proofs.Common.{◌∷◌, [], ℕ, List, sym, subst}
use Rattle.std.proofs.lemmas.Result.{err_from_is_err_and}
use Rattle.desk_commands.specs.Judgements.{NamedBytes, capacity_form, requests_form}
use Rattle.desk_commands.specs.Steps.{Step, reads, judges}
use Rattle.desk_commands.specs.Jobs.{name_at, season_steps}
use Rattle.desk_commands.specs.Desk.{World, world_of}
use Rattle.desk_commands.specs.Leads.{Leads}
use Rattle.desk_commands.specs.declared.files.TheConstants.{LONGEST_FILE}
use Rattle.desk_commands.proofs.LeadLemmas.{leads_start, leads_judge, judged_stops}
use Rattle.desk_commands.proofs.season.read_season.Goals as goal

pub returns-in_err-capacity-clause-stop : goal.returns-in_err-capacity-clause-stop
returns-in_err-capacity-clause-stop g c =
    let w : World = world_of g.C.Cabinet.files g.C.Cabinet.fault_count g.C.Cabinet.log c.args.cabinet.now in
    let names = c.args.names.now in
    let p = err_from_is_err_and c.from_residual.result c.from_residual.ensures.1 in
    rw (p.1, p.2) (λ steps. c.in_err-capacity.ensures.stop w (season_steps names steps) [] (judges capacity_form (name_at names 0) ∷ reads (name_at names 1) LONGEST_FILE ∷ judges requests_form (name_at names 1) ∷ steps) (leads_start w (season_steps names steps)))

pub returns-in_err-declaration-clause-stop : goal.returns-in_err-declaration-clause-stop
returns-in_err-declaration-clause-stop g c =
    let w : World = world_of g.C.Cabinet.files g.C.Cabinet.fault_count g.C.Cabinet.log c.args.cabinet.now in
    let v : World = world_of g.C.Cabinet.files g.C.Cabinet.fault_count g.C.Cabinet.log c.read_file.new.cabinet in
    let names = c.args.names.now in
    let first : NamedBytes = record { name = name_at names 0; bytes = c.deref.result.now } in
    let p = err_from_is_err_and c.from_residual-in_err-declaration.result c.from_residual-in_err-declaration.ensures.1 in
    rw (p.1, p.2) (λ steps.
    let left : List Step = reads (name_at names 1) LONGEST_FILE ∷ judges requests_form (name_at names 1) ∷ steps in
    let one : Leads w (season_steps names steps) (first ∷ []) (judges capacity_form (name_at names 0) ∷ left) v =
    subst (λ (b : List ℕ). Leads w (season_steps names steps) (record { name = name_at names 0; bytes = b } ∷ []) (judges capacity_form (name_at names 0) ∷ left) v) (sym c.deref.ensures.value)
    (c.in_ok-capacity.ensures.leads w (season_steps names steps) [] (judges capacity_form (name_at names 0) ∷ left) (leads_start w (season_steps names steps))) in
    judged_stops names capacity_form (name_at names 0) (first ∷ []) c.in_err-declaration.field-0.0 w v (season_steps names steps) left (c.in_err-declaration.ensures.stop names []) one)

pub returns-in_err-requests-clause-stop : goal.returns-in_err-requests-clause-stop
returns-in_err-requests-clause-stop g c =
    let w : World = world_of g.C.Cabinet.files g.C.Cabinet.fault_count g.C.Cabinet.log c.args.cabinet.now in
    let v : World = world_of g.C.Cabinet.files g.C.Cabinet.fault_count g.C.Cabinet.log c.read_file.new.cabinet in
    let names = c.args.names.now in
    let first : NamedBytes = record { name = name_at names 0; bytes = c.deref.result.now } in
    let p = err_from_is_err_and c.from_residual-in_err-requests.result c.from_residual-in_err-requests.ensures.1 in
    rw (p.1, p.2) (λ steps.
    let left : List Step = reads (name_at names 1) LONGEST_FILE ∷ judges requests_form (name_at names 1) ∷ steps in
    let one : Leads w (season_steps names steps) (first ∷ []) (judges capacity_form (name_at names 0) ∷ left) v =
    subst (λ (b : List ℕ). Leads w (season_steps names steps) (record { name = name_at names 0; bytes = b } ∷ []) (judges capacity_form (name_at names 0) ∷ left) v) (sym c.deref.ensures.value)
    (c.in_ok-capacity.ensures.leads w (season_steps names steps) [] (judges capacity_form (name_at names 0) ∷ left) (leads_start w (season_steps names steps))) in
    let two = leads_judge capacity_form (name_at names 0) (first ∷ []) (c.in_ok-declaration.ensures.alone (name_at names 0) []) w v (season_steps names steps) left one in
    c.in_err-requests.ensures.stop w (season_steps names steps) (first ∷ []) (judges requests_form (name_at names 1) ∷ steps) two)

pub returns-in_err-submission-clause-stop : goal.returns-in_err-submission-clause-stop
returns-in_err-submission-clause-stop g c =
    let w : World = world_of g.C.Cabinet.files g.C.Cabinet.fault_count g.C.Cabinet.log c.args.cabinet.now in
    let v : World = world_of g.C.Cabinet.files g.C.Cabinet.fault_count g.C.Cabinet.log c.read_file.new.cabinet in
    let u : World = world_of g.C.Cabinet.files g.C.Cabinet.fault_count g.C.Cabinet.log c.read_file-2.new.cabinet in
    let names = c.args.names.now in
    let first : NamedBytes = record { name = name_at names 0; bytes = c.deref.result.now } in
    let second : NamedBytes = record { name = name_at names 1; bytes = c.deref-2.result.now } in
    let p = err_from_is_err_and c.from_residual-in_err-submission.result c.from_residual-in_err-submission.ensures.1 in
    rw (p.1, p.2) (λ steps.
    let left : List Step = reads (name_at names 1) LONGEST_FILE ∷ judges requests_form (name_at names 1) ∷ steps in
    let one : Leads w (season_steps names steps) (first ∷ []) (judges capacity_form (name_at names 0) ∷ left) v =
    subst (λ (b : List ℕ). Leads w (season_steps names steps) (record { name = name_at names 0; bytes = b } ∷ []) (judges capacity_form (name_at names 0) ∷ left) v) (sym c.deref.ensures.value)
    (c.in_ok-capacity.ensures.leads w (season_steps names steps) [] (judges capacity_form (name_at names 0) ∷ left) (leads_start w (season_steps names steps))) in
    let two = leads_judge capacity_form (name_at names 0) (first ∷ []) (c.in_ok-declaration.ensures.alone (name_at names 0) []) w v (season_steps names steps) left one in
    let three : Leads w (season_steps names steps) (first ∷ second ∷ []) (judges requests_form (name_at names 1) ∷ steps) u =
    subst (λ (b : List ℕ). Leads w (season_steps names steps) (first ∷ record { name = name_at names 1; bytes = b } ∷ []) (judges requests_form (name_at names 1) ∷ steps) u) (sym c.deref-2.ensures.value)
    (c.in_ok-requests.ensures.leads w (season_steps names steps) (first ∷ []) (judges requests_form (name_at names 1) ∷ steps) two) in
    judged_stops names requests_form (name_at names 1) (first ∷ second ∷ []) c.in_err-submission.field-0.0 w u (season_steps names steps) steps (c.in_err-submission.ensures.stop names first [] c.in_ok-declaration.ensures.found) three)

pub returns-clause-found : goal.returns-clause-found
returns-clause-found g c =
    let w : World = world_of g.C.Cabinet.files g.C.Cabinet.fault_count g.C.Cabinet.log c.args.cabinet.now in
    let v : World = world_of g.C.Cabinet.files g.C.Cabinet.fault_count g.C.Cabinet.log c.read_file.new.cabinet in
    let u : World = world_of g.C.Cabinet.files g.C.Cabinet.fault_count g.C.Cabinet.log c.read_file-2.new.cabinet in
    let names = c.args.names.now in
    let first : NamedBytes = record { name = name_at names 0; bytes = c.deref.result.now } in
    let second : NamedBytes = record { name = name_at names 1; bytes = c.deref-2.result.now } in (
      first,
      second,
      c.in_ok-submission.ensures.found first.bytes c.in_ok-declaration.ensures.found,
      λ steps.
          let left : List Step = reads (name_at names 1) LONGEST_FILE ∷ judges requests_form (name_at names 1) ∷ steps in
          let one : Leads w (season_steps names steps) (first ∷ []) (judges capacity_form (name_at names 0) ∷ left) v =
          subst (λ (b : List ℕ). Leads w (season_steps names steps) (record { name = name_at names 0; bytes = b } ∷ []) (judges capacity_form (name_at names 0) ∷ left) v) (sym c.deref.ensures.value)
          (c.in_ok-capacity.ensures.leads w (season_steps names steps) [] (judges capacity_form (name_at names 0) ∷ left) (leads_start w (season_steps names steps))) in
          let two = leads_judge capacity_form (name_at names 0) (first ∷ []) (c.in_ok-declaration.ensures.alone (name_at names 0) []) w v (season_steps names steps) left one in
          let three : Leads w (season_steps names steps) (first ∷ second ∷ []) (judges requests_form (name_at names 1) ∷ steps) u =
          subst (λ (b : List ℕ). Leads w (season_steps names steps) (first ∷ record { name = name_at names 1; bytes = b } ∷ []) (judges requests_form (name_at names 1) ∷ steps) u) (sym c.deref-2.ensures.value)
          (c.in_ok-requests.ensures.leads w (season_steps names steps) (first ∷ []) (judges requests_form (name_at names 1) ∷ steps) two) in
          leads_judge requests_form (name_at names 1) (first ∷ second ∷ []) (c.in_ok-submission.ensures.alone (name_at names 1) first [] c.in_ok-declaration.ensures.found) w u (season_steps names steps) steps three,
    )
