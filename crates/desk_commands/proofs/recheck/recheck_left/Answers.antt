use Rattle.std.proofs.Common.{[], ◌∷◌, List, refl}
use Rattle.std.proofs.lemmas.Result.{err_from_is_err_and}
use Rattle.std.specs.String.{string_bytes}
use Rattle.command_words.specs.Words.{Word}
use Rattle.command_words.specs.declared.job.Job.TheVariants.{Recheck}
use Rattle.wait_list.specs.Claims.{IsWaitingProof}
use Rattle.desk_commands.specs.Judgements.{NamedBytes, extra_form, valid_extra}
use Rattle.desk_commands.specs.Steps.{Step, reads, judges}
use Rattle.desk_commands.specs.Jobs.{name_at, recheck_steps, IsRechecking}
use Rattle.desk_commands.specs.Outside.{still}
use Rattle.desk_commands.specs.Desk.{World, world_of}
use Rattle.desk_commands.specs.declared.files.TheConstants.{LONGEST_CERT_FILE}
use Rattle.desk_commands.proofs.LeadLemmas.{memory_read, leads_judge, judged_stops}
use Rattle.desk_commands.proofs.EndLemmas.{read_done, stop_job}
use Rattle.desk_commands.proofs.WaitingLemmas.{of_left}
use Rattle.desk_commands.proofs.recheck.recheck_left.Goals as goal

-- the steps behind the asks
abbrev judged : List Word → List Step
judged names = judges extra_form (name_at names 4) ∷ judges valid_extra (name_at names 4) ∷ []

abbrev last : List Word → List Step
last names = reads (name_at names 4) LONGEST_CERT_FILE ∷ judged names

pub returns-in_err-bytes-clause-stop : goal.returns-in_err-bytes-clause-stop
returns-in_err-bytes-clause-stop g c =
    let u : World = world_of g.C.Cabinet.files g.C.Cabinet.fault_count g.C.Cabinet.log c.read_file.new.cabinet in
    let names = c.args.names.now in
    let p = err_from_is_err_and c.from_residual.result c.from_residual.ensures.1 in
    λ w is. rw (p.1, p.2) (
    let four : List NamedBytes = is.capacity ∷ is.requests ∷ is.certificate ∷ is.asks ∷ [] in
    stop_job names (Recheck names) w u c.in_err-bytes.field-0.0 (c.in_err-bytes.ensures.stop w (recheck_steps names) four (judged names) (is.leads (last names))))

pub returns-in_err-stage-clause-stop : goal.returns-in_err-stage-clause-stop
returns-in_err-stage-clause-stop g c =
    let u : World = world_of g.C.Cabinet.files g.C.Cabinet.fault_count g.C.Cabinet.log c.read_file.new.cabinet in
    let names = c.args.names.now in
    let name = name_at names 4 in
    let extra : NamedBytes = record { name = name; bytes = c.in_ok-bytes.bytes.items } in
    let p = err_from_is_err_and c.from_residual-in_err-stage.result c.from_residual-in_err-stage.ensures.1 in
    λ w is. rw (p.1, p.2) (
    let four : List NamedBytes = is.capacity ∷ is.requests ∷ is.certificate ∷ is.asks ∷ [] in
    let five : List NamedBytes = is.capacity ∷ is.requests ∷ is.certificate ∷ is.asks ∷ extra ∷ [] in
    let one = c.in_ok-bytes.ensures.leads w (recheck_steps names) four (judged names) (is.leads (last names)) in
    stop_job names (Recheck names) w u c.in_err-stage.field-0.0
    (judged_stops names extra_form name five c.in_err-stage.field-0.0 w u (recheck_steps names) (judges valid_extra name ∷ []) (c.in_err-stage.ensures.stop names is.capacity is.requests is.certificate is.asks []) one))

pub returns-in_err-judge_stage-clause-stop : goal.returns-in_err-judge_stage-clause-stop
returns-in_err-judge_stage-clause-stop g c =
    let u : World = world_of g.C.Cabinet.files g.C.Cabinet.fault_count g.C.Cabinet.log c.read_file.new.cabinet in
    let names = c.args.names.now in
    let name = name_at names 4 in
    let extra : NamedBytes = record { name = name; bytes = c.in_ok-bytes.bytes.items } in
    let p = err_from_is_err_and c.from_residual-in_err-judge_stage.result c.from_residual-in_err-judge_stage.ensures.1 in
    λ w is. rw (p.1, p.2) (
    let four : List NamedBytes = is.capacity ∷ is.requests ∷ is.certificate ∷ is.asks ∷ [] in
    let five : List NamedBytes = is.capacity ∷ is.requests ∷ is.certificate ∷ is.asks ∷ extra ∷ [] in
    let one = c.in_ok-bytes.ensures.leads w (recheck_steps names) four (judged names) (is.leads (last names)) in
    let two = leads_judge extra_form name five (c.in_ok-stage.ensures.alone name is.capacity is.requests is.certificate is.asks []) w u (recheck_steps names) (judges valid_extra name ∷ []) one in
    stop_job names (Recheck names) w u c.in_err-judge_stage.field-0.0
    (judged_stops names valid_extra name five c.in_err-judge_stage.field-0.0 w u (recheck_steps names) [] (c.in_err-judge_stage.ensures.stop names name is.proved is.capacity is.requests is.certificate is.asks extra [] is.made is.spelled is.alone is.left c.in_ok-stage.ensures.found.0 c.in_ok-stage.ensures.only) two))

pub judge_stage-requires : goal.judge_stage-requires
judge_stage-requires g c = record { printable = c.in_ok-stage.ensures.found.1; spelled = c.requires }

pub returns-in_err-text-clause-stop : goal.returns-in_err-text-clause-stop
returns-in_err-text-clause-stop g c =
    let u : World = world_of g.C.Cabinet.files g.C.Cabinet.fault_count g.C.Cabinet.log c.read_file.new.cabinet in
    let names = c.args.names.now in
    let name = name_at names 4 in
    let extra : NamedBytes = record { name = name; bytes = c.in_ok-bytes.bytes.items } in
    let p = err_from_is_err_and c.from_residual-in_err-text.result c.from_residual-in_err-text.ensures.1 in
    λ w is. rw (p.1, p.2) (
    let four : List NamedBytes = is.capacity ∷ is.requests ∷ is.certificate ∷ is.asks ∷ [] in
    let five : List NamedBytes = is.capacity ∷ is.requests ∷ is.certificate ∷ is.asks ∷ extra ∷ [] in
    let one = c.in_ok-bytes.ensures.leads w (recheck_steps names) four (judged names) (is.leads (last names)) in
    let two = leads_judge extra_form name five (c.in_ok-stage.ensures.alone name is.capacity is.requests is.certificate is.asks []) w u (recheck_steps names) (judges valid_extra name ∷ []) one in
    let three = leads_judge valid_extra name five (c.in_ok-judge_stage.ensures.alone name is.proved is.capacity is.requests is.certificate is.asks extra [] is.made is.spelled is.alone is.left c.in_ok-stage.ensures.found.0 c.in_ok-stage.ensures.only) w u (recheck_steps names) [] two in
    λ o. memory_read w u u (recheck_steps names) five [] three refl)

pub returns-clause-done : goal.returns-clause-done
returns-clause-done g c = λ w is.
    let u : World = world_of g.C.Cabinet.files g.C.Cabinet.fault_count g.C.Cabinet.log c.read_file.new.cabinet in
    let names = c.args.names.now in
    let four : List NamedBytes = is.capacity ∷ is.requests ∷ is.certificate ∷ is.asks ∷ [] in
    let name = name_at names 4 in
    let extra : NamedBytes = record { name = name; bytes = c.in_ok-bytes.bytes.items } in
    let five : List NamedBytes = is.capacity ∷ is.requests ∷ is.certificate ∷ is.asks ∷ extra ∷ [] in
    let one = c.in_ok-bytes.ensures.leads w (recheck_steps names) four (judged names) (is.leads (last names)) in
    let two = leads_judge extra_form name five (c.in_ok-stage.ensures.alone name is.capacity is.requests is.certificate is.asks []) w u (recheck_steps names) (judges valid_extra name ∷ []) one in
    let three = leads_judge valid_extra name five (c.in_ok-judge_stage.ensures.alone name is.proved is.capacity is.requests is.certificate is.asks extra [] is.made is.spelled is.alone is.left c.in_ok-stage.ensures.found.0 c.in_ok-stage.ensures.only) w u (recheck_steps names) [] two in
    let left = c.args.left.now in
    let stage = c.in_ok-stage.stage in
    let work : IsRechecking is.capacity.bytes is.requests.bytes is.certificate.bytes is.asks.bytes extra.bytes [] 0 (string_bytes c.in_ok-text.text) =
    record {
      season = left.submission;
      proved = is.proved;
      history = is.left.history;
      stage = stage;
      made = is.made;
      spelled = is.spelled;
      valid = is.valid;
      asked = is.left.asked;
      one = is.left.one;
      said = c.in_ok-stage.ensures.found.0;
      proof = of_left (λ b lines. IsWaitingProof b lines stage) left.submission is.proved is.asks.bytes left.book.book left.waiting left.header is.left c.in_ok-judge_stage.ensures.proof;
      written = refl;
      printed = c.in_ok-text.ensures;
      status_is = refl;
    } in
    λ o. rw c.into_bytes.ensures.value (read_done (Recheck names) w u five three (still o) 0 (string_bytes c.in_ok-text.text) (refl, work))
