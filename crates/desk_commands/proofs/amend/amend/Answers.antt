use Rattle.std.proofs.Common.{[], ◌∷◌, ℕ, List, refl, ap, subst}
use Rattle.std.proofs.lemmas.Result.{err_from_is_err_and}
use Rattle.std.specs.String.{string_bytes}
use Rattle.command_words.specs.declared.job.Job.TheVariants.{Amend}
use Rattle.command_words.specs.Words.{Word}
use Rattle.holding_book.specs.Starts.{start_book}
use Rattle.desk_commands.specs.Amendments.{AmendsLegally}
use Rattle.desk_commands.specs.Judgements.{NamedBytes}
use Rattle.desk_commands.specs.Steps.{Step, reads}
use Rattle.desk_commands.specs.Jobs.{name_at, amend_steps, one_file, IsAmendment}
use Rattle.desk_commands.specs.Outside.{still}
use Rattle.desk_commands.specs.Desk.{World, world_of}
use Rattle.desk_commands.specs.declared.files.TheConstants.{LONGEST_FILE}
use Rattle.desk_commands.proofs.LeadLemmas.{memory_read}
use Rattle.desk_commands.proofs.EndLemmas.{stop_job}
use Rattle.desk_commands.proofs.amend.amend.Goals as goal

abbrev last : List Word → List Step
last names = reads (name_at names 3) LONGEST_FILE ∷ []

pub returns-in_err-proved-clause-stop : goal.returns-in_err-proved-clause-stop
returns-in_err-proved-clause-stop g c =
    let w : World = world_of g.C.Cabinet.files g.C.Cabinet.fault_count g.C.Cabinet.log c.args.cabinet.now in
    let v : World = world_of g.C.Cabinet.files g.C.Cabinet.fault_count g.C.Cabinet.log c.read_proved.new.cabinet in
    let names = c.args.names.now in
    let p = err_from_is_err_and c.from_residual.result c.from_residual.ensures.1 in
    rw (p.1, p.2) (stop_job names (Amend names) w v c.in_err-proved.field-0.0 (c.in_err-proved.ensures.stop (last names)))

pub returns-in_err-proved-clause-others : goal.returns-in_err-proved-clause-others
returns-in_err-proved-clause-others g c =
    let files = g.C.Cabinet.files in
    let names : List Word = name_at c.args.names.now 4 ∷ [] in
    c.file_changes.ensures.unchanged (files c.args.cabinet.now) (files c.read_proved.new.cabinet) names c.read_proved.ensures.unchanged

pub returns-in_err-asks-clause-stop : goal.returns-in_err-asks-clause-stop
returns-in_err-asks-clause-stop g c =
    let w : World = world_of g.C.Cabinet.files g.C.Cabinet.fault_count g.C.Cabinet.log c.args.cabinet.now in
    let v : World = world_of g.C.Cabinet.files g.C.Cabinet.fault_count g.C.Cabinet.log c.read_file.new.cabinet in
    let names = c.args.names.now in
    let p = err_from_is_err_and c.from_residual-in_err-asks.result c.from_residual-in_err-asks.ensures.1 in
    let s = c.in_ok-proved.ensures.found in
    rw (p.1, p.2) (stop_job names (Amend names) w v c.in_err-asks.field-0.0
    (c.in_err-asks.ensures.stop w (amend_steps names) (s.0 ∷ s.1 ∷ s.2 ∷ []) [] (s.6 (last names))))

pub returns-in_err-asks-clause-others : goal.returns-in_err-asks-clause-others
returns-in_err-asks-clause-others g c =
    let files = g.C.Cabinet.files in
    let names : List Word = name_at c.args.names.now 4 ∷ [] in
    c.file_changes.ensures.chained (files c.args.cabinet.now) (files c.read_proved.new.cabinet) (files c.read_file.new.cabinet) names
    (c.file_changes.ensures.unchanged (files c.args.cabinet.now) (files c.read_proved.new.cabinet) names c.read_proved.ensures.unchanged)
    (c.file_changes.ensures.unchanged (files c.read_proved.new.cabinet) (files c.read_file.new.cabinet) names c.read_file.ensures.unchanged)

pub returns-in_err-output-clause-stop : goal.returns-in_err-output-clause-stop
returns-in_err-output-clause-stop g c =
    let w : World = world_of g.C.Cabinet.files g.C.Cabinet.fault_count g.C.Cabinet.log c.args.cabinet.now in
    let v : World = world_of g.C.Cabinet.files g.C.Cabinet.fault_count g.C.Cabinet.log c.read_file.new.cabinet in
    let names = c.args.names.now in
    let p = err_from_is_err_and c.from_residual-in_err-output.result c.from_residual-in_err-output.ensures.1 in
    let s = c.in_ok-proved.ensures.found in
    let fourth : NamedBytes = record { name = name_at names 3; bytes = c.in_ok-asks.asks.items } in
    rw (p.1, p.2) (λ o. memory_read w v v (amend_steps names) (s.0 ∷ s.1 ∷ s.2 ∷ fourth ∷ []) []
    (c.in_ok-asks.ensures.leads w (amend_steps names) (s.0 ∷ s.1 ∷ s.2 ∷ []) [] (s.6 (last names))) refl)

pub returns-in_err-output-clause-others : goal.returns-in_err-output-clause-others
returns-in_err-output-clause-others g c =
    let files = g.C.Cabinet.files in
    let names : List Word = name_at c.args.names.now 4 ∷ [] in
    c.file_changes.ensures.chained (files c.args.cabinet.now) (files c.read_proved.new.cabinet) (files c.read_file.new.cabinet) names
    (c.file_changes.ensures.unchanged (files c.args.cabinet.now) (files c.read_proved.new.cabinet) names c.read_proved.ensures.unchanged)
    (c.file_changes.ensures.unchanged (files c.read_proved.new.cabinet) (files c.read_file.new.cabinet) names c.read_file.ensures.unchanged)

pub returns-in_err-write_one-clause-stop : goal.returns-in_err-write_one-clause-stop
returns-in_err-write_one-clause-stop g c =
    let w : World = world_of g.C.Cabinet.files g.C.Cabinet.fault_count g.C.Cabinet.log c.args.cabinet.now in
    let names = c.args.names.now in
    let s = c.in_ok-proved.ensures.found in
    let out = c.in_ok-output.output in
    let fourth : NamedBytes = record { name = name_at names 3; bytes = c.in_ok-asks.asks.items } in
    let book = start_book c.in_ok-proved.proved.submission c.in_ok-proved.proved.certificate in
    let work : IsAmendment names s.0.bytes s.1.bytes s.2.bytes c.in_ok-asks.asks.items (one_file names 4 c.deref-2.result.now) 0 (string_bytes out.text) =
    record {
      season = c.in_ok-proved.proved.submission;
      proved = c.in_ok-proved.proved.certificate;
      answers = out.answers.items;
      made = s.3;
      spelled = s.4;
      valid = c.in_ok-proved.ensures.valid;
      output = subst (λ (l : List ℕ). AmendsLegally book l out.answers.items (string_bytes out.text)) c.deref.ensures.value c.in_ok-output.ensures;
      written = ap (λ (l : List ℕ). one_file names 4 l) c.deref-2.ensures.value;
      status_is = refl;
    } in
    let p = err_from_is_err_and c.from_residual-in_err-write_one.result c.from_residual-in_err-write_one.ensures.1 in
    rw (p.1, p.2) (λ o. c.in_err-write_one.ensures.stop (Amend names) w (still o) (s.0 ∷ s.1 ∷ s.2 ∷ fourth ∷ []) 0 (string_bytes out.text) refl
    (c.in_ok-asks.ensures.leads w (amend_steps names) (s.0 ∷ s.1 ∷ s.2 ∷ []) [] (s.6 (last names))) (refl, work))

pub returns-in_err-write_one-clause-others : goal.returns-in_err-write_one-clause-others
returns-in_err-write_one-clause-others g c =
    let files = g.C.Cabinet.files in
    let names : List Word = name_at c.args.names.now 4 ∷ [] in
    c.file_changes.ensures.chained (files c.args.cabinet.now) (files c.read_file.new.cabinet) (files c.write_one.new.cabinet) names
    (c.file_changes.ensures.chained (files c.args.cabinet.now) (files c.read_proved.new.cabinet) (files c.read_file.new.cabinet) names
    (c.file_changes.ensures.unchanged (files c.args.cabinet.now) (files c.read_proved.new.cabinet) names c.read_proved.ensures.unchanged)
    (c.file_changes.ensures.unchanged (files c.read_proved.new.cabinet) (files c.read_file.new.cabinet) names c.read_file.ensures.unchanged))
    c.write_one.ensures.others

pub returns-clause-done : goal.returns-clause-done
returns-clause-done g c =
    let w : World = world_of g.C.Cabinet.files g.C.Cabinet.fault_count g.C.Cabinet.log c.args.cabinet.now in
    let names = c.args.names.now in
    let s = c.in_ok-proved.ensures.found in
    let out = c.in_ok-output.output in
    let fourth : NamedBytes = record { name = name_at names 3; bytes = c.in_ok-asks.asks.items } in
    let book = start_book c.in_ok-proved.proved.submission c.in_ok-proved.proved.certificate in
    let work : IsAmendment names s.0.bytes s.1.bytes s.2.bytes c.in_ok-asks.asks.items (one_file names 4 c.deref-2.result.now) 0 (string_bytes out.text) =
    record {
      season = c.in_ok-proved.proved.submission;
      proved = c.in_ok-proved.proved.certificate;
      answers = out.answers.items;
      made = s.3;
      spelled = s.4;
      valid = c.in_ok-proved.ensures.valid;
      output = subst (λ (l : List ℕ). AmendsLegally book l out.answers.items (string_bytes out.text)) c.deref.ensures.value c.in_ok-output.ensures;
      written = ap (λ (l : List ℕ). one_file names 4 l) c.deref-2.ensures.value;
      status_is = refl;
    } in
    λ o. rw c.into_bytes.ensures.value (c.in_ok-write_one.ensures.done (Amend names) w (still o) (s.0 ∷ s.1 ∷ s.2 ∷ fourth ∷ []) 0 (string_bytes out.text) refl
    (c.in_ok-asks.ensures.leads w (amend_steps names) (s.0 ∷ s.1 ∷ s.2 ∷ []) [] (s.6 (last names))) (refl, work))

pub returns-clause-others : goal.returns-clause-others
returns-clause-others g c =
    let files = g.C.Cabinet.files in
    let names : List Word = name_at c.args.names.now 4 ∷ [] in
    c.file_changes.ensures.chained (files c.args.cabinet.now) (files c.read_file.new.cabinet) (files c.write_one.new.cabinet) names
    (c.file_changes.ensures.chained (files c.args.cabinet.now) (files c.read_proved.new.cabinet) (files c.read_file.new.cabinet) names
    (c.file_changes.ensures.unchanged (files c.args.cabinet.now) (files c.read_proved.new.cabinet) names c.read_proved.ensures.unchanged)
    (c.file_changes.ensures.unchanged (files c.read_proved.new.cabinet) (files c.read_file.new.cabinet) names c.read_file.ensures.unchanged))
    c.write_one.ensures.others
