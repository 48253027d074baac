use Rattle.std.proofs.Common.{[], ◌∷◌, ℕ, List, refl, ap}
use Rattle.std.proofs.lemmas.Result.{err_from_is_err_and}
use Rattle.std.specs.String.{string_bytes}
use Rattle.command_words.specs.declared.job.Job.TheVariants.{Usage}
use Rattle.command_words.specs.Words.{Word}
use Rattle.desk_commands.specs.Judgements.{reports_form, next_season}
use Rattle.desk_commands.specs.Steps.{Step, reads, judges}
use Rattle.desk_commands.specs.Jobs.{name_at, usage_steps, one_file, IsUsage}
use Rattle.desk_commands.specs.Outside.{still}
use Rattle.desk_commands.specs.Desk.{World, world_of}
use Rattle.desk_commands.specs.declared.files.TheConstants.{LONGEST_FILE}
use Rattle.desk_commands.proofs.LeadLemmas.{memory_read, leads_judge, judged_stops}
use Rattle.desk_commands.proofs.UsageLemmas.{are_asked}
use Rattle.desk_commands.proofs.EndLemmas.{stop_job}
use Rattle.desk_commands.proofs.usage.usage.Goals as goal

-- the judgement behind that of the reports
abbrev last : List Word → List Step
last names = judges next_season (name_at names 3) ∷ []

abbrev reported : List Word → List Step
reported names = reads (name_at names 3) LONGEST_FILE ∷ judges reports_form (name_at names 3) ∷ last names

pub returns-in_err-proved-clause-stop : goal.returns-in_err-proved-clause-stop
returns-in_err-proved-clause-stop g c =
    let w : World = world_of g.C.Cabinet.files g.C.Cabinet.fault_count g.C.Cabinet.log c.args.cabinet.now in
    let v : World = world_of g.C.Cabinet.files g.C.Cabinet.fault_count g.C.Cabinet.log c.read_proved.new.cabinet in
    let names = c.args.names.now in
    let p = err_from_is_err_and c.from_residual.result c.from_residual.ensures.1 in
    rw (p.1, p.2) (stop_job names (Usage names) w v c.in_err-proved.field-0.0 (c.in_err-proved.ensures.stop (reported names)))

pub returns-in_err-proved-clause-others : goal.returns-in_err-proved-clause-others
returns-in_err-proved-clause-others g c =
    let files = g.C.Cabinet.files in
    let names : List Word = name_at c.args.names.now 4 ∷ [] in
    c.file_changes.ensures.unchanged (files c.args.cabinet.now) (files c.read_proved.new.cabinet) names c.read_proved.ensures.unchanged

pub returns-in_err-operated-clause-stop : goal.returns-in_err-operated-clause-stop
returns-in_err-operated-clause-stop g c =
    let w : World = world_of g.C.Cabinet.files g.C.Cabinet.fault_count g.C.Cabinet.log c.args.cabinet.now in
    let v : World = world_of g.C.Cabinet.files g.C.Cabinet.fault_count g.C.Cabinet.log c.read_reports.new.cabinet in
    let names = c.args.names.now in
    let p = err_from_is_err_and c.from_residual-in_err-operated.result c.from_residual-in_err-operated.ensures.1 in
    let s = c.in_ok-proved.ensures.found in
    rw (p.1, p.2) (stop_job names (Usage names) w v c.in_err-operated.field-0.0
    (c.in_err-operated.ensures.stop w (usage_steps names) (last names) s.0 s.1 s.2 s.3 (s.6 (reported names))))

pub returns-in_err-operated-clause-others : goal.returns-in_err-operated-clause-others
returns-in_err-operated-clause-others g c =
    let files = g.C.Cabinet.files in
    let names : List Word = name_at c.args.names.now 4 ∷ [] in
    c.file_changes.ensures.chained (files c.args.cabinet.now) (files c.read_proved.new.cabinet) (files c.read_reports.new.cabinet) names
    (c.file_changes.ensures.unchanged (files c.args.cabinet.now) (files c.read_proved.new.cabinet) names c.read_proved.ensures.unchanged)
    (c.file_changes.ensures.unchanged (files c.read_proved.new.cabinet) (files c.read_reports.new.cabinet) names c.read_reports.ensures.unchanged)

pub returns-in_err-next-clause-stop : goal.returns-in_err-next-clause-stop
returns-in_err-next-clause-stop g c =
    let w : World = world_of g.C.Cabinet.files g.C.Cabinet.fault_count g.C.Cabinet.log c.args.cabinet.now in
    let v : World = world_of g.C.Cabinet.files g.C.Cabinet.fault_count g.C.Cabinet.log c.read_reports.new.cabinet in
    let names = c.args.names.now in
    let p = err_from_is_err_and c.from_residual-in_err-next.result c.from_residual-in_err-next.ensures.1 in
    let s = c.in_ok-proved.ensures.found in
    let r = c.in_ok-operated.ensures.found w (usage_steps names) (last names) s.0 s.1 s.2 s.3 (s.6 (reported names)) in
    rw (p.1, p.2) (stop_job names (Usage names) w v c.in_err-next.field-0.0
    (judged_stops names next_season (name_at names 3) (s.0 ∷ s.1 ∷ s.2 ∷ r.0 ∷ []) c.in_err-next.field-0.0 w v (usage_steps names) []
    (c.in_err-next.ensures.stop names (name_at names 3) s.0 s.1 (s.2 ∷ r.0 ∷ []) s.3) r.2))

pub returns-in_err-next-clause-others : goal.returns-in_err-next-clause-others
returns-in_err-next-clause-others g c =
    let files = g.C.Cabinet.files in
    let names : List Word = name_at c.args.names.now 4 ∷ [] in
    c.file_changes.ensures.chained (files c.args.cabinet.now) (files c.read_proved.new.cabinet) (files c.read_reports.new.cabinet) names
    (c.file_changes.ensures.unchanged (files c.args.cabinet.now) (files c.read_proved.new.cabinet) names c.read_proved.ensures.unchanged)
    (c.file_changes.ensures.unchanged (files c.read_proved.new.cabinet) (files c.read_reports.new.cabinet) names c.read_reports.ensures.unchanged)

pub usage_output-requires : goal.usage_output-requires
usage_output-requires g c =
    let s = c.in_ok-proved.ensures.found in record {
      valid = c.in_ok-proved.ensures.valid;
      next = c.in_ok-next.ensures.found;
      asked = are_asked c.in_ok-proved.proved.submission s.3.messages s.3.made (c.read_items_can_be_asked.ensures.all s.1.bytes s.3.messages s.3.read);
    }

pub returns-in_err-output-clause-stop : goal.returns-in_err-output-clause-stop
returns-in_err-output-clause-stop g c =
    let w : World = world_of g.C.Cabinet.files g.C.Cabinet.fault_count g.C.Cabinet.log c.args.cabinet.now in
    let v : World = world_of g.C.Cabinet.files g.C.Cabinet.fault_count g.C.Cabinet.log c.read_reports.new.cabinet in
    let names = c.args.names.now in
    let p = err_from_is_err_and c.from_residual-in_err-output.result c.from_residual-in_err-output.ensures.1 in
    let s = c.in_ok-proved.ensures.found in
    let r = c.in_ok-operated.ensures.found w (usage_steps names) (last names) s.0 s.1 s.2 s.3 (s.6 (reported names)) in
    rw (p.1, p.2) (λ o. memory_read w v v (usage_steps names) (s.0 ∷ s.1 ∷ s.2 ∷ r.0 ∷ []) (last names) r.2 refl)

pub returns-in_err-output-clause-others : goal.returns-in_err-output-clause-others
returns-in_err-output-clause-others g c =
    let files = g.C.Cabinet.files in
    let names : List Word = name_at c.args.names.now 4 ∷ [] in
    c.file_changes.ensures.chained (files c.args.cabinet.now) (files c.read_proved.new.cabinet) (files c.read_reports.new.cabinet) names
    (c.file_changes.ensures.unchanged (files c.args.cabinet.now) (files c.read_proved.new.cabinet) names c.read_proved.ensures.unchanged)
    (c.file_changes.ensures.unchanged (files c.read_proved.new.cabinet) (files c.read_reports.new.cabinet) names c.read_reports.ensures.unchanged)

pub returns-in_err-write_one-clause-stop : goal.returns-in_err-write_one-clause-stop
returns-in_err-write_one-clause-stop g c =
    let w : World = world_of g.C.Cabinet.files g.C.Cabinet.fault_count g.C.Cabinet.log c.args.cabinet.now in
    let v : World = world_of g.C.Cabinet.files g.C.Cabinet.fault_count g.C.Cabinet.log c.read_reports.new.cabinet in
    let names = c.args.names.now in
    let s = c.in_ok-proved.ensures.found in
    let r = c.in_ok-operated.ensures.found w (usage_steps names) (last names) s.0 s.1 s.2 s.3 (s.6 (reported names)) in
    let three = leads_judge next_season (name_at names 3) (s.0 ∷ s.1 ∷ s.2 ∷ r.0 ∷ []) (c.in_ok-next.ensures.alone (name_at names 3) s.0 s.1 (s.2 ∷ r.0 ∷ []) s.3) w v (usage_steps names) [] r.2 in
    let out = c.in_ok-output.output in
    let work : IsUsage names s.0.bytes s.1.bytes s.2.bytes r.0.bytes (one_file names 4 c.deref.result.now) 0 (string_bytes out.text) =
    record {
      season = c.in_ok-proved.proved.submission;
      proved = c.in_ok-proved.proved.certificate;
      reports = c.in_ok-operated.operated;
      next = out.next.items;
      made = s.3;
      spelled = s.4;
      valid = c.in_ok-proved.ensures.valid;
      said = r.1;
      output = c.in_ok-output.ensures;
      written = ap (λ (l : List ℕ). one_file names 4 l) c.deref.ensures.value;
      status_is = refl;
    } in
    let p = err_from_is_err_and c.from_residual-in_err-write_one.result c.from_residual-in_err-write_one.ensures.1 in
    rw (p.1, p.2) (λ o. c.in_err-write_one.ensures.stop (Usage names) w (still o) (s.0 ∷ s.1 ∷ s.2 ∷ r.0 ∷ []) 0 (string_bytes out.text) refl three (refl, work))

pub returns-in_err-write_one-clause-others : goal.returns-in_err-write_one-clause-others
returns-in_err-write_one-clause-others g c =
    let files = g.C.Cabinet.files in
    let names : List Word = name_at c.args.names.now 4 ∷ [] in
    c.file_changes.ensures.chained (files c.args.cabinet.now) (files c.read_reports.new.cabinet) (files c.write_one.new.cabinet) names
    (c.file_changes.ensures.chained (files c.args.cabinet.now) (files c.read_proved.new.cabinet) (files c.read_reports.new.cabinet) names
    (c.file_changes.ensures.unchanged (files c.args.cabinet.now) (files c.read_proved.new.cabinet) names c.read_proved.ensures.unchanged)
    (c.file_changes.ensures.unchanged (files c.read_proved.new.cabinet) (files c.read_reports.new.cabinet) names c.read_reports.ensures.unchanged))
    c.write_one.ensures.others

pub returns-clause-done : goal.returns-clause-done
returns-clause-done g c =
    let w : World = world_of g.C.Cabinet.files g.C.Cabinet.fault_count g.C.Cabinet.log c.args.cabinet.now in
    let v : World = world_of g.C.Cabinet.files g.C.Cabinet.fault_count g.C.Cabinet.log c.read_reports.new.cabinet in
    let names = c.args.names.now in
    let s = c.in_ok-proved.ensures.found in
    let r = c.in_ok-operated.ensures.found w (usage_steps names) (last names) s.0 s.1 s.2 s.3 (s.6 (reported names)) in
    let three = leads_judge next_season (name_at names 3) (s.0 ∷ s.1 ∷ s.2 ∷ r.0 ∷ []) (c.in_ok-next.ensures.alone (name_at names 3) s.0 s.1 (s.2 ∷ r.0 ∷ []) s.3) w v (usage_steps names) [] r.2 in
    let out = c.in_ok-output.output in
    let work : IsUsage names s.0.bytes s.1.bytes s.2.bytes r.0.bytes (one_file names 4 c.deref.result.now) 0 (string_bytes out.text) =
    record {
      season = c.in_ok-proved.proved.submission;
      proved = c.in_ok-proved.proved.certificate;
      reports = c.in_ok-operated.operated;
      next = out.next.items;
      made = s.3;
      spelled = s.4;
      valid = c.in_ok-proved.ensures.valid;
      said = r.1;
      output = c.in_ok-output.ensures;
      written = ap (λ (l : List ℕ). one_file names 4 l) c.deref.ensures.value;
      status_is = refl;
    } in
    λ o. rw c.into_bytes.ensures.value (c.in_ok-write_one.ensures.done (Usage names) w (still o) (s.0 ∷ s.1 ∷ s.2 ∷ r.0 ∷ []) 0 (string_bytes out.text) refl three (refl, work))

pub returns-clause-others : goal.returns-clause-others
returns-clause-others g c =
    let files = g.C.Cabinet.files in
    let names : List Word = name_at c.args.names.now 4 ∷ [] in
    c.file_changes.ensures.chained (files c.args.cabinet.now) (files c.read_reports.new.cabinet) (files c.write_one.new.cabinet) names
    (c.file_changes.ensures.chained (files c.args.cabinet.now) (files c.read_proved.new.cabinet) (files c.read_reports.new.cabinet) names
    (c.file_changes.ensures.unchanged (files c.args.cabinet.now) (files c.read_proved.new.cabinet) names c.read_proved.ensures.unchanged)
    (c.file_changes.ensures.unchanged (files c.read_proved.new.cabinet) (files c.read_reports.new.cabinet) names c.read_reports.ensures.unchanged))
    c.write_one.ensures.others
