use Rattle.std.proofs.Common.{[], ◌∷◌, List, refl}
use Rattle.std.proofs.lemmas.Result.{err_from_is_err_and}
use Rattle.command_words.specs.declared.job.Job.TheVariants.{Allocate}
use Rattle.command_words.specs.Words.{Word}
use Rattle.desk_commands.specs.Jobs.{name_at, allocate_steps, two_files, IsAllocation}
use Rattle.desk_commands.specs.Outside.{still}
use Rattle.desk_commands.specs.Desk.{World, world_of}
use Rattle.desk_commands.proofs.LeadLemmas.{memory_read}
use Rattle.desk_commands.proofs.EndLemmas.{stop_job}
use Rattle.desk_commands.proofs.allocate.allocate.Goals as goal

pub returns-in_err-submission-clause-stop : goal.returns-in_err-submission-clause-stop
returns-in_err-submission-clause-stop g c =
    let w : World = world_of g.C.Cabinet.files g.C.Cabinet.fault_count g.C.Cabinet.log c.args.cabinet.now in
    let v : World = world_of g.C.Cabinet.files g.C.Cabinet.fault_count g.C.Cabinet.log c.read_season.new.cabinet in
    let names = c.args.names.now in
    let p = err_from_is_err_and c.from_residual.result c.from_residual.ensures.1 in
    rw (p.1, p.2) (stop_job names (Allocate names c.args.nodes c.args.workers) w v c.in_err-submission.field-0.0 (c.in_err-submission.ensures.stop []))

pub returns-in_err-submission-clause-others : goal.returns-in_err-submission-clause-others
returns-in_err-submission-clause-others g c =
    let files = g.C.Cabinet.files in
    let names : List Word = name_at c.args.names.now 2 ∷ name_at c.args.names.now 3 ∷ [] in
    c.file_changes.ensures.unchanged (files c.args.cabinet.now) (files c.read_season.new.cabinet) names c.read_season.ensures.unchanged

pub returns-in_err-output-clause-stop : goal.returns-in_err-output-clause-stop
returns-in_err-output-clause-stop g c =
    let w : World = world_of g.C.Cabinet.files g.C.Cabinet.fault_count g.C.Cabinet.log c.args.cabinet.now in
    let v : World = world_of g.C.Cabinet.files g.C.Cabinet.fault_count g.C.Cabinet.log c.read_season.new.cabinet in
    let s = c.in_ok-submission.ensures.found in
    let p = err_from_is_err_and c.from_residual-in_err-output.result c.from_residual-in_err-output.ensures.1 in
    rw (p.1, p.2) (λ o. memory_read w v v (allocate_steps c.args.names.now) (s.0 ∷ s.1 ∷ []) [] (s.3 []) refl)

pub returns-in_err-output-clause-others : goal.returns-in_err-output-clause-others
returns-in_err-output-clause-others g c =
    let files = g.C.Cabinet.files in
    let names : List Word = name_at c.args.names.now 2 ∷ name_at c.args.names.now 3 ∷ [] in
    c.file_changes.ensures.unchanged (files c.args.cabinet.now) (files c.read_season.new.cabinet) names c.read_season.ensures.unchanged

pub returns-in_err-write_two-clause-stop : goal.returns-in_err-write_two-clause-stop
returns-in_err-write_two-clause-stop g c =
    let w : World = world_of g.C.Cabinet.files g.C.Cabinet.fault_count g.C.Cabinet.log c.args.cabinet.now in
    let s = c.in_ok-submission.ensures.found in
    let out = c.in_ok-output.output in
    let names = c.args.names.now in
    let work : IsAllocation names c.args.nodes s.0.bytes s.1.bytes (two_files names 2 out.certificate.items out.replies.items) out.answer.status out.answer.text.items =
    record { season = c.in_ok-submission.submission; certificate = out.certificate.items; replies = out.replies.items; made = s.2; output = c.in_ok-output.ensures; written = refl } in
    let one = c.deref.ensures.value in
    let two = c.deref-2.ensures.value in
    let p = err_from_is_err_and c.from_residual-in_err-write_two.result c.from_residual-in_err-write_two.ensures.1 in
    rw (p.1, p.2) (λ o. c.in_err-write_two.ensures.stop (Allocate names c.args.nodes c.args.workers) w (still o) (s.0 ∷ s.1 ∷ []) out.answer.status out.answer.text.items refl (s.3 [])
    (refl, rw (one, two) work))

pub returns-in_err-write_two-clause-others : goal.returns-in_err-write_two-clause-others
returns-in_err-write_two-clause-others g c =
    let files = g.C.Cabinet.files in
    let names : List Word = name_at c.args.names.now 2 ∷ name_at c.args.names.now 3 ∷ [] in
    c.file_changes.ensures.chained (files c.args.cabinet.now) (files c.read_season.new.cabinet) (files c.write_two.new.cabinet) names
    (c.file_changes.ensures.unchanged (files c.args.cabinet.now) (files c.read_season.new.cabinet) names c.read_season.ensures.unchanged) c.write_two.ensures.others

pub returns-clause-done : goal.returns-clause-done
returns-clause-done g c =
    let w : World = world_of g.C.Cabinet.files g.C.Cabinet.fault_count g.C.Cabinet.log c.args.cabinet.now in
    let s = c.in_ok-submission.ensures.found in
    let out = c.in_ok-output.output in
    let names = c.args.names.now in
    let work : IsAllocation names c.args.nodes s.0.bytes s.1.bytes (two_files names 2 out.certificate.items out.replies.items) out.answer.status out.answer.text.items =
    record { season = c.in_ok-submission.submission; certificate = out.certificate.items; replies = out.replies.items; made = s.2; output = c.in_ok-output.ensures; written = refl } in
    let one = c.deref.ensures.value in
    let two = c.deref-2.ensures.value in
    λ o. c.in_ok-write_two.ensures.done (Allocate names c.args.nodes c.args.workers) w (still o) (s.0 ∷ s.1 ∷ []) out.answer.status out.answer.text.items refl (s.3 [])
    (refl, rw (one, two) work)

pub returns-clause-others : goal.returns-clause-others
returns-clause-others g c =
    let files = g.C.Cabinet.files in
    let names : List Word = name_at c.args.names.now 2 ∷ name_at c.args.names.now 3 ∷ [] in
    c.file_changes.ensures.chained (files c.args.cabinet.now) (files c.read_season.new.cabinet) (files c.write_two.new.cabinet) names
    (c.file_changes.ensures.unchanged (files c.args.cabinet.now) (files c.read_season.new.cabinet) names c.read_season.ensures.unchanged) c.write_two.ensures.others
