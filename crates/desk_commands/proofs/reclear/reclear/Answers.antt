use Rattle.std.proofs.Common.{[], ◌∷◌, List, refl}
use Rattle.std.proofs.lemmas.Result.{err_from_is_err_and}
use Rattle.command_words.specs.declared.job.Job.TheVariants.{Reclear}
use Rattle.command_words.specs.Words.{Word}
use Rattle.desk_commands.specs.Jobs.{name_at}
use Rattle.desk_commands.specs.Outside.{still}
use Rattle.desk_commands.specs.Desk.{World, world_of}
use Rattle.desk_commands.proofs.reclear.reclear.Goals as goal

pub returns-in_err-output-clause-stop : goal.returns-in_err-output-clause-stop
returns-in_err-output-clause-stop g c =
    let p = err_from_is_err_and c.from_residual.result c.from_residual.ensures.1 in
    rw (p.1, p.2) c.in_err-output.ensures.stop

pub returns-in_err-output-clause-others : goal.returns-in_err-output-clause-others
returns-in_err-output-clause-others g c =
    let files = g.C.Cabinet.files in
    let names : List Word = name_at c.args.names.now 4 ∷ name_at c.args.names.now 5 ∷ [] in
    c.file_changes.ensures.unchanged (files c.args.cabinet.now) (files c.read_output.new.cabinet) names c.read_output.ensures.unchanged

pub returns-in_err-write_two-clause-stop : goal.returns-in_err-write_two-clause-stop
returns-in_err-write_two-clause-stop g c =
    let w : World = world_of g.C.Cabinet.files g.C.Cabinet.fault_count g.C.Cabinet.log c.args.cabinet.now in
    let s = c.in_ok-output.ensures.found in
    let out = c.in_ok-output.output in
    let one = c.deref.ensures.value in
    let two = c.deref-2.ensures.value in
    let p = err_from_is_err_and c.from_residual-in_err-write_two.result c.from_residual-in_err-write_two.ensures.1 in
    rw (p.1, p.2) (λ o. c.in_err-write_two.ensures.stop (Reclear c.args.names.now c.args.nodes c.args.workers) w (still o) (s.0 ∷ s.1 ∷ s.2 ∷ s.3 ∷ []) out.answer.status out.answer.text.items refl s.5
    (refl, rw (one, two) s.4))

pub returns-in_err-write_two-clause-others : goal.returns-in_err-write_two-clause-others
returns-in_err-write_two-clause-others g c =
    let files = g.C.Cabinet.files in
    let names : List Word = name_at c.args.names.now 4 ∷ name_at c.args.names.now 5 ∷ [] in
    c.file_changes.ensures.chained (files c.args.cabinet.now) (files c.read_output.new.cabinet) (files c.write_two.new.cabinet) names
    (c.file_changes.ensures.unchanged (files c.args.cabinet.now) (files c.read_output.new.cabinet) names c.read_output.ensures.unchanged) c.write_two.ensures.others

pub returns-clause-done : goal.returns-clause-done
returns-clause-done g c =
    let w : World = world_of g.C.Cabinet.files g.C.Cabinet.fault_count g.C.Cabinet.log c.args.cabinet.now in
    let s = c.in_ok-output.ensures.found in
    let out = c.in_ok-output.output in
    let one = c.deref.ensures.value in
    let two = c.deref-2.ensures.value in
    λ o. c.in_ok-write_two.ensures.done (Reclear c.args.names.now c.args.nodes c.args.workers) w (still o) (s.0 ∷ s.1 ∷ s.2 ∷ s.3 ∷ []) out.answer.status out.answer.text.items refl s.5
    (refl, rw (one, two) s.4)

pub returns-clause-others : goal.returns-clause-others
returns-clause-others g c =
    let files = g.C.Cabinet.files in
    let names : List Word = name_at c.args.names.now 4 ∷ name_at c.args.names.now 5 ∷ [] in
    c.file_changes.ensures.chained (files c.args.cabinet.now) (files c.read_output.new.cabinet) (files c.write_two.new.cabinet) names
    (c.file_changes.ensures.unchanged (files c.args.cabinet.now) (files c.read_output.new.cabinet) names c.read_output.ensures.unchanged) c.write_two.ensures.others
