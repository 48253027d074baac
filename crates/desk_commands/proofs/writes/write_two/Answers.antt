use Rattle.std.proofs.Common.{◌∷◌, [], ◌+◌, List}
use Rattle.std.proofs.lemmas.Result.{err_from_is_err_and}
use Rattle.command_words.specs.Words.{Word}
use Rattle.desk_commands.specs.Jobs.{name_at}
use Rattle.desk_commands.specs.Desk.{World, world_of}
use Rattle.desk_commands.proofs.EndLemmas.{first_of_two, second_of_two, first_failed, second_failed, both_written}
use Rattle.desk_commands.proofs.writes.write_two.Goals as goal

pub returns-in_err-write_file-clause-others : goal.returns-in_err-write_file-clause-others
returns-in_err-write_file-clause-others g c =
    let files = g.C.Cabinet.files in
    let one = name_at c.args.names.now c.args.place in
    let two = name_at c.args.names.now (c.args.place + 1) in
    let names : List Word = one ∷ two ∷ [] in
    c.file_changes.ensures.part (files c.args.cabinet.now) (files c.write_file.new.cabinet) names one _ (first_of_two one two) c.in_err-write_file.ensures.part

pub returns-in_err-write_file-2-clause-others : goal.returns-in_err-write_file-2-clause-others
returns-in_err-write_file-2-clause-others g c =
    let files = g.C.Cabinet.files in
    let one = name_at c.args.names.now c.args.place in
    let two = name_at c.args.names.now (c.args.place + 1) in
    let names : List Word = one ∷ two ∷ [] in
    let first = c.file_changes.ensures.whole (files c.args.cabinet.now) (files c.write_file.new.cabinet) names one _ (first_of_two one two) c.in_ok-write_file.ensures.ok in
    c.file_changes.ensures.chained (files c.args.cabinet.now) (files c.write_file.new.cabinet) (files c.write_file-2.new.cabinet) names first
    (c.file_changes.ensures.part (files c.write_file.new.cabinet) (files c.write_file-2.new.cabinet) names two _ (second_of_two one two) c.in_err-write_file-2.ensures.part)

pub returns-clause-others : goal.returns-clause-others
returns-clause-others g c =
    let files = g.C.Cabinet.files in
    let one = name_at c.args.names.now c.args.place in
    let two = name_at c.args.names.now (c.args.place + 1) in
    let names : List Word = one ∷ two ∷ [] in
    let first = c.file_changes.ensures.whole (files c.args.cabinet.now) (files c.write_file.new.cabinet) names one _ (first_of_two one two) c.in_ok-write_file.ensures.ok in
    c.file_changes.ensures.chained (files c.args.cabinet.now) (files c.write_file.new.cabinet) (files c.write_file-2.new.cabinet) names first
    (c.file_changes.ensures.whole (files c.write_file.new.cabinet) (files c.write_file-2.new.cabinet) names two _ (second_of_two one two) c.in_ok-write_file-2.ensures.ok)

pub returns-in_err-write_file-clause-stop : goal.returns-in_err-write_file-clause-stop
returns-in_err-write_file-clause-stop g c =
    let files = g.C.Cabinet.files in let count = g.C.Cabinet.fault_count in let log = g.C.Cabinet.log in
    let v : World = world_of files count log c.args.cabinet.now in
    let x : World = world_of files count log c.write_file.new.cabinet in
    let p = err_from_is_err_and c.from_residual.result c.from_residual.ensures.1 in
    rw (p.1, p.2) (rw c.in_err-write_file.ensures.stop
    (λ job w change inputs status text named lead work.
    first_failed job w v inputs lead change status text c.args.names.now c.args.place c.args.one.now c.args.two.now named work x
    c.in_err-write_file.ensures.part c.in_err-write_file.ensures.rose c.in_err-write_file.ensures.part_passed))

pub returns-in_err-write_file-2-clause-stop : goal.returns-in_err-write_file-2-clause-stop
returns-in_err-write_file-2-clause-stop g c =
    let files = g.C.Cabinet.files in let count = g.C.Cabinet.fault_count in let log = g.C.Cabinet.log in
    let v : World = world_of files count log c.args.cabinet.now in
    let x : World = world_of files count log c.write_file.new.cabinet in
    let u : World = world_of files count log c.write_file-2.new.cabinet in
    let p = err_from_is_err_and c.from_residual-in_err-write_file-2.result c.from_residual-in_err-write_file-2.ensures.1 in
    rw (p.1, p.2) (rw c.in_err-write_file-2.ensures.stop
    (λ job w change inputs status text named lead work.
    second_failed job w v inputs lead change status text c.args.names.now c.args.place c.args.one.now c.args.two.now named work x
    c.in_ok-write_file.ensures.ok c.in_ok-write_file.ensures.kept c.in_ok-write_file.ensures.ok_passed u
    c.in_err-write_file-2.ensures.part c.in_err-write_file-2.ensures.rose c.in_err-write_file-2.ensures.part_passed))

pub returns-clause-done : goal.returns-clause-done
returns-clause-done g c =
    let files = g.C.Cabinet.files in let count = g.C.Cabinet.fault_count in let log = g.C.Cabinet.log in
    let v : World = world_of files count log c.args.cabinet.now in
    let x : World = world_of files count log c.write_file.new.cabinet in
    let u : World = world_of files count log c.write_file-2.new.cabinet in
    λ job w change inputs status text named lead work.
    both_written job w v inputs lead change status text c.args.names.now c.args.place c.args.one.now c.args.two.now named work x
    c.in_ok-write_file.ensures.ok c.in_ok-write_file.ensures.kept c.in_ok-write_file.ensures.ok_passed u
    c.in_ok-write_file-2.ensures.ok c.in_ok-write_file-2.ensures.kept c.in_ok-write_file-2.ensures.ok_passed
