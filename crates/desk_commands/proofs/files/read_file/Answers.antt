use Rattle.std.proofs.Common.{◌∷◌, [], ◌++◌, Option, subst}
use Rattle.desk_outside.specs.Files.{Files}
use Rattle.command_words.specs.Words.{Word}
use Rattle.desk_commands.specs.Steps.{reads, IsHanded}
use Rattle.desk_commands.specs.Desk.{World, world_of}
use Rattle.desk_commands.specs.Leads.{Leads}
use Rattle.desk_commands.proofs.LeadLemmas.{leads_read, handed_by}
use Rattle.desk_commands.proofs.files.read_file.Goals as goal

pub returns-in-Ok-clause-leads : goal.returns-in-Ok-clause-leads
returns-in-Ok-clause-leads g c = λ w all before steps lead.
    let files = g.C.Cabinet.files in let count = g.C.Cabinet.fault_count in let log = g.C.Cabinet.log in
    let v : World = world_of files count log c.args.cabinet.now in
    let u : World = world_of files count log c.read.new.self in
    let name = c.name_at.result.now in
    let bytes = c.in-Ok.bytes.items in
    subst (λ (n : Word). (Leads w all before (reads n c.args.most ∷ steps) v → Leads w all (before ++ record { name = n; bytes = bytes } ∷ []) steps u)) c.name_at.ensures
    (λ here. leads_read name c.args.most bytes w v u all before steps here
    (subst (λ (o : Option Files). IsHanded o name c.args.most bytes) here.files (handed_by (files c.args.cabinet.now) name c.args.most (count c.args.cabinet.now) (count c.read.new.self) c.in-Ok.bytes c.in-Ok.ensures.answer))
    c.read.ensures.unchanged c.in-Ok.ensures.kept c.in-Ok.ensures.passed) lead
