use Rattle.std.proofs.Common.{ℕ, List, [], ◌∷◌, sym, subst}
use Rattle.capacity_file.specs.Declares.{IsCapacityFile}
use Rattle.desk_commands.specs.Judgements.{capacity_form}
use Rattle.desk_commands.specs.Jobs.{name_at}
use Rattle.desk_commands.proofs.LeadLemmas.{only_memory}
use Rattle.desk_commands.proofs.trial.declare.Goals as goal

pub want_of_memory-requires : goal.want_of_memory-requires
want_of_memory-requires c =
    let some = c.capacity_is_read.ensures.some c.args.units c.requires.few in
    let is : IsCapacityFile c.args.bytes.now some.0 = subst (λ (b : List ℕ). IsCapacityFile b some.0) (sym c.requires.made) some.2 in
    only_memory [] capacity_form (name_at [] 0) (record { name = name_at [] 0; bytes = c.args.bytes.now } ∷ []) c.in-Err.stop (some.0, is) (c.in-Err.ensures.stop [] [])

pub returns-in-Ok-clause-declared : goal.returns-in-Ok-clause-declared
returns-in-Ok-clause-declared c = subst (λ (b : List ℕ). IsCapacityFile b c.in-Ok.declaration) c.requires.made c.in-Ok.ensures.found
