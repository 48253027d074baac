use Rattle.std.proofs.Common.{ℕ, List, [], ◌∷◌, sym, subst}
use Rattle.scr_reader.specs.Messages.{ReadsAll}
use Rattle.scr_reader.specs.declared.message.Message.{Message}
use Rattle.series_model.specs.Submissions.{submission_of}
use Rattle.season_maker.specs.Generated.{generated_message}
use Rattle.season_maker.specs.Texts.{generated_capacity}
use Rattle.desk_commands.specs.Judgements.{NamedBytes, IsSeasonOf, requests_form}
use Rattle.desk_commands.specs.Jobs.{name_at}
use Rattle.desk_commands.proofs.LeadLemmas.{only_memory}
use Rattle.desk_commands.proofs.trial.submit.Goals as goal

pub want_of_memory-requires : goal.want_of_memory-requires
want_of_memory-requires c =
    let few = c.requires.few in
    let capacity : NamedBytes = record { name = []; bytes = generated_capacity c.args.units } in
    let messages : List Message = generated_message c.args.number c.args.units ∷ [] in
    let s = submission_of c.args.declaration messages in
    let season : IsSeasonOf capacity.bytes c.args.bytes.now s =
    record {
      messages = messages;
      declared = c.requires.declared;
      read = subst (λ (b : List ℕ). ReadsAll b messages) (sym c.requires.made) (c.requests_are_read.ensures c.args.number c.args.units few);
      made = c.submission_is_taken.ensures.taken c.args.number c.args.units c.args.declaration few (c.capacity_is_read.ensures.only c.args.units c.args.declaration few c.requires.declared);
    } in
    only_memory [] requests_form (name_at [] 1) (capacity ∷ record { name = name_at [] 1; bytes = c.args.bytes.now } ∷ []) c.in-Err.stop (s, season) (c.in-Err.ensures.stop [] capacity [] c.requires.declared)
