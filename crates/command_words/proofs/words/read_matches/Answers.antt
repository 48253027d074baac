use Rattle.std.proofs.Common.{refl, inl, inr, subst, ◌∙◌}
use Rattle.clap.specs.Kinds.{Kinds, IsAmong}
use Rattle.clap.specs.Words.{kind_of}
use Rattle.command_words.specs.Words.{words_of}
use Rattle.command_words.proofs.JobLemmas.{asks_for, refused_asks_none}
use Rattle.command_words.proofs.words.read_matches.Goals as goal

pub returns-in-Ok-clause-found : goal.returns-in-Ok-clause-found
returns-in-Ok-clause-found c = asks_for (words_of c.args.words.now) c.in-Ok.matches c.check_texts.ensures c.in-Ok.ensures.kinds (c.in-Ok.ensures.matches refl).1

pub returns-in-Err-clause-none : goal.returns-in-Err-clause-none
returns-in-Err-clause-none c = λ is.
    refused_asks_none (words_of c.args.words.now) c.check_texts.ensures (λ none.
    elim c.in-Err.ensures.kinds [
      | inl memory ↦ c.fault_by.ensures is (c.kind.ensures ∙ memory)
      | inr among ↦ subst (λ (kinds : Kinds). IsAmong (kind_of c.in-Err.error) kinds) none among
    ])
