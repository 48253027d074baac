use Rattle.std.proofs.Common.{◌≡◌, ℕ, Option, Some, refl, subst, ◌∙◌}
use Rattle.clap.specs.Walk.{Text}
use Rattle.clap.specs.Words.{found_of}
use Rattle.clap.proofs.WalkLemmas.{first_value-rows}
use Rattle.command_words.specs.Values.{number_or}
use Rattle.command_words.specs.Answers.{Answers}
use Rattle.command_words.proofs.words.read_option.Goals as goal

pub returns-in-Some : goal.returns-in-Some
returns-in-Some c =
    subst (λ (o : Option Text). Answers (number_or c.args.least c.args.most c.args.usual o) c.read_number.result)
    (c.in-Some.ensures ∙ first_value-rows (found_of c.args.found.now) c.args.option.now) c.read_number.ensures

pub returns-in-None : goal.returns-in-None
returns-in-None c =
    subst (λ (o : Option Text). number_or c.args.least c.args.most c.args.usual o ≡ some_number c.args.usual)
    (c.in-None.ensures ∙ first_value-rows (found_of c.args.found.now) c.args.option.now) refl
  where
    some_number : ℕ → Option ℕ
    some_number n = Some n
