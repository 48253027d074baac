use Rattle.std.proofs.Common.{List, [], Option, subst, ap, ◌∙◌, codes}
use Rattle.std.specs.Prelude.{unwrap_or}
use Rattle.clap.specs.Walk.{Text}
use Rattle.clap.specs.Words.{found_of}
use Rattle.clap.proofs.WalkLemmas.{raw_values-rows}
use Rattle.command_words.specs.Jobs.{make_job}
use Rattle.command_words.specs.Answers.{Answers}
use Rattle.command_words.proofs.words.read_make.Goals as goal

pub returns-in-Some : goal.returns-in-Some
returns-in-Some c =
    subst (λ (names : List Text). Answers (make_job names []) c.make_of.result)
    (ap (λ (o : Option (List Text)). unwrap_or o []) (c.in-Some.ensures ∙ raw_values-rows (found_of c.args.found.now) (codes "names"))) c.make_of.ensures

pub returns-in-None : goal.returns-in-None
returns-in-None c =
    subst (λ (names : List Text). Answers (make_job names []) c.make_of-in-None.result)
    (ap (λ (o : Option (List Text)). unwrap_or o []) (c.in-None.ensures ∙ raw_values-rows (found_of c.args.found.now) (codes "names"))) c.make_of-in-None.ensures
