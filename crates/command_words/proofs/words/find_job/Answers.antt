use Rattle.std.proofs.Common.{Option, subst}
use Rattle.clap.specs.Words.{rows_of, found_of}
use Rattle.command_words.specs.declared.job.Job.{Job}
use Rattle.command_words.specs.Words.{words_of}
use Rattle.command_words.specs.Answers.{Answers}
use Rattle.command_words.proofs.JobLemmas.{entered_job}
use Rattle.command_words.proofs.words.find_job.Goals as goal

pub returns : goal.returns
returns c =
    subst (λ (o : Option Job). Answers o c.read_job.result)
    (entered_job (words_of c.args.words.now) c.in_ok-matches.matches c.in-Some.name.now (rows_of (found_of c.in-Some.found.now)) c.in_ok-matches.ensures.found c.in-Some.ensures.name c.in-Some.ensures.rows)
    c.read_job.ensures
