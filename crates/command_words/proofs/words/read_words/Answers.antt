use Rattle.command_words.specs.Words.{words_of}
use Rattle.command_words.specs.Jobs.{job_of}
use Rattle.command_words.proofs.JobLemmas.{answers_found, answers_only, answers_none, answers_job}
use Rattle.command_words.proofs.words.read_words.Goals as goal

pub returns-clause-found : goal.returns-clause-found
returns-clause-found c = answers_found (job_of (words_of c.args.words.now)) c.find_job.result c.find_job.ensures

pub returns-clause-only : goal.returns-clause-only
returns-clause-only c = λ job is. answers_only (job_of (words_of c.args.words.now)) c.find_job.result job c.find_job.ensures is

pub returns-clause-none : goal.returns-clause-none
returns-clause-none c = λ is. answers_none (job_of (words_of c.args.words.now)) c.find_job.result c.find_job.ensures is

pub returns-clause-named : goal.returns-clause-named
returns-clause-named c = answers_job (words_of c.args.words.now) c.find_job.result c.find_job.ensures
