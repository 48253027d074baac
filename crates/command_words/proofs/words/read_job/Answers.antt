use Rattle.std.proofs.Common.{refl, codes}
use Rattle.command_words.proofs.JobLemmas.{other_word}
use Rattle.command_words.proofs.words.read_job.Goals as goal

pub returns-in_default : goal.returns-in_default
returns-in_default c =
    let n = c.args.name.now in
    rw (
      other_word n (codes "allocate") c.in_default.not-allocate,
      other_word n (codes "check") c.in_default.not-check,
      other_word n (codes "amend") c.in_default.not-amend,
      other_word n (codes "serve") c.in_default.not-serve,
      other_word n (codes "resume") c.in_default.not-resume,
      other_word n (codes "usage") c.in_default.not-usage,
      other_word n (codes "reclear") c.in_default.not-reclear,
      other_word n (codes "recheck") c.in_default.not-recheck,
      other_word n (codes "report") c.in_default.not-report,
      other_word n (codes "inspect") c.in_default.not-inspect,
      other_word n (codes "make") c.in_default.not-make,
      other_word n (codes "trial") c.in_default.not-trial,
    ) refl
