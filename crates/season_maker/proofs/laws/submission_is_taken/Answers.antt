use Rattle.season_maker.proofs.SubmissionLemmas.{taken, units_made}
use Rattle.season_maker.proofs.laws.submission_is_taken.Goals as goal

pub returns : goal.returns
returns c = record {
  taken = λ number units d few is. taken number units d few is;
  units = λ number units. units_made number units;
}
