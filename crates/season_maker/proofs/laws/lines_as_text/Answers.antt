use Rattle.season_maker.proofs.WordLemmas.{arrival_text, turnaround_text}
use Rattle.season_maker.proofs.laws.lines_as_text.Goals as goal

pub returns : goal.returns
returns c = record {
  arrival = λ code unit minute few. arrival_text code unit minute;
  turnaround = λ unit arrival departure few. turnaround_text unit arrival departure;
}
