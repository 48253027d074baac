use Rattle.scr_reader.proofs.NamedLemmas.{season_line}
use Rattle.scr_reader.proofs.laws.season_lines.Goals as goal

pub returns : goal.returns
returns c = season_line
