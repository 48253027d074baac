use Rattle.season_days.proofs.PartLemmas.{all_parts}
use Rattle.season_days.proofs.laws.cut_parts.Goals as goal

pub returns : goal.returns
returns c = all_parts
