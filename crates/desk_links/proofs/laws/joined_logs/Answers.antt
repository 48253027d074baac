use Rattle.desk_links.proofs.LinkLemmas.{taken-append, puts-append, taken-took}
use Rattle.desk_links.proofs.laws.joined_logs.Goals as goal

pub returns : goal.returns
returns c = record { taken = taken-append; puts = puts-append; next = taken-took }
