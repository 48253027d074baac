use Rattle.wait_list.proofs.ExtraLemmas.{extra-bytes}
use Rattle.wait_list.proofs.laws.extra_bytes.Goals as goal

pub returns : goal.returns
returns c = extra-bytes c.season_bytes.ensures
