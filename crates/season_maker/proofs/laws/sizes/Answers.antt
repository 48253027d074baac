use Rattle.season_maker.proofs.SizeLemmas.{ShortLaw, requests_short, capacity_short}
use Rattle.season_maker.proofs.laws.sizes.Goals as goal

pub returns : goal.returns
returns c =
    let law : ShortLaw = λ season code line fits. c.printed_lines_are_short.ensures season code line fits in
    record {
      capacity = λ units few. capacity_short units few;
      requests = λ number units few. requests_short law number units few;
    }
