use Rattle.std.proofs.Common.{◌+◌}
use Rattle.left_counts.proofs.BitLemmas.{none_masked}
use Rattle.left_counts.proofs.words.has_none.Goals as goal

pub returns : goal.returns
returns c = none_masked c.args.word c.mask.result c.args.low (c.args.low + c.args.count) c.mask.ensures.inside c.mask.ensures.below c.mask.ensures.above
