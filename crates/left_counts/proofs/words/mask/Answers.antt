use Rattle.left_counts.proofs.BitLemmas.{mask_inside, mask_below, mask_above}
use Rattle.left_counts.proofs.words.mask.Goals as goal

pub returns-clause-inside : goal.returns-clause-inside
returns-clause-inside c = mask_inside c.args.low c.args.count c.requires.some c.requires.within

pub returns-clause-below : goal.returns-clause-below
returns-clause-below c = mask_below c.args.low c.args.count c.requires.some c.requires.within

pub returns-clause-above : goal.returns-clause-above
returns-clause-above c = mask_above c.args.low c.args.count c.requires.some c.requires.within
