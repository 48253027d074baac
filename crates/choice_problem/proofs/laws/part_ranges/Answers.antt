use Rattle.choice_problem.proofs.TreeLemmas.{AreRanges-whole_of, AreRanges-low_part, AreRanges-high_part, AreRanges-slice_set}
use Rattle.choice_problem.proofs.laws.part_ranges.Goals as goal

pub returns-clause-whole : goal.returns-clause-whole
returns-clause-whole c = AreRanges-whole_of

pub returns-clause-low : goal.returns-clause-low
returns-clause-low c = AreRanges-low_part

pub returns-clause-high : goal.returns-clause-high
returns-clause-high c = AreRanges-high_part

pub returns-clause-set : goal.returns-clause-set
returns-clause-set c = AreRanges-slice_set
