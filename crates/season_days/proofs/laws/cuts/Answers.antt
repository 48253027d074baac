use Rattle.season_days.proofs.CutLemmas.{cut_before, cut_between, cut_after, cut_once}
use Rattle.season_days.proofs.laws.cuts.Goals as goal

pub returns-clause-before : goal.returns-clause-before
returns-clause-before c = cut_before

pub returns-clause-between : goal.returns-clause-between
returns-clause-between c = cut_between

pub returns-clause-after : goal.returns-clause-after
returns-clause-after c = cut_after

pub returns-clause-once : goal.returns-clause-once
returns-clause-once c = cut_once
