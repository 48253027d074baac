use Rattle.std.proofs.Common.{rules}
use Rattle.season_run.proofs.TieLemmas.{to-problem, found-tie}
use Rattle.season_run.proofs.ties.stage_tie.Goals as goal

pub tied_choice-requires : goal.tied_choice-requires
tied_choice-requires g c =
    let l = c.problem_choices.ensures in
    (search rules, to-problem l.numbers l.there l.displacement l.feasible l.back c.args.submission.now.declaration 3 c.args.states.now c.in_ok-first.first c.args.third.now c.in_ok-first.ensures c.requires.third)

pub returns : goal.returns
returns g c =
    let l = c.problem_choices.ensures in
    found-tie l.numbers l.there l.displacement l.feasible l.back c.args.submission.now.declaration 3 c.args.states.now c.in_ok-first.first c.args.third.now c.in_ok-found.found c.in_ok-first.ensures c.requires.third
    c.in_ok-found.ensures
