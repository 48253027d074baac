use Rattle.std.proofs.Common.{ℕ, List, Option, refl, subst, IfSome}
use Rattle.season_run.specs.Steps.{IsTieOf}
use Rattle.season_run.proofs.TieLemmas.{chosen-feasible, last-tied}
use Rattle.season_run.proofs.ties.tied_stages.Goals as goal

pub third_tie-requires-clause-third : goal.third_tie-requires-clause-third
third_tie-requires-clause-third g c = λ κs lives.
    let l = c.problem_choices.ensures in
    chosen-feasible l.numbers l.there l.displacement l.feasible l.back c.args.submission.now.declaration 3 c.args.states.now c.args.budget c.args.last.third c.args.follows c.requires.last.third
    c.requires.last.third_fits

pub returns-clause-stages : goal.returns-clause-stages
returns-clause-stages g c =
    let l = c.problem_choices.ensures in
    let d = c.args.submission.now.declaration in
    let states = c.args.states.now in
    let tie = subst (λ (k : Option (List ℕ)). IfSome k (IsTieOf d 3 states c.args.last.third)) c.in-Some.is c.in_ok-tie.ensures in
    last-tied l.numbers l.there l.displacement l.feasible l.back d 3 states c.args.budget c.args.follows c.args.last c.with_stages.result c.in-Some.tie c.in_ok-fourth.fourth refl c.requires.last tie
    c.in_ok-fourth.ensures.fourth c.in_ok-fourth.ensures.fits c.with_stages.ensures.third c.with_stages.ensures.fourth
