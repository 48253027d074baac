use Rattle.std.proofs.Common.{◌∙◌}
use Rattle.series_model.specs.Stages.{stage_units, stage_limit}
use Rattle.season_report.proofs.TriedLemmas.{all_loads}
use Rattle.season_report.proofs.tried.count_taken.Goals as goal

pub add_choice-requires-clause-alts : goal.add_choice-requires-clause-alts
add_choice-requires-clause-alts c =
    let d = c.args.declaration.now in
    let states = c.args.states.now in
    c.problem_choices.ensures.there d (stage_units c.args.stage states) (stage_limit d c.args.stage states) c.args.problem.now c.args.taken.now c.requires.problem c.requires.choice.numbers

pub returns : goal.returns
returns c =
    let d = c.args.declaration.now in
    let states = c.args.states.now in
    let stage = c.args.stage in
    let x = c.args.taken.now in
    let p = c.args.problem.now in
    record {
      length = c.add_choice.ensures.count ∙ c.requires.problem.resources;
      each = all_loads c.problem_choices.ensures.loads d stage states p x c.add_choice.new.loads c.requires.problem
          (c.problem_choices.ensures.there d (stage_units stage states) (stage_limit d stage states) p x c.requires.problem c.requires.choice.numbers) c.add_choice.ensures.loads;
    }
