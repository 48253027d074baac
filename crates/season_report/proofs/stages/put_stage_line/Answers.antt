use Rattle.std.proofs.Common.{sym, ◌∙◌, subst}
use Rattle.std.specs.Prelude.{All}
use Rattle.std.proofs.lemmas.List.Elements.{All-filter}
use Rattle.season_report.specs.Decisions.{is_of_stage}
use Rattle.season_report.specs.Private.{IsTold}
use Rattle.season_report.proofs.stages.put_stage_line.Goals as goal

pub tally_of-requires-clause-told : goal.tally_of-requires-clause-told
tally_of-requires-clause-told c =
    subst (All (IsTold c.args.declaration.now)) (sym (c.deref.ensures.value ∙ c.in_ok-own.ensures.found))
    (All-filter (is_of_stage c.args.stage) (IsTold c.args.declaration.now) c.args.units.now c.requires.told)
