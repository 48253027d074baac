use Rattle.std.proofs.Common.{◌≡◌, sym, subst}
use Rattle.std.specs.Prelude.{Option}
use Rattle.scr_reader.specs.declared.line.Stop.{Stop}
use Rattle.choice_problem.specs.Strips.{part_uses}
use Rattle.series_model.specs.Movements.{stop_load}
use Rattle.wasg_stages.proofs.LoadLemmas.{lowers-same}
use Rattle.wasg_stages.proofs.limits.lower_stop.Goals as goal

pub returns-in_ok-part-in-Some : goal.returns-in_ok-part-in-Some
returns-in_ok-part-in-Some c =
    lowers-same c.args.limits.now c.lower_part.new.limits _ _
    (λ r. subst (λ (o : Option Stop). part_uses c.in_ok-part-in-Some.part r ≡ stop_load c.args.windows.now c.args.kind o c.args.minute c.args.period r) (sym c.in-Some.is) (c.in_ok-part-in-Some.ensures.uses r))
    c.lower_part.ensures
