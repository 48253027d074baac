use Rattle.std.proofs.Common.{◌∙◌}
use Rattle.choice_problem.specs.Problems.{ChooserView, chooser_at}
use Rattle.dual_bound.specs.Kept.{IsUnitOnKept}
use Rattle.dual_bound.proofs.RankLemmas.{IsChooser-kept}
use Rattle.dual_bound.proofs.kept.kept_unit.Goals as goal

pub new-requires : goal.new-requires
new-requires c =
    let p = c.args.problem.now in
    let ranks = c.args.ranks.now in
    let m : ChooserView = chooser_at p c.args.unit in
    let k : ChooserView = record { parts = c.in_ok-parts.parts.items; alts = c.in_ok-alts.alts.items } in
    let on : IsUnitOnKept p ranks m k = record {
      alts = c.in_ok-alts.ensures.items ∙ c.unit_alts.ensures.value;
      parts = rw c.unit_parts.ensures.value at c.in_ok-parts.ensures.count;
      uses = rw c.unit_parts.ensures.value at c.in_ok-parts.ensures.uses;
    } in
    IsChooser-kept p ranks m k c.requires.ranks c.unit_alts.ensures.valid on c.in_ok-parts.ensures.there c.strip_list.ensures.beyond
