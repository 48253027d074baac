use Rattle.std.proofs.Common.{ℕ, ◌∙◌, ap, slice_index}
use Rattle.cost_fixing.specs.Fixings.{whole_alt}
use Rattle.cost_fixing.specs.Loops.{alts_in}
use Rattle.cost_fixing.proofs.StepLemmas.{map-push}
use Rattle.cost_fixing.proofs.left.Left.whole_choice.Goals as goal

pub loop-unit-preserved : goal.loop-unit-preserved
loop-unit-preserved c =
    let alts = c.args.self.now.alts in
    let unit = c.loop-unit.unit in
    c.in_ok-push.ensures.items
    ∙ map-push {X = ℕ} (λ u. whole_alt alts c.args.choice.now u) unit c.loop-unit.alts.items c.number.result c.loop-unit.invariant
    (c.number.ensures ∙ ap (λ (a : ℕ). slice_index (alts_in alts unit) a) c.alt.ensures)
