use Rattle.std.proofs.Common.{◌≡◌, List, ℤ, map, pos, sym, ap, ◌∙◌, subst}
use Rattle.capacity_windows.specs.Windows.{declared_resources, window_limit}
use Rattle.wasg_stages.specs.Steps.{AreLimitsOf}
use Rattle.wasg_stages.proofs.LoadLemmas.{signed-limits}
use Rattle.wasg_stages.proofs.limits.declared_limits.Goals as goal

pub returns-clause-each : goal.returns-clause-each
returns-clause-each c =
    let w = c.args.windows.now in
    let numbers = c.in_ok-declared.declared.items in
    let same : c.in_ok-limits.limits.items ≡ map pos numbers = c.in_ok-limits.ensures ∙ ap (map pos) c.deref.ensures.value in
    subst (λ (limits : List ℤ). AreLimitsOf limits (window_limit w)) (sym same)
    (signed-limits w numbers (declared_resources w) c.in_ok-declared.ensures.count c.in_ok-declared.ensures.each c.in_ok-declared.ensures.few)
