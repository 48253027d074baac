use Rattle.std.proofs.Common.{ℕ, List, ◌-◌, ap, sym, ◌∙◌, refl}
use Rattle.std.specs.Prelude.{slice_get}
use Rattle.std.proofs.lemmas.Option.{none-some}
use Rattle.fault_causes.proofs.StandingLemmas.{no_lines}
use Rattle.fault_causes.proofs.capacity.line_of.Goals as goal

pub returns : goal.returns
returns c = λ line stands.
    let none = no_lines c.loop-line.lines (c.in_default.ensures.none.0 refl) in
    absurd (none-some line (sym (ap (λ (lines : List (List ℕ)). slice_get lines (c.loop-line.left - 1)) none) ∙ c.loop-line.invariant line stands))
