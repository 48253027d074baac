use Rattle.std.proofs.Common.{Bool, refl, sym, ap, ◌∙◌}
use Rattle.std.specs.Prelude.{if◌then◌else◌}
use Rattle.fault_causes.proofs.StandingLemmas.{stands_next}
use Rattle.fault_causes.proofs.seasons.next_standing.Goals as goal

pub returns-clause-stands : goal.returns-clause-stands
returns-clause-stands c = λ before is.
    let at = c.args.at in
    rw (sym c.is_blank_line.ensures ∙ c.if-is_blank_line.false) (stands_next at.above at.address at.season.now before c.args.line.now _ _ _ is refl c.next_address-address.ensures (c.chosen.ensures ∙ ap (λ (is : Bool). if is then c.args.line.now else at.season.now) c.is_season.ensures))
