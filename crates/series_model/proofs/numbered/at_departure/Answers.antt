use Rattle.std.proofs.Common.{ℕ, sym, ◌∙◌}
use Rattle.series_model.specs.declared.times.Times.TheVariants.{At}
use Rattle.series_model.proofs.NumberedLemmas.{mapped-found, mapped-past}
use Rattle.series_model.proofs.numbered.at_departure.Goals as goal

pub returns-in-Ok : goal.returns-in-Ok
returns-in-Ok c = λ minutes n is. sym (mapped-found (λ (departure : ℕ). At 0 departure) minutes n c.in-Ok.departure (sym is ∙ c.in-Ok.is))

pub returns-in-Err : goal.returns-in-Err
returns-in-Err c = λ minutes n is. sym (mapped-past (λ (departure : ℕ). At 0 departure) minutes n c.in-Err.left (sym is ∙ c.in-Err.is))
