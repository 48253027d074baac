use Rattle.std.proofs.Common.{ℕ, sym, ◌∙◌}
use Rattle.series_model.specs.declared.times.Times.TheVariants.{At}
use Rattle.series_model.proofs.NumberedLemmas.{mapped-found, mapped-past}
use Rattle.series_model.proofs.numbered.at_arrival.Goals as goal

pub returns-in-Ok : goal.returns-in-Ok
returns-in-Ok c = λ minutes n is. sym (mapped-found (λ (arrival : ℕ). At arrival 0) minutes n c.in-Ok.arrival (sym is ∙ c.in-Ok.is))

pub returns-in-Err : goal.returns-in-Err
returns-in-Err c = λ minutes n is. sym (mapped-past (λ (arrival : ℕ). At arrival 0) minutes n c.in-Err.left (sym is ∙ c.in-Err.is))
