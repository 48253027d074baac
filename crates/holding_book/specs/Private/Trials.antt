-- What a search has tried of the movements of a line.
use Rattle.std.specs.Prelude.{◌≡◌, ℕ, ◌<◌, ◌↔◌, List, length, slice_index_or, Option, All, IsTrue}
use Rattle.season_days.specs.Capacity.{capacity_of}
use Rattle.season_days.specs.declared.day.Period.{Period}
use Rattle.season_days.specs.declared.declaration.Kind.{Kind}
use Rattle.season_days.specs.declared.declaration.Kind.TheVariants.{Arr, Dep}
use Rattle.scr_reader.specs.declared.line.Line.{Line}
use Rattle.scr_reader.specs.declared.line.Stop.{Stop}
use Rattle.choice_problem.specs.Counts.{HasUses}
use Rattle.window_counts.specs.Counts.{some_uses}
use Rattle.holding_book.specs.declared.trials.Trial.{Trial}
use Rattle.holding_book.specs.declared.trials.Trials.{Trials}
use Rattle.holding_book.specs.Private.Loads.{LoadsView}
use Rattle.holding_book.specs.Private.Uses.{IsStopPart}

-- the part of a movement at its minute, and whether each resource has left what is used of it
pub record IsTimesTrial (loads : LoadsView) (kind : Kind) (stop : Option Stop) (period : Period)
    (trial : Trial) : Type 0 where
  pub part : IsStopPart (capacity_of loads.declaration) kind stop trial.minute period trial.part
  pub fits : IsTrue trial.fits ↔ HasUses loads.left (λ r. some_uses trial.part r)

-- those of a line
pub record AreTrials (loads : LoadsView) (line : Line) (trials : Trials) : Type 0 where
  pub arrivals : All (IsTimesTrial loads Arr line.arrival line.period) trials.arrivals.items
  pub departures : All (IsTimesTrial loads Dep line.departure line.period) trials.departures.items

-- the minute was tried there
pub record IsTrialPlace (minute : ℕ) (trials : List Trial) (place : ℕ) : Type 0 where
  pub there : place < length trials
  pub minute_is : (other : Trial) → (slice_index_or trials place other).minute ≡ minute
