-- What the stages gave to a unit.
use Rattle.std.specs.Prelude.{Contains, Option, Some, None}
use Rattle.season_days.specs.declared.declaration.Declaration.{Declaration}
use Rattle.series_model.specs.declared.unit.Unit.{Unit as SlotUnit}
use Rattle.series_model.specs.declared.times.Times.{Times}
use Rattle.series_model.specs.declared.times.Times.TheVariants.{Refused, At}
use Rattle.series_model.specs.declared.state.UnitState.{UnitState}
use Rattle.series_model.specs.Options.{options_of}
use Rattle.series_model.specs.Units.{UnitFits}

-- nothing, no slots, or one of its alternatives

abbrev pub IsGivenTimes : Declaration → SlotUnit → Option Times → Type 0
IsGivenTimes d unit None = Unit {0}
IsGivenTimes d unit (Some Refused) = Unit {0}
IsGivenTimes d unit (Some (At arrival departure)) =
    Contains (options_of d unit) (At arrival departure)

pub record IsGiven (d : Declaration) (state : UnitState) : Type 0 where
  pub unit : UnitFits d.season state.unit
  pub given : IsGivenTimes d state.unit state.given
