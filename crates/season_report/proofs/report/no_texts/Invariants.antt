use Rattle.std.proofs.Common.{◌≡◌, [], map, take}
use Rattle.series_model.specs.declared.unit.Unit.{Unit as SlotUnit}
use Rattle.season_report.specs.Private.{texts_of}
use Rattle.season_report.proofs.report.no_texts.Given as goal

abbrev pub invariant-loop-unit : goal.invariant-loop-unit
invariant-loop-unit l = texts_of l.texts.items ≡ map (λ (unit : SlotUnit). []) (take l._unit-index l.units)
