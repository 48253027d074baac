use Rattle.std.proofs.Common.{◌≡◌}
use Rattle.series_model.specs.Options.{options_of}
use Rattle.wasg_stages.specs.Parts.{AreAlts, IsTable}
use Rattle.wasg_stages.proofs.choosers.chooser_of.Given as goal

abbrev pub invariant-loop-times : goal.invariant-loop-times
invariant-loop-times l = record {
  options : l.times-items ≡ options_of l.declaration l.unit;
  alts : AreAlts l.declaration l.unit (options_of l.declaration l.unit) l.parts.items l.alts.items l.times-index;
  table : IsTable l.declaration l.unit.request.period l.arrivals l.departures l.parts.items;
}
