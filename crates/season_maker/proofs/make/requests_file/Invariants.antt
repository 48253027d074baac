use Rattle.std.proofs.Common.{◌≡◌, ◌++◌}
use Rattle.season_maker.specs.Loops.{IsBefore}
use Rattle.season_maker.specs.Texts.{generated_requests}
use Rattle.season_maker.proofs.TextLemmas.{text_from}
use Rattle.season_maker.proofs.make.requests_file.Given as goal

abbrev pub invariant-loop-unit : goal.invariant-loop-unit
invariant-loop-unit l = record {
  text : l.text.items ++ text_from l.fn.number l.unit l.units ≡ generated_requests l.fn.number l.fn.units;
  state : IsBefore l.fn.number l.unit l.draws.state;
}
