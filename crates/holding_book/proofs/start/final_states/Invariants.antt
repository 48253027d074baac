use Rattle.std.proofs.Common.{◌≡◌, ◌+◌, drop}
use Rattle.std.specs.Prelude.{All}
use Rattle.cert_format.specs.Choices.{choices_of}
use Rattle.series_model.specs.Stages.{after_stages, states_after, AreStates}
use Rattle.holding_book.specs.Private.Given.{IsGiven}
use Rattle.holding_book.proofs.start.final_states.Given as goal

abbrev pub invariant-loop-block : goal.invariant-loop-block
invariant-loop-block l = record {
  stage : l.stage ≡ l.block-index + 1;
  whole : after_stages l.submission.declaration l.stage l.states.items (drop l.block-index (choices_of l.cert)) ≡ states_after l.submission.declaration l.submission.units (choices_of l.cert);
  fit : AreStates l.submission l.states.items;
  given : All (IsGiven l.submission.declaration) l.states.items;
}
