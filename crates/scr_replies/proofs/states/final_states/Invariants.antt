use Rattle.std.proofs.Common.{◌≡◌, ◌+◌, drop, length}
use Rattle.std.specs.Prelude.{All}
use Rattle.cert_format.specs.Choices.{choices_of}
use Rattle.series_model.specs.Stages.{after_stages}
use Rattle.series_model.specs.Stages.{AreStates}
use Rattle.scr_replies.specs.SeasonReplies.{final_states, IsAnswerable}
use Rattle.scr_replies.proofs.states.final_states.Given as goal

abbrev pub invariant-loop-block : goal.invariant-loop-block
invariant-loop-block l = record {
  stage : l.stage ≡ l.block-index + 1;
  whole : after_stages l.submission.declaration l.stage l.states.items (drop l.block-index (choices_of l.cert)) ≡ final_states l.submission l.cert;
  fit : AreStates l.submission l.states.items;
  answerable : All (IsAnswerable l.submission.declaration.season) l.states.items;
  count : length l.states.items ≡ length l.submission.units;
}
