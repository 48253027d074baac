use Rattle.std.proofs.Common.{◌≡◌, ◌++◌, drop}
use Rattle.scr_replies.specs.Replies.{answers_text, AreAnswerLines}
use Rattle.scr_replies.proofs.reply.put_answers.Given as goal

abbrev pub invariant-loop-i : goal.invariant-loop-i
invariant-loop-i l = record {
  text : l.out.items ++ answers_text l.season (drop l.i l.items) (drop l.i l.answers) ≡ l.initial.out.items ++ answers_text l.season l.items l.answers;
  lines : AreAnswerLines l.season (drop l.i l.items) (drop l.i l.answers);
}
