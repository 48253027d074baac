use Rattle.scr_replies.proofs.AnswerLemmas.{answer_there, lines_here, left_next}
use Rattle.scr_replies.proofs.reply.put_answers.Goals as goal

pub bounds-answers-i : goal.bounds-answers-i
bounds-answers-i c = answer_there c.args.season.now c.args.items.now c.args.answers.now c.loop-i.i c.loop-i.invariant.lines c.loop-i-test.true

pub put_answer-requires : goal.put_answer-requires
put_answer-requires c = lines_here c.args.season.now c.args.items.now c.args.answers.now c.loop-i.i _ c.index-answers-i.result c.loop-i.invariant.lines c.loop-i-test.true c.index-answers-i.is

pub loop-i-preserved : goal.loop-i-preserved
loop-i-preserved c =
    let left = left_next c.args.season.now c.args.items.now c.args.answers.now c.loop-i.i _ c.index-answers-i.result c.loop-i.out.items c.put_answer.new.out.items _ c.loop-i.invariant.lines c.loop-i.invariant.text c.loop-i-test.true c.index-answers-i.is c.in_ok-put_answer.ensures in
    record { text = left.text; lines = left.lines }
