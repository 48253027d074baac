use Rattle.std.proofs.Common.{arith}
use Rattle.amend_run.proofs.RunLemmas.{piece_on, piece_few, run_end}
use Rattle.amend_run.proofs.run.amend_pieces.Goals as goal

pub loop-piece-preserved : goal.loop-piece-preserved
loop-piece-preserved c =
    let asks = c.args.asks.now in
    let pieces = c.args.pieces.now in
    let i = c.loop-piece.piece-index in
    record {
      on = piece_on c.args.start.book asks pieces i _ c.loop-piece.book.book c.amend_message.new.book.book c.loop-piece.text.items c.amend_message.new.out.items c.loop-piece.history.items c.amend_message.new.history.items c.replays_fit.ensures.declaration c.loop-piece-test.true c.loop-piece.invariant.on c.in_ok-amend_message.ensures.step;
      few = piece_few asks pieces i _ _ _ _ c.loop-piece-test.true c.loop-piece.invariant.few c.in_ok-amend_message.ensures.few;
      grown = omega (arith, c.loop-piece.invariant.grown, c.in_ok-amend_message.ensures.grown);
    }

pub returns-clause-run : goal.returns-clause-run
returns-clause-run c = run_end c.args.start.book c.args.asks.now c.args.pieces.now c.loop-piece.piece-index c.loop-piece.book.book c.loop-piece.text.items c.loop-piece.history.items c.loop-piece-test.false c.loop-piece.invariant.on
