use Rattle.scr_reader.proofs.RunLemmas.{rows_more}
use Rattle.scr_reader.proofs.run_reader.read_rows.Goals as goal

pub loop-line-preserved : goal.loop-line-preserved
loop-line-preserved c = rows_more c.args.season.now c.args.lines.now c.loop-line.line-index _ c.loop-line.rows.items c.push.new.self.items c.read_row.result c.loop-line-test.true c.in_ok-push.ensures.items c.read_row.ensures c.loop-line.invariant
