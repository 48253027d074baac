use Rattle.std.proofs.Common.{◌+◌, ◌*◌}
use Rattle.thread_rows.proofs.boards.+draw_together+fn-draw_together-join+arg2+fn-draw_together-join+arg3.Given as goal

abbrev pub decreases-draw_together : goal.decreases-draw_together
decreases-draw_together g l = 2 * l.workers

abbrev pub decreases-join+arg2 : goal.decreases-join+arg2
decreases-join+arg2 g l = 2 * l.rest + 1

abbrev pub decreases-join+arg3 : goal.decreases-join+arg3
decreases-join+arg3 g l = 2 * l.half + 1
