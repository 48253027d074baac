use Rattle.std.proofs.Common.{refl}
use Rattle.desk_commands.proofs.JudgementLemmas.{all_counted}
use Rattle.desk_commands.proofs.season.count_lines.Goals as goal

pub returns-clause-counted : goal.returns-clause-counted
returns-clause-counted c = all_counted c.loop-count.count _ c.loop-count.lines (c.in_default.ensures.none.0 refl) c.loop-count.invariant.counted
