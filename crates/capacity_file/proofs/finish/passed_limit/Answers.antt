use Rattle.capacity_file.proofs.DeclareLemmas.{rules_kept}
use Rattle.capacity_file.proofs.finish.passed_limit.Goals as goal

pub count_windows-windows-requires-clause-rules : goal.count_windows-windows-requires-clause-rules
count_windows-windows-requires-clause-rules c = rules_kept c.args.rules.now c.requires.rules
