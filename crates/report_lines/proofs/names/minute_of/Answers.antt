use Rattle.std.proofs.Common.{arith}
use Rattle.report_lines.proofs.WindowLemmas.{start_fits}
use Rattle.report_lines.proofs.names.minute_of.Goals as goal

pub overflow_mul-result : goal.overflow_mul-result
overflow_mul-result c =
    let fits = start_fits c.args.step c.args.rule c.args.start c.requires in
    omega (arith, fits)

pub overflow_add-result : goal.overflow_add-result
overflow_add-result c =
    let fits = start_fits c.args.step c.args.rule c.args.start c.requires in
    omega (arith, fits)
