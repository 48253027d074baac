use Rattle.std.proofs.Common.{◌≡◌, ◌∙◌}
use Rattle.series_model.specs.Options.{with_times, flexible_options}
use Rattle.series_model.proofs.OptionLemmas.{on_ok, flexible_by, flexible_made}
use Rattle.series_model.proofs.options.push_flexible.Goals as goal

pub shifts_between-requires-clause-historic : goal.shifts_between-requires-clause-historic
shifts_between-requires-clause-historic c = flexible_by c.args.declaration.now c.args.request.now c.in-Some.historic c.args.historic c.in-Some.is c.requires.historic

pub returns : goal.returns
returns c =
    let same = flexible_made c.args.declaration.now c.args.request.now c.in-Some.historic c.args.historic c.shifts_between.result c.args.options.now.items c.push_line.new.options.items c.line_times.result
    c.in-Some.is c.requires.empty c.in_ok-push_line.ensures c.shifts_between.ensures.shifts c.line_times.ensures in
    on_ok c.push_missing.result
    (c.push_missing.new.options.items ≡ with_times c.push_line.new.options.items c.line_times.result)
    (c.push_missing.new.options.items ≡ flexible_options c.args.declaration.now c.args.request.now c.args.historic)
    (λ pushed. pushed ∙ same) c.push_missing.ensures
