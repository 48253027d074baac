use Rattle.std.proofs.Common.{ap, ◌∙◌, List, [], ◌∷◌}
use Rattle.std.specs.Prelude.{slice_get}
use Rattle.series_model.specs.declared.times.Times.{Times}
use Rattle.series_model.proofs.NumberedLemmas.{either-made}
use Rattle.series_model.proofs.numbered.either_at.Goals as goal

pub returns : goal.returns
returns c =
    c.or_last.ensures (c.line_times-requested.result ∷ []) c.args.number c.only_one.ensures
    ∙ ap (λ (options : List Times). slice_get options c.args.number)
    (either-made c.args.request.now c.args.historic c.line_times-requested.result c.historic_last-last.result c.line_times-requested.ensures c.historic_last-last.ensures.none c.historic_last-last.ensures.some)
