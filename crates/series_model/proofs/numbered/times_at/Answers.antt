use Rattle.std.proofs.Common.{ap, ◌∙◌, List, [], ◌∷◌}
use Rattle.std.specs.Prelude.{slice_get}
use Rattle.series_model.specs.declared.times.Times.{Times}
use Rattle.series_model.proofs.NumberedLemmas.{only-made}
use Rattle.series_model.proofs.numbered.times_at.Goals as goal

pub returns-in-F : goal.returns-in-F
returns-in-F c =
    c.or_last.ensures (c.line_times.result ∷ []) c.args.number c.only_one.ensures
    ∙ ap (λ (options : List Times). slice_get options c.args.number) (only-made c.args.declaration.now c.args.unit.now c.line_times.result c.in-F.is c.line_times.ensures)
