use Rattle.std.proofs.Common.{◌∙◌, ap, Option}
use Rattle.std.specs.Option.{unwrap_or}
use Rattle.std.proofs.lemmas.Option.{unwrap_or-slice_get}
use Rattle.series_model.specs.declared.times.Times.{Times}
use Rattle.series_model.specs.declared.times.Times.TheVariants.{Refused}
use Rattle.series_model.specs.Options.{options_of}
use Rattle.series_model.proofs.stages.times_of.Goals as goal

pub returns : goal.returns
returns c =
    c.unwrap_or.ensures ∙ ap (λ (o : Option Times). unwrap_or o Refused) c.times_at.ensures
    ∙ unwrap_or-slice_get (options_of c.args.declaration.now c.args.unit.now) c.args.number Refused
