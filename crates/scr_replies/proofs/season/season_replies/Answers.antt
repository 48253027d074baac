use Rattle.std.proofs.Common.{length, List, sym, ◌∙◌, ap}
use Rattle.scr_reader.specs.declared.message.Message.{Message}
use Rattle.series_model.specs.declared.state.UnitState.{UnitState}
use Rattle.series_model.specs.declared.unit.Unit.{Unit as SlotUnit}
use Rattle.series_model.specs.Units.{units_of}
use Rattle.scr_replies.proofs.season.season_replies.Goals as goal

pub put_replies-requires-clause-count : goal.put_replies-requires-clause-count
put_replies-requires-clause-count c =
    ap (λ (s : List UnitState). length s) c.deref.ensures.value ∙ c.in_ok-states.ensures.count
    ∙ ap (λ (us : List SlotUnit). length us) (sym c.units-units.ensures.value ∙ c.units-units.ensures.of_messages)
    ∙ ap (λ (ms : List Message). length (units_of ms)) (sym (c.items.ensures ∙ c.messages.ensures.value))
