use Rattle.std.proofs.Common.{List, length, take, ◌<◌, Some, sym, ap, subst, ◌∙◌, arith}
use Rattle.desk_outside.specs.InMemory.{CabinetView, bytes_under}
use Rattle.desk_outside.specs.Places.{IsPlaceOf}
use Rattle.desk_outside.specs.declared.slots.Slot.{Slot}
use Rattle.desk_outside.proofs.CabinetLemmas.{file_there}
use Rattle.desk_outside.proofs.memory_cabinet.MemoryCabinet.file.Goals as goal

pub returns : goal.returns
returns c =
    let slots : List Slot = c.self.inside.slots.items in
    let used = c.self.inside.used in
    let at = c.in_ok-at.at in
    let within : at < length (take used slots) = subst (λ (s : List Slot). at < length (take used s)) c.deref.ensures.value c.in_ok-at.ensures.within in
    let place : IsPlaceOf (take used slots) c.args.name.now at = subst (λ (s : List Slot). IsPlaceOf (take used s) c.args.name.now at) c.deref.ensures.value c.in_ok-at.ensures.place in
    ap Some c.bytes.ensures
    ∙ sym (file_there slots used at c.args.name.now c.index.result.now (omega arith) within place c.index.ensures)
    ∙ ap (λ (s : CabinetView). bytes_under s.files c.args.name.now) c.self.view_is
