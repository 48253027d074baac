use Rattle.std.proofs.Common.{◌≡◌, length, vec_len, refl, sym, ap, ◌∙◌, arith}
use Rattle.desk_outside.specs.InMemory.{CabinetView, has_room, with_loaded}
use Rattle.desk_outside.specs.Buffers.{BufferView}
use Rattle.desk_outside.specs.contracts.memory_cabinet.MemoryCabinet.{the_view}
use Rattle.desk_outside.proofs.CabinetLemmas.{loaded_over, loaded_behind}
use Rattle.desk_outside.proofs.memory_cabinet.MemoryCabinet.load.Goals as goal

pub returns-in-Some-clause-answer : goal.returns-in-Some-clause-answer
returns-in-Some-clause-answer c =
    let both = loaded_over (the_view c.self.inside) c.self.inside.slots.items c.deref.result.now c.self.inside.used c.in-Some.at _ c.args.name.now c.args.bytes.now c.index_mut-slot.result.now c.replace.new.self
    refl c.deref.ensures.value (omega arith) c.in-Some.ensures.within c.in-Some.ensures.place c.index_mut-slot.ensures.value (ap (λ (b : BufferView). b.bytes) c.replace.ensures) c.if-bytes-self.false refl in
    sym both.0 ∙ ap (λ (s : CabinetView). has_room s c.args.name.now c.args.bytes.now) c.self.view_is

pub returns-in-Some-clause-files : goal.returns-in-Some-clause-files
returns-in-Some-clause-files c =
    let both = loaded_over (the_view c.self.inside) c.self.inside.slots.items c.deref.result.now c.self.inside.used c.in-Some.at _ c.args.name.now c.args.bytes.now c.index_mut-slot.result.now c.replace.new.self
    refl c.deref.ensures.value (omega arith) c.in-Some.ensures.within c.in-Some.ensures.place c.index_mut-slot.ensures.value (ap (λ (b : BufferView). b.bytes) c.replace.ensures) c.if-bytes-self.false refl in
    both.1 ∙ ap (λ (s : CabinetView). with_loaded s c.args.name.now c.args.bytes.now) c.self.view_is

pub returns-else-name-gt-NAME_ROOM-clause-files : goal.returns-else-name-gt-NAME_ROOM-clause-files
returns-else-name-gt-NAME_ROOM-clause-files c =
    let places : length c.self.inside.slots.items ≡ vec_len c.self.inside.slots = sym c.self.inside.slots.ok.0 in
    let both = loaded_behind (the_view c.self.inside) c.self.inside.slots.items c.deref.result.now c.self.inside.used _ c.args.name.now c.args.bytes.now c.replace-in-None.new.self c.replace-in-None-2.new.self
    refl c.deref.ensures.value (omega arith) c.in-None.ensures.place (ap (λ (b : BufferView). b.bytes) c.replace-in-None.ensures ∙ c.as_bytes.ensures.value) (ap (λ (b : BufferView). b.bytes) c.replace-in-None-2.ensures) c.if-bytes-self.false (omega arith) places refl in
    both.1 ∙ ap (λ (s : CabinetView). with_loaded s c.args.name.now c.args.bytes.now) c.self.view_is
