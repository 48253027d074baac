use Rattle.std.proofs.Common.{length, Some, ap, ◌∙◌, arith}
use Rattle.std.proofs.lemmas.List.{length-take}
use Rattle.desk_outside.specs.Buffers.{BufferView}
use Rattle.desk_disk.specs.Disks.{CountedDisk, shown_length}
use Rattle.desk_disk.specs.Stops.{cut_to, cut_failed}
use Rattle.desk_disk.specs.DisksInMemory.{HeldDisk, started}
use Rattle.desk_disk.proofs.StopLemmas.{held_on, cut_same}
use Rattle.desk_disk.proofs.memory_disk.MemoryDiskDisk.cut.Goals as goal

pub invariant_of-self : goal.invariant_of-self
invariant_of-self c =
    held_on (started c.self.inside.first.items) c.self.inside.record_of.log c.fault.new.self.log (cut_failed c.args.size) c.self.inside.file.bytes
    (ap (λ (u : CountedDisk). u.log) c.fault.ensures.counted ∙ ap (λ (u : CountedDisk). u.log) c.note.ensures)
    (c.self.inside.file.bytes, c.self.invariant.0, cut_same c.args.size c.self.inside.file.bytes) (omega (arith, c.self.invariant.1))

pub returns-then-is_some-clause-told : goal.returns-then-is_some-clause-told
returns-then-is_some-clause-told c =
    (c.args.self.now.bytes, cut_same c.args.size c.args.self.now.bytes, ap (λ (d : HeldDisk). Some (record { start = started d.first; bytes = d.bytes })) c.self.view_is)

pub returns-then-is_some-clause-truly : goal.returns-then-is_some-clause-truly
returns-then-is_some-clause-truly c = (invariant_of-self c).0

pub invariant_of-self-2 : goal.invariant_of-self-2
invariant_of-self-2 c =
    held_on (started c.self.inside.first.items) c.self.inside.record_of.log c.note-2.new.self.log (cut_to c.args.size) c.cut.new.self.bytes
    (ap (λ (u : CountedDisk). u.log) c.note-2.ensures)
    (c.self.inside.file.bytes, c.self.invariant.0, ap (λ (f : BufferView). f.bytes) c.cut.ensures)
    (omega (arith, ap (λ (f : BufferView). length f.bytes) c.cut.ensures, length-take c.args.size c.self.inside.file.bytes, c.requires, ap (λ (d : HeldDisk). shown_length d.log) c.self.view_is, c.self.invariant.1))

pub returns-clause-truly : goal.returns-clause-truly
returns-clause-truly c = (invariant_of-self-2 c).0
