use Rattle.std.proofs.Common.{ap, ◌∙◌}
use Rattle.desk_disk.specs.Disks.{CountedDisk}
use Rattle.desk_disk.specs.Stops.{synced, sync_failed}
use Rattle.desk_disk.specs.DisksInMemory.{started}
use Rattle.desk_disk.proofs.StopLemmas.{held_on}
use Rattle.desk_disk.proofs.memory_disk.MemoryDiskDisk.sync.Goals as goal

pub invariant_of-self : goal.invariant_of-self
invariant_of-self c =
    held_on (started c.self.inside.first.items) c.self.inside.record_of.log c.fault.new.self.log sync_failed c.self.inside.file.bytes
    (ap (λ (u : CountedDisk). u.log) c.fault.ensures.counted ∙ ap (λ (u : CountedDisk). u.log) c.note.ensures) c.self.invariant.0 c.self.invariant.1

pub returns-then-is_some-clause-truly : goal.returns-then-is_some-clause-truly
returns-then-is_some-clause-truly c = (invariant_of-self c).0

pub invariant_of-self-2 : goal.invariant_of-self-2
invariant_of-self-2 c =
    held_on (started c.self.inside.first.items) c.self.inside.record_of.log c.note-2.new.self.log synced c.self.inside.file.bytes
    (ap (λ (u : CountedDisk). u.log) c.note-2.ensures) c.self.invariant.0 c.self.invariant.1

pub returns-clause-truly : goal.returns-clause-truly
returns-clause-truly c = (invariant_of-self-2 c).0
