use Rattle.std.proofs.Common.{length, sym, ap, arith}
use Rattle.desk_disk.specs.Disks.{CountedDisk}
use Rattle.desk_disk.specs.Stops.{measured}
use Rattle.desk_disk.specs.DisksInMemory.{started}
use Rattle.desk_disk.proofs.StopLemmas.{held_on}
use Rattle.desk_disk.proofs.memory_disk.MemoryDiskDisk.length.Goals as goal

pub invariant_of-self-2 : goal.invariant_of-self-2
invariant_of-self-2 c =
    held_on (started c.self.inside.first.items) c.self.inside.record_of.log c.note.new.self.log (measured (length c.bytes.result.now)) c.self.inside.file.bytes
    (ap (λ (u : CountedDisk). u.log) c.note.ensures) (c.self.invariant.0, sym (ap length c.bytes.ensures)) (omega (arith, ap length c.bytes.ensures))

pub returns-clause-truly : goal.returns-clause-truly
returns-clause-truly c = (invariant_of-self-2 c).0
