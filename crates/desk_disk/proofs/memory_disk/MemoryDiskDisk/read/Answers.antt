use Rattle.std.proofs.Common.{ℕ, take, drop, sym, ap, ◌∙◌, arith}
use Rattle.desk_disk.specs.Disks.{CountedDisk, shown_length}
use Rattle.desk_disk.specs.Stops.{read_at}
use Rattle.desk_disk.specs.DisksInMemory.{HeldDisk, started}
use Rattle.desk_disk.proofs.StopLemmas.{held_on}
use Rattle.desk_disk.proofs.memory_disk.MemoryDiskDisk.read.Goals as goal

pub invariant_of-self-2 : goal.invariant_of-self-2
invariant_of-self-2 c =
    held_on (started c.self.inside.first.items) c.self.inside.record_of.log c.note.new.self.log (read_at c.args.at c.read.new.into) c.self.inside.file.bytes
    (ap (λ (u : CountedDisk). u.log) c.note.ensures)
    (c.self.invariant.0, ap (λ (k : ℕ). take k (drop c.args.at c.self.inside.file.bytes)) c.read.ensures.whole ∙ sym c.read.ensures.bytes)
    (omega (arith, c.read.ensures.whole, c.requires, ap (λ (d : HeldDisk). shown_length d.log) c.self.view_is, c.self.invariant.1))

pub returns-clause-truly : goal.returns-clause-truly
returns-clause-truly c = (invariant_of-self-2 c).0
