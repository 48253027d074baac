use Rattle.std.proofs.Common.{◌≡◌, ◌≤◌, length, List, ℕ, Some, sym, ap, subst, ◌∙◌, arith}
use Rattle.desk_outside.specs.Buffers.{BufferView}
use Rattle.desk_disk.specs.Disks.{CountedDisk, shown_length}
use Rattle.desk_disk.specs.Stops.{wrote_at, write_failed_at, over, Torn}
use Rattle.desk_disk.specs.DisksInMemory.{HeldDisk, started}
use Rattle.desk_disk.proofs.StopLemmas.{held_on, torn_over, length-over, front_short}
use Rattle.desk_disk.proofs.memory_disk.MemoryDiskDisk.write_at.Goals as goal

pub invariant_of-self : goal.invariant_of-self
invariant_of-self c =
    let place : c.args.at ≤ length c.self.inside.file.bytes = omega (arith, c.requires, ap (λ (d : HeldDisk). shown_length d.log) c.self.view_is, c.self.invariant.1) in
    held_on (started c.self.inside.first.items) c.self.inside.record_of.log c.note.new.self.log (wrote_at c.args.at c.args.bytes.now) c.write.new.self.bytes
    (ap (λ (u : CountedDisk). u.log) c.note.ensures)
    (c.self.inside.file.bytes, c.self.invariant.0, place, ap (λ (f : BufferView). f.bytes) c.write.ensures)
    (omega (arith, ap (λ (f : BufferView). length f.bytes) c.write.ensures, length-over c.self.inside.file.bytes c.args.bytes.now c.args.at place, c.self.invariant.1))

pub returns-then-bytes-free-clause-truly : goal.returns-then-bytes-free-clause-truly
returns-then-bytes-free-clause-truly c = (invariant_of-self c).0

pub invariant_of-self-else-is_none : goal.invariant_of-self-else-is_none
invariant_of-self-else-is_none c =
    let place : c.args.at ≤ length c.self.inside.file.bytes = omega (arith, c.requires, ap (λ (d : HeldDisk). shown_length d.log) c.self.view_is, c.self.invariant.1) in
    let short : length c.sent.result.now ≤ length c.args.bytes.now = omega (arith, ap length c.sent.ensures.bytes, front_short c.free_from-free.result c.next_failure-failure.result c.args.bytes.now) in
    let torn = torn_over c.self.inside.file.bytes c.args.bytes.now c.sent.result.now c.args.at place short in
    let is : c.write-else-is_none.new.self.bytes ≡ over c.self.inside.file.bytes c.args.at c.sent.result.now = ap (λ (f : BufferView). f.bytes) c.write-else-is_none.ensures in
    let now : Torn c.args.at (length c.args.bytes.now) c.self.inside.file.bytes c.write-else-is_none.new.self.bytes = subst (λ (l : List ℕ). Torn c.args.at (length c.args.bytes.now) c.self.inside.file.bytes l) (sym is) torn in
    held_on (started c.self.inside.first.items) c.self.inside.record_of.log c.fault.new.self.log (write_failed_at c.args.at c.args.bytes.now) c.write-else-is_none.new.self.bytes
    (ap (λ (u : CountedDisk). u.log) c.fault.ensures.counted ∙ ap (λ (u : CountedDisk). u.log) c.note-else-is_none.ensures)
    (c.self.inside.file.bytes, c.self.invariant.0, now)
    (omega (arith, now.no_shorter, c.self.invariant.1))

pub returns-else-is_none-clause-told : goal.returns-else-is_none-clause-told
returns-else-is_none-clause-told c =
    let place : c.args.at ≤ length c.self.inside.file.bytes = omega (arith, c.requires, ap (λ (d : HeldDisk). shown_length d.log) c.self.view_is, c.self.invariant.1) in
    let short : length c.sent.result.now ≤ length c.args.bytes.now = omega (arith, ap length c.sent.ensures.bytes, front_short c.free_from-free.result c.next_failure-failure.result c.args.bytes.now) in
    let torn = torn_over c.self.inside.file.bytes c.args.bytes.now c.sent.result.now c.args.at place short in
    let is : c.write-else-is_none.new.self.bytes ≡ over c.self.inside.file.bytes c.args.at c.sent.result.now = ap (λ (f : BufferView). f.bytes) c.write-else-is_none.ensures in
    let now : Torn c.args.at (length c.args.bytes.now) c.self.inside.file.bytes c.write-else-is_none.new.self.bytes = subst (λ (l : List ℕ). Torn c.args.at (length c.args.bytes.now) c.self.inside.file.bytes l) (sym is) torn in
    (c.write-else-is_none.new.self.bytes, subst (λ (d : HeldDisk). Torn c.args.at (length c.args.bytes.now) d.bytes c.write-else-is_none.new.self.bytes) c.self.view_is now, ap (λ (d : HeldDisk). Some (record { start = started d.first; bytes = c.write-else-is_none.new.self.bytes })) c.self.view_is)

pub returns-else-is_none-clause-truly : goal.returns-else-is_none-clause-truly
returns-else-is_none-clause-truly c = (invariant_of-self-else-is_none c).0
