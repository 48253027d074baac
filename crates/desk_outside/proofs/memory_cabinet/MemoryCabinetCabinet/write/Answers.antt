use Rattle.std.proofs.Common.{◌≡◌, ◌∙◌, ◌≤◌, ℕ, Some, ap, sym, subst}
use Rattle.desk_outside.specs.Cause.{Rose}
use Rattle.desk_outside.specs.Files.{WritesPart}
use Rattle.desk_outside.specs.InMemory.{CabinetView, bytes_under}
use Rattle.desk_outside.proofs.WriteLemmas.{write_ok, write_part, write_rose}
use Rattle.desk_outside.proofs.memory_cabinet.MemoryCabinetCabinet.write.Goals as goal

pub returns-then-write_counted-clause-ok : goal.returns-then-write_counted-clause-ok
returns-then-write_counted-clause-ok c =
    ap (λ (v : CabinetView). Some (bytes_under v.files)) c.note.ensures
    ∙ ap Some (write_ok c.args.self.now c.write_counted.new.self c.args.name.now c.args.bytes.now c.write_counted.result c.if-write_counted.true c.write_counted.ensures.answer c.write_counted.ensures.after)

pub returns-else-write_counted-clause-part : goal.returns-else-write_counted-clause-part
returns-else-write_counted-clause-part c =
    subst (λ (v : CabinetView). WritesPart (Some (bytes_under c.args.self.now.files)) c.args.name.now c.args.bytes.now (Some (bytes_under v.files))) (sym c.note-else-write_counted.ensures)
    (write_part c.args.self.now c.write_counted.new.self c.args.name.now c.args.bytes.now c.write_counted.result c.if-write_counted.false c.write_counted.ensures.answer c.write_counted.ensures.after)

pub returns-else-write_counted-clause-cause : goal.returns-else-write_counted-clause-cause
returns-else-write_counted-clause-cause c =
    let same : c.note-else-write_counted.new.self.faults ≡ c.write_counted.new.self.faults = ap (λ (v : CabinetView). v.faults) c.note-else-write_counted.ensures in record {
      later = subst (λ (n : ℕ). c.args.self.now.faults ≤ n) (sym same) c.write_counted.ensures.later;
      kept = tt;
      rose =
          subst (λ (n : ℕ). Rose c.args.self.now.faults n) (sym same)
          (write_rose c.args.self.now c.write_counted.new.self c.args.name.now c.args.bytes.now c.write_counted.result c.if-write_counted.false c.write_counted.ensures.answer c.write_counted.ensures.after);
    }
