use Rattle.std.proofs.Common.{◌≡◌, length}
use Rattle.amend_journal.specs.Durable.{IsLaterDisk}
use Rattle.amend_journal.specs.Private.{OnlyLooked, HasRead}
use Rattle.amend_journal.proofs.read.read_slots.Given as goal

abbrev pub invariant-loop-number : goal.invariant-loop-number
invariant-loop-number g l = record {
  looks : OnlyLooked (g.K.Disk.view l.fn.disk).log (g.K.Disk.view l.disk).log;
  read : HasRead l.season (g.K.Disk.view l.disk).log l.size l.asks.items l.gate;
  count : length l.asks.items ≡ l.number;
  later : IsLaterDisk (g.K.Disk.view l.fn.disk) (g.K.Disk.view l.disk);
  told : (g.K.Disk.view l.disk).told ≡ (g.K.Disk.view l.fn.disk).told;
  faults : (g.K.Disk.view l.disk).faults ≡ (g.K.Disk.view l.fn.disk).faults;
}
