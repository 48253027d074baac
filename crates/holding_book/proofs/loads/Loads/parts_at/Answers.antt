use Rattle.std.proofs.Common.{ℕ, arith}
use Rattle.season_days.specs.Capacity.{capacity_of}
use Rattle.holding_book.proofs.loads.Loads.parts_at.Goals as goal

pub returns : goal.returns
returns c =
    let d = c.args.self.now.declaration in
    let loads = λ (r : ℕ). c.movement_loads.ensures (capacity_of d) c.args.line.now c.in-At.arrival c.in-At.departure r in
    record {
      there = (c.in_ok-one.ensures.there, c.in_ok-two.ensures.there);
      once = (c.in_ok-one.ensures.once, c.in_ok-two.ensures.once);
      loads = λ r. rw c.in-At.is (omega (arith, loads r, c.in_ok-one.ensures.loads r, c.in_ok-two.ensures.loads r));
      few = λ r. omega (arith, c.in_ok-one.ensures.few r, c.in_ok-two.ensures.few r);
    }
