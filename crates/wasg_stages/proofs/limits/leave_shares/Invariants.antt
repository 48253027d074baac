use Rattle.std.proofs.Common.{◌≡◌, length}
use Rattle.wasg_stages.specs.Steps.{AreShares}
use Rattle.wasg_stages.proofs.limits.leave_shares.Given as goal

abbrev pub invariant-loop-at : goal.invariant-loop-at
invariant-loop-at l = record {
  count : length l.limits ≡ length l.fn.limits;
  shares : AreShares l.declaration.share l.fn.limits l.limits l.at;
}
