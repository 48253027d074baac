use Rattle.std.proofs.Common.{arith}
use Rattle.dual_bound.proofs.kept.kept_ranks.Goals as goal

pub returns : goal.returns
returns c =
    let p = c.args.problem.now in
    let most = c.in_ok-counts.ensures.most in
    let rest = rw c.deref.ensures.value at c.in_ok-ranks.ensures.rest in
    record {
      ranks_are = c.in_ok-ranks.ensures.ranks;
      rest = λ r l b x h.
          let at_least = most x h r (omega (arith, l, c.in_ok-counts.ensures.count)) in
          let low = rest r l b in
          let small = c.in_ok-ranks.ensures.small r l in
          omega (arith, at_least, low, small);
    }
