use Rattle.std.proofs.Common.{◌≡◌, ◌∷◌, ◌++◌, [], length, arith}
use Rattle.branch_tree.proofs.ListLemmas.{times-push, run-more, pushed-within}
use Rattle.branch_tree.proofs.listing.push_numbers.Goals as goal

pub loop-at-preserved : goal.loop-at-preserved
loop-at-preserved c =
    let items = c.loop-at.list.items in
    let at = c.loop-at.at in
    let pushed : c.push.new.self.items ≡ items ++ at ∷ [] = c.in_ok-push.ensures.items in
    rw pushed (record {
      uses = λ r. omega (arith, times-push items at r, c.loop-at.invariant.uses r, run-more c.args.from at r (omega (arith, c.loop-at.auto.at)));
      within = pushed-within (length c.args.listed.now) items at (omega (arith, c.loop-at-test.true, c.requires.there)) c.loop-at.invariant.within;
    })
