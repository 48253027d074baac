use Rattle.std.proofs.Common.{◌∙◌, ap, arith, get_or, pos}
use Rattle.std.proofs.lemmas.Int.{ints, to_z-of_z}
use mir.Syntax.{w64}
use mir.Val.{SFits}
use Rattle.wasg_stages.proofs.LoadLemmas.{shares-on}
use Rattle.wasg_stages.proofs.limits.leave_shares.Goals as goal

pub entrants_share-limit-requires-clause-some : goal.entrants_share-limit-requires-clause-some
entrants_share-limit-requires-clause-some c =
    let at = c.loop-at.at in
    let small = c.requires.limits.1 at (omega (arith, c.loop-at-test.true)) in
    let same = c.loop-at.invariant.shares.others at (omega arith) in
    let fits : SFits w64 (get_or c.loop-at.limits at (pos 0)) = omega (arith, ints, same, small.0, small.1) in
    omega (arith, ints, to_z-of_z w64 (get_or c.loop-at.limits at (pos 0)) fits, same, small.0, small.1)

pub entrants_share-limit-requires-clause-few : goal.entrants_share-limit-requires-clause-few
entrants_share-limit-requires-clause-few c =
    let at = c.loop-at.at in
    let small = c.requires.limits.1 at (omega (arith, c.loop-at-test.true)) in
    let same = c.loop-at.invariant.shares.others at (omega arith) in
    let fits : SFits w64 (get_or c.loop-at.limits at (pos 0)) = omega (arith, ints, same, small.0, small.1) in
    omega (arith, ints, to_z-of_z w64 (get_or c.loop-at.limits at (pos 0)) fits, same, small.0, small.1)

pub loop-at-preserved : goal.loop-at-preserved
loop-at-preserved c =
    let limits = c.loop-at.limits in
    let at = c.loop-at.at in
    let same = c.loop-at.invariant.shares.others at (omega arith) in
    shares-on c.args.declaration.now.share c.args.limits.now limits at _ (omega (arith, c.loop-at-test.true)) c.loop-at.invariant.count c.loop-at.invariant.shares
    (λ n few is.
    let fits : SFits w64 (get_or limits at (pos 0)) = omega (arith, ints, same, is, few) in
    let value = c.entrants_share-limit.ensures.value n (to_z-of_z w64 (get_or limits at (pos 0)) fits ∙ same ∙ is) in
    let made : SFits w64 c.from.result = omega (arith, ints, c.from.ensures, c.entrants_share-limit.ensures.few) in
    to_z-of_z w64 c.from.result made ∙ c.from.ensures ∙ ap pos value)
