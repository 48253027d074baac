use Rattle.std.proofs.Common.{◌≡◌, ◌-◌, ◌∙◌, arith, get_or, pos}
use Rattle.std.proofs.lemmas.Int.{ints, to_z-of_z}
use Rattle.std.proofs.lemmas.List.{length-set}
use mir.Syntax.{w64}
use mir.Val.{SFits}
use Rattle.wasg_stages.proofs.LoadLemmas.{run-lowers}
use Rattle.wasg_stages.proofs.limits.lower_run.Goals as goal

pub loop-at-preserved : goal.loop-at-preserved
loop-at-preserved c =
    let limits = c.loop-at.limits in
    let at = c.loop-at.at in
    record {
      count = length-set limits at _ ∙ c.loop-at.invariant.count;
      lowered = run-lowers c.args.limits.now limits c.args.start at _ (omega (arith, c.loop-at-test.true, c.requires.there, c.loop-at.invariant.count)) c.loop-at.invariant.count c.loop-at.auto.at c.loop-at.invariant.lowered
          (λ n few is.
          let fits : SFits w64 (get_or limits at (pos 0)) = omega (arith, ints, is, few) in
          let less : c.one_less.result ≡ pos (n - 1) = c.one_less.ensures n (to_z-of_z w64 (get_or limits at (pos 0)) fits ∙ is) in
          let made : SFits w64 c.one_less.result = omega (arith, ints, less, few) in
          to_z-of_z w64 c.one_less.result made ∙ less);
    }
