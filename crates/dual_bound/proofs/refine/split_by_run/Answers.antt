use Rattle.std.proofs.Common.{◌≡◌, length, subst, arith, refl}
use Rattle.std.specs.Prelude.{slice_index}
use Rattle.choice_problem.specs.Loops.{run_uses}
use Rattle.dual_bound.specs.Classes.{AreSplitBy}
use Rattle.dual_bound.proofs.RefineLemmas.{AreSplitBy-run_start, AreSplitBy-run}
use Rattle.dual_bound.proofs.refine.split_by_run.Goals as goal

pub used_once_more-requires : goal.used_once_more-requires
used_once_more-requires c =
    c.loop-at.invariant.split.there c.loop-at.at (omega (arith, c.loop-at-test.true, c.requires.within))

pub loop-at-init : goal.loop-at-init
loop-at-init c = AreSplitBy-run_start c.args.part (length c.args.classes.now) c.args.start c.args.classes.now c.args.splits.now.items c.requires.split

pub loop-at-preserved : goal.loop-at-preserved
loop-at-preserved c =
    let classes = c.loop-at.classes in
    let at = c.loop-at.at in
    let n = length c.args.classes.now in
    AreSplitBy-run c.args.part n c.args.start (slice_index classes at) c.in_ok-classes.field-0 at c.args.classes.now c.args.splits.now.items classes c.loop-at.splits.items
    c.used_once_more.new.splits.items c.loop-at.auto.at (omega (arith, c.loop-at-test.true, c.requires.within)) refl c.in_ok-classes.ensures c.loop-at.invariant

pub returns : goal.returns
returns c =
    let all : c.loop-at.at ≡ c.args.end = omega (arith, c.loop-at-test.false, c.loop-at.auto.at-end c.requires.ordered) in
    subst (λ e. AreSplitBy c.args.part (length c.args.classes.now) c.args.classes.now c.args.splits.now.items c.loop-at.classes c.loop-at.splits.items (λ r. run_uses c.args.start e r))
    all c.loop-at.invariant
