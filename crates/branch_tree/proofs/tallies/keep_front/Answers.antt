use Rattle.std.proofs.Common.{◌≡◌, ◌∙◌, ◌<◌, length, arith}
use Rattle.std.specs.Prelude.{slice_index}
use Rattle.std.proofs.lemmas.List.{get_or-set_other}
use Rattle.branch_tree.proofs.ListLemmas.{listed-within, kept-more, kept-same, taken-more}
use Rattle.branch_tree.proofs.tallies.keep_front.Goals as goal
use Rattle.branch_tree.proofs.tallies.keep_front.Goals.{then-counts-resource-gt0, else-counts-resource-gt0}

pub bounds-counts-resource : goal.bounds-counts-resource
bounds-counts-resource c =
    let at = c.loop-at.at in
    let stands = c.loop-at.invariant.rest at (omega arith) (omega arith) in
    omega (arith, stands, listed-within (length c.args.counts.now) c.args.list.now at c.requires (omega arith))

pub loop-at-preserved : goal.loop-at-preserved
loop-at-preserved c =
    let old = c.args.list.now in
    let list = c.loop-at.list in
    let free = c.args.counts.now in
    let counts = c.loop-at.counts in
    let at = c.loop-at.at in
    let kept = c.loop-at.kept in
    let i = c.loop-at.invariant in
    let there : at < length old = c.loop-at-test.true in
    let stands : slice_index list at ≡ slice_index old at = i.rest at (omega arith) there in
    let inside : slice_index old at < length free = listed-within (length free) old at c.requires there in
    elim c.if-counts-resource-gt0.branch [
      | then-counts-resource-gt0 w ↦ rw (w.kept-is, w.list-is, w.counts-is) (record {
        few = omega (arith, i.few);
        rest = λ k l m. get_or-set_other list kept k (slice_index list at) 0 (λ e. omega (arith, e, l, i.few)) ∙ i.rest k (omega (arith, l)) m;
        kept_is = kept-more old list free counts at kept i.few there c.loop-at.auto.list c.loop-at.auto.counts stands inside i.kept_is i.taken w.if-counts-resource-gt0.true;
        taken = taken-more old list free counts at kept i.few there c.loop-at.auto.list c.loop-at.auto.counts stands inside i.kept_is i.taken w.if-counts-resource-gt0.true;
      })
      | else-counts-resource-gt0 w ↦ rw (w.kept-is, w.list-is, w.counts-is) (record {
        few = omega (arith, i.few);
        rest = λ k l m. i.rest k (omega (arith, l)) m;
        kept_is = kept-same old list free counts at kept i.few there c.loop-at.auto.list c.loop-at.auto.counts stands inside i.kept_is i.taken
            (omega (arith, w.if-counts-resource-gt0.false));
        taken = i.taken;
      })
    ]
