use Rattle.std.proofs.Common.{◌≡◌, ◌<◌, arith, refl, length}
use Rattle.dual_bound.proofs.HoldLemmas.{part_uses-take}
use Rattle.dual_bound.proofs.kept.kept_part.Goals as goal

pub loop-strip-init : goal.loop-strip-init
loop-strip-init c = record {
  uses = λ r l k. rw c.new-strips.ensures.items refl;
  there = λ k d l. absurd (omega (arith, rw c.new-strips.ensures.items at l));
}

pub keep_strip-requires-clause-strip : goal.keep_strip-requires-clause-strip
keep_strip-requires-clause-strip c =
    let items : c.strips-strip-items.result.now ≡ c.args.part.now = c.strips-strip-items.ensures in
    let below : c.loop-strip.strip-index < length c.args.part.now = rw items at c.loop-strip-test.true in
    rw items (c.requires.there c.loop-strip.strip-index (record { first = 0; width = 0; gap = 0; times = 0 }) below)

pub loop-strip-preserved : goal.loop-strip-preserved
loop-strip-preserved c = record {
  uses = λ r l k. omega (
    arith,
    c.in_ok-keep_strip.ensures.uses r l k,
    c.loop-strip.invariant.uses r l k,
    part_uses-take c.strips-strip-items.result.now c.loop-strip.strip-index r (record { first = 0; width = 0; gap = 0; times = 0 }) c.loop-strip-test.true,
  );
  there = c.in_ok-keep_strip.ensures.there;
}
