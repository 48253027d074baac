use Rattle.std.proofs.Common.{◌≡◌, ◌≤◌, ◌∙◌, List, length, take, arith}
use Rattle.std.proofs.lemmas.List.{take_all}
use Rattle.std.proofs.lemmas.List.Sums.{sum_by_more}
use Rattle.choice_problem.specs.declared.strips.Strip.{Strip}
use Rattle.choice_problem.specs.Strips.{strip_uses}
use Rattle.dual_bound.proofs.CoverLemmas.{held-le}
use Rattle.dual_bound.proofs.covers.hold_part.Goals as goal

abbrev empty : Strip
empty = record { first = 0; width = 0; gap = 0; times = 0 }

pub loop-strip-preserved : goal.loop-strip-preserved
loop-strip-preserved c =
    let strips : List Strip = c.strips-strip-items.result.now in
    let i = c.loop-strip.strip-index in
    record {
      part = λ r. omega (arith, sum_by_more (λ (s : Strip). strip_uses s r) strips i empty c.loop-strip-test.true, c.loop-strip.invariant.part r, c.in_ok-hold_strip.ensures.strip r);
      more = λ r. omega (arith, c.loop-strip.invariant.more r, c.in_ok-hold_strip.ensures.more r);
      there = λ resources h a. c.in_ok-hold_strip.ensures.there resources (h i empty c.loop-strip-test.true) (c.loop-strip.invariant.there resources h a);
    }

pub returns-clause-part : goal.returns-clause-part
returns-clause-part c = λ r.
    let strips : List Strip = c.strips-strip-items.result.now in
    let all : length strips ≤ c.loop-strip.strip-index = omega (arith, c.loop-strip-test.false) in
    let same : take c.loop-strip.strip-index strips ≡ c.args.part.now = take_all c.loop-strip.strip-index strips all ∙ c.strips-strip-items.ensures in
    omega (arith, rw same at (c.loop-strip.invariant.part r), held-le c.args.number r c.loop-strip.cover.items)

pub returns-clause-there : goal.returns-clause-there
returns-clause-there c = λ resources h a.
    c.loop-strip.invariant.there resources (rw c.strips-strip-items.ensures h) a
