use Rattle.std.proofs.Common.{ℕ, ◌+◌, ◌<◌, ◌≤◌, ◌∙◌, sym, subst, arith, rules, Option, List, length, take}
use Rattle.std.proofs.lemmas.List.{take_all}
use Rattle.choice_problem.specs.declared.strips.Strip.{Strip}
use Rattle.choice_problem.specs.Strips.{part_uses}
use Rattle.season_report.specs.Private.{IsLowest}
use Rattle.season_report.proofs.LowestLemmas.{strip_lowest}
use Rattle.season_report.proofs.passed.lowest_in_part.Goals as goal

pub loop-strip-init : goal.loop-strip-init
loop-strip-init c = λ r lt is. absurd (omega (arith, is))

pub loop-strip-preserved : goal.loop-strip-preserved
loop-strip-preserved c =
    let strips = c.strips-strip-items.result.now in
    let i = c.loop-strip.strip-index in
    let counts = c.args.counts.now in
    let limits = c.args.limits.now in
    let lt : i < length strips = search rules in
    subst (λ (o : Option ℕ). IsLowest counts limits (λ r. 0 < part_uses (take (i + 1) strips) r) o) (sym c.lower-lowest.ensures)
    (strip_lowest counts limits strips i (record { first = 0; width = 0; gap = 0; times = 0 }) c.loop-strip.lowest c.lowest_in_strip.result lt c.loop-strip.invariant c.lowest_in_strip.ensures)

pub returns : goal.returns
returns c =
    let strips = c.strips-strip-items.result.now in
    let past : length strips ≤ c.loop-strip.strip-index = search rules in
    subst (λ (ss : List Strip). IsLowest c.args.counts.now c.args.limits.now (λ r. 0 < part_uses ss r) c.loop-strip.lowest)
    (take_all c.loop-strip.strip-index strips past ∙ c.strips-strip-items.ensures) c.loop-strip.invariant
