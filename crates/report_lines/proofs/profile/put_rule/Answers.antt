use Rattle.std.proofs.Common.{◌≡◌, ℕ, ◌+◌, List, ◌++◌, append-nil, refl, sym, ◌∙◌, subst, arith, rules}
use Rattle.std.specs.List.{flat_map, range_with_len}
use Rattle.report_lines.specs.Peaks.{profile_line}
use Rattle.report_lines.proofs.WindowLemmas.{starts_at}
use Rattle.report_lines.proofs.PeakLemmas.{lines_more}
use Rattle.report_lines.proofs.profile.put_rule.Goals as goal

pub loop-start-init : goal.loop-start-init
loop-start-init c = λ load has. sym (append-nil c.args.out.now.items)

pub put_start-requires-clause-start : goal.put_start-requires-clause-start
put_start-requires-clause-start c =
    let k = c.args.windows.now in
    let starts = starts_at k.rules c.args.rule c.args.of k.step c.starts-start-end.result c.requires.of c.starts-start-end.ensures.starts in
    omega (arith, starts, c.loop-start-test.true)

pub loop-start-preserved : goal.loop-start-preserved
loop-start-preserved c = λ load has.
    let f : ℕ → List ℕ = profile_line c.args.windows.now load (c.args.rule + 1) c.args.of c.args.first in
    lines_more c.args.out.now.items c.loop-start.out.items c.put_start.new.out.items (f c.loop-start.start) f c.loop-start.start (c.loop-start.invariant load has) refl (c.in_ok-put_start.ensures load has)

pub returns : goal.returns
returns c = λ load has.
    let k = c.args.windows.now in
    let f : ℕ → List ℕ = profile_line k load (c.args.rule + 1) c.args.of c.args.first in
    let starts = starts_at k.rules c.args.rule c.args.of k.step c.starts-start-end.result c.requires.of c.starts-start-end.ensures.starts in
    let end : c.loop-start.start ≡ c.starts-start-end.result = search rules in
    subst (λ (n : ℕ). c.loop-start.out.items ≡ c.args.out.now.items ++ flat_map f (range_with_len 0 n)) (end ∙ starts) (c.loop-start.invariant load has)
