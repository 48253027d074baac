use Rattle.std.proofs.Common.{◌≡◌, ℕ, ◌+◌, List, [], length, refl, sym, ap, ◌∙◌, subst, arith, inl, rules}
use Rattle.std.specs.Prelude.{IsErrAnd}
use Rattle.slot_text.specs.Lines.{lines_of}
use Rattle.usage_watch.specs.declared.operated.Operated.{Operated}
use Rattle.usage_watch.specs.Private.Reading.{IsReadSoFar}
use Rattle.usage_watch.proofs.ReadingLemmas.{read_none, read_more, read_all, only_reports, same_read, stop_only, stop_fault, stop_exact, none_left, end_exact}
use Rattle.usage_watch.proofs.reading.read_operated.Goals as goal

pub loop-line-init : goal.loop-line-init
loop-line-init c = record {
  small = omega (arith, ap length c.new-lines.ensures);
  so_far = subst (λ (l : List Operated). IsReadSoFar c.args.season.now (lines_of c.args.bytes.now) (lines_of c.new-lines.result) 1 l) (sym c.new-reports.ensures.items)
      (subst (λ (b : List ℕ). IsReadSoFar c.args.season.now (lines_of c.args.bytes.now) (lines_of b) 1 []) (sym c.new-lines.ensures) (read_none c.args.season.now (lines_of c.args.bytes.now)));
}

pub loop-line-preserved : goal.loop-line-preserved
loop-line-preserved c =
    let season = c.args.season.now in
    let all = lines_of c.args.bytes.now in
    let line = c.in-Some.line.now in
    let rest = lines_of c.next_line.new.self in
    let number = c.loop-line.count + 1 in
    let before = c.loop-line.reports.items in
    let so_far = subst (λ (l : List (List ℕ)). IsReadSoFar season all l number before) c.in-Some.ensures.lines c.loop-line.invariant.so_far in
    record {
      small = omega (arith, c.in-Some.ensures.shorter, c.loop-line.invariant.small);
      so_far = read_more season all line rest number before so_far c.add_line.new.reports.items c.in_ok-add_line.ensures.on;
    }

pub returns-in_err-add_line-clause-only : goal.returns-in_err-add_line-clause-only
returns-in_err-add_line-clause-only c =
    let e = c.in_err-add_line.field-0.0 in
    let err : IsErrAnd c.from_residual.result (λ f. f ≡ e) = search rules in
    let so_far = subst (λ (l : List (List ℕ)). IsReadSoFar c.args.season.now (lines_of c.args.bytes.now) l (c.loop-line.count + 1) c.loop-line.reports.items) c.in-Some.ensures.lines c.loop-line.invariant.so_far in
    stop_only c.args.season.now c.args.bytes.now c.in-Some.line.now (lines_of c.next_line.new.self) (c.loop-line.count + 1) c.loop-line.reports.items so_far e c.in_err-add_line.ensures.fault c.from_residual.result err

pub returns-in_err-add_line-clause-fault : goal.returns-in_err-add_line-clause-fault
returns-in_err-add_line-clause-fault c =
    let e = c.in_err-add_line.field-0.0 in
    let err : IsErrAnd c.from_residual.result (λ f. f ≡ e) = search rules in
    let so_far = subst (λ (l : List (List ℕ)). IsReadSoFar c.args.season.now (lines_of c.args.bytes.now) l (c.loop-line.count + 1) c.loop-line.reports.items) c.in-Some.ensures.lines c.loop-line.invariant.so_far in
    stop_fault c.args.season.now c.args.bytes.now c.in-Some.line.now (lines_of c.next_line.new.self) (c.loop-line.count + 1) c.loop-line.reports.items so_far e c.in_err-add_line.ensures.fault c.from_residual.result err

pub returns-in_err-add_line-clause-exact : goal.returns-in_err-add_line-clause-exact
returns-in_err-add_line-clause-exact c =
    let e = c.in_err-add_line.field-0.0 in
    let err : IsErrAnd c.from_residual.result (λ f. f ≡ e) = search rules in
    let so_far = subst (λ (l : List (List ℕ)). IsReadSoFar c.args.season.now (lines_of c.args.bytes.now) l (c.loop-line.count + 1) c.loop-line.reports.items) c.in-Some.ensures.lines c.loop-line.invariant.so_far in
    stop_exact c.args.season.now c.args.bytes.now c.in-Some.line.now (lines_of c.next_line.new.self) (c.loop-line.count + 1) c.loop-line.reports.items so_far e c.in_err-add_line.ensures.fault c.from_residual.result err

pub returns-clause-found : goal.returns-clause-found
returns-clause-found c =
    let end = none_left c.args.season.now c.args.bytes.now c.loop-line.lines (c.loop-line.count + 1) c.loop-line.reports.items (c.in_default.ensures.none.0 refl) c.loop-line.invariant.so_far in
    rw c.new.ensures (read_all c.args.season.now (lines_of c.args.bytes.now) (c.loop-line.count + 1) c.loop-line.reports.items end)

pub returns-clause-only : goal.returns-clause-only
returns-clause-only c = λ whole are.
    let end = none_left c.args.season.now c.args.bytes.now c.loop-line.lines (c.loop-line.count + 1) c.loop-line.reports.items (c.in_default.ensures.none.0 refl) c.loop-line.invariant.so_far in
    inl (same_read c.new.result whole (c.new.ensures ∙ sym (only_reports c.args.season.now (lines_of c.args.bytes.now) (c.loop-line.count + 1) c.loop-line.reports.items end whole are)))

pub returns-clause-exact : goal.returns-clause-exact
returns-clause-exact c = λ fault has.
    let end = none_left c.args.season.now c.args.bytes.now c.loop-line.lines (c.loop-line.count + 1) c.loop-line.reports.items (c.in_default.ensures.none.0 refl) c.loop-line.invariant.so_far in
    absurd (end_exact c.args.season.now c.args.bytes.now (c.loop-line.count + 1) c.loop-line.reports.items end fault has)
