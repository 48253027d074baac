use Rattle.std.proofs.Common.{◌≡◌, ◌⊎◌, ℕ, length, subst, refl, ap, rules, arith, add-one}
use Rattle.std.specs.Prelude.{IsErrAnd}
use Rattle.slot_text.specs.Lines.{lines_of}
use Rattle.capacity_file.specs.Faults.{HasCapacityFault}
use Rattle.capacity_file.specs.Readings.{Collected}
use Rattle.capacity_file.specs.declared.draft.Draft.{Draft}
use Rattle.capacity_file.specs.declared.fault.CapFault.{CapFault}
use Rattle.capacity_file.specs.declared.fault.CapFault.TheVariants.{Memory}
use Rattle.capacity_file.proofs.LoopLemmas.{goes_on, ends_at, err_outcome}
use Rattle.capacity_file.proofs.reading.collect.Goals as goal

pub loop-line-init : goal.loop-line-init
loop-line-init c =
    let bytes = c.args.bytes.now in
    record {
      rest = ap lines_of c.new-lines.ensures;
      within = omega arith;
      small = omega (arith, ap length c.new-lines.ensures);
      known = c.new-draft.ensures (lines_of bytes);
    }

pub returns-in_err-add_line : goal.returns-in_err-add_line
returns-in_err-add_line c =
    let lines = lines_of c.args.bytes.now in
    let e = c.in_err-add_line.field-0.0 in
    let err : IsErrAnd c.from_residual.result (λ f. f ≡ e) = search rules in
    let on = goes_on lines (lines_of c.loop-line.lines) c.loop-line.count c.in-Some.line.now (lines_of c.next_line.new.self) c.loop-line.invariant.rest c.in-Some.ensures.lines in
    err_outcome (λ (draft : Draft). Collected lines (length lines) draft.singles draft.rules.items) (λ (f : CapFault). HasCapacityFault c.args.bytes.now f ⊎ (f ≡ Memory)) e c.from_residual.result err
    (c.in_err-add_line.ensures lines on.1 c.loop-line.invariant.known)

pub loop-line-preserved : goal.loop-line-preserved
loop-line-preserved c =
    let lines = lines_of c.args.bytes.now in
    let on = goes_on lines (lines_of c.loop-line.lines) c.loop-line.count c.in-Some.line.now (lines_of c.next_line.new.self) c.loop-line.invariant.rest c.in-Some.ensures.lines in
    record {
      rest = on.0;
      within = on.2;
      small = omega (arith, c.in-Some.ensures.shorter, c.loop-line.invariant.small);
      known = rw add-one (c.in_ok-add_line.ensures lines on.1 c.loop-line.invariant.known);
    }

pub returns : goal.returns
returns c =
    let lines = lines_of c.args.bytes.now in
    let end = ends_at lines c.loop-line.lines c.loop-line.count c.loop-line.invariant.rest (c.in_default.ensures.none.0 refl) c.loop-line.invariant.within in
    subst (λ (n : ℕ). Collected lines n c.loop-line.draft.singles c.loop-line.draft.rules.items) end c.loop-line.invariant.known
