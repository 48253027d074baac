use Rattle.std.proofs.Common.{◌∙◌, sym, subst}
use Rattle.season_days.specs.Capacity.{capacity_of}
use Rattle.season_days.specs.declared.declaration.Declaration.{Declaration}
use Rattle.scr_reader.specs.Printed.{LineFits}
use Rattle.series_model.specs.TimedLines.{line_movements}
use Rattle.holding_book.specs.Private.Uses.{AreUsesOf}
use Rattle.holding_book.proofs.TakeLemmas.{all_at, in_left, has_left, left_next, left_all}
use Rattle.holding_book.proofs.start.take_all.Goals as goal

pub parts_of-requires : goal.parts_of-requires
parts_of-requires c =
    let d = c.args.loads.now.declaration in
    let held = c.holding_at-held.result in
    record {
      line = subst (λ (k : Declaration). LineFits k.season held.line) (sym c.loop-n.invariant.declaration)
          (all_at (λ h. LineFits d.season h.line) c.args.holdings.now c.loop-n.n held c.requires.lines c.loop-n-test.true c.holding_at-held.ensures);
    }

pub take-requires-clause-there : goal.take-requires-clause-there
take-requires-clause-there c =
    let d = c.args.loads.now.declaration in
    let held = c.holding_at-held.result in
    let of = subst (λ (k : Declaration). AreUsesOf (capacity_of k) (line_movements k.season held.line) c.in_ok-uses.uses) c.loop-n.invariant.declaration c.in_ok-uses.ensures in
    in_left (capacity_of d) c.args.holdings.now c.loop-n.n held c.loop-n-test.true c.holding_at-held.ensures c.loop-n.loads.left c.loop-n.invariant.left c.in_ok-uses.uses of

pub take-requires-clause-left : goal.take-requires-clause-left
take-requires-clause-left c =
    let d = c.args.loads.now.declaration in
    let held = c.holding_at-held.result in
    let of = subst (λ (k : Declaration). AreUsesOf (capacity_of k) (line_movements k.season held.line) c.in_ok-uses.uses) c.loop-n.invariant.declaration c.in_ok-uses.ensures in
    has_left (capacity_of d) c.args.holdings.now c.loop-n.n held c.loop-n-test.true c.holding_at-held.ensures c.loop-n.loads.left c.loop-n.invariant.left c.in_ok-uses.uses of c.requires.fits

pub loop-n-preserved : goal.loop-n-preserved
loop-n-preserved c =
    let d = c.args.loads.now.declaration in
    let held = c.holding_at-held.result in
    let of = subst (λ (k : Declaration). AreUsesOf (capacity_of k) (line_movements k.season held.line) c.in_ok-uses.uses) c.loop-n.invariant.declaration c.in_ok-uses.ensures in
    record {
      declaration = c.take.ensures.declaration ∙ c.loop-n.invariant.declaration;
      left = left_next (capacity_of d) c.args.holdings.now c.loop-n.n held c.loop-n-test.true c.holding_at-held.ensures c.loop-n.loads.left c.loop-n.invariant.left c.in_ok-uses.uses of c.take.new.self.left c.take.ensures.length c.take.ensures.uses;
    }

pub returns-clause-left : goal.returns-clause-left
returns-clause-left c = left_all (capacity_of c.args.loads.now.declaration) c.args.holdings.now c.loop-n.n c.loop-n.loads.left c.loop-n.auto.n-end c.loop-n-test.false c.loop-n.invariant.left
