use Rattle.std.proofs.Common.{ℕ, List, ◌∷◌, [], ◌++◌, ◌-◌, length, ap, ◌∙◌, refl, arith}
use Rattle.std.specs.Prelude.{if◌then◌else◌}
use Rattle.slot_text.specs.Lines.{lines_of}
use Rattle.slot_text.specs.Fields.{is_blank_line}
use Rattle.scr_reader.specs.Messages.{has_address}
use Rattle.fault_causes.specs.Requests.{lines_above, line_of_season}
use Rattle.fault_causes.proofs.StandingLemmas.{walk_on, walk_out, no_lines}
use Rattle.fault_causes.proofs.seasons.standing_of.Goals as goal

pub returns-in_default-clause-above : goal.returns-in_default-clause-above
returns-in_default-clause-above c =
    let walk = c.loop.invariant.walk in
    walk.1.counts ∙ ap (λ (l : List (List ℕ)). length l) (walk_out walk.0 _ (lines_of c.loop.lines) (lines_above c.args.text.now c.args.number) (no_lines c.loop.lines (c.in_default.ensures.none.0 refl)) walk.2)

pub returns-in_default-clause-address : goal.returns-in_default-clause-address
returns-in_default-clause-address c =
    let walk = c.loop.invariant.walk in
    walk.1.addresses ∙ ap has_address (walk_out walk.0 _ (lines_of c.loop.lines) (lines_above c.args.text.now c.args.number) (no_lines c.loop.lines (c.in_default.ensures.none.0 refl)) walk.2)

pub returns-in_default-clause-season : goal.returns-in_default-clause-season
returns-in_default-clause-season c =
    let walk = c.loop.invariant.walk in
    walk.1.names ∙ ap line_of_season (walk_out walk.0 _ (lines_of c.loop.lines) (lines_above c.args.text.now c.args.number) (no_lines c.loop.lines (c.in_default.ensures.none.0 refl)) walk.2)

pub loop-preserved : goal.loop-preserved
loop-preserved c =
    let walk = c.loop.invariant.walk in
    let line = c.in-Some.line.now in
    record {
      walk = (
        if is_blank_line line then [] else walk.0 ++ line ∷ [],
        c.next_standing-at.ensures.stands walk.0 walk.1,
        walk_on walk.0 (c.args.number - c.loop.counter) _ line (lines_of c.loop.lines) (lines_of c.next_line.new.self) (lines_above c.args.text.now c.args.number) (omega arith) c.in-Some.ensures.lines walk.2,
      );
      small = omega (arith, c.in-Some.ensures.shorter, c.loop.invariant.small, c.next_standing-at.ensures.few);
    }
