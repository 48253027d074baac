use Rattle.std.proofs.Common.{arith, refl, sym, ◌∙◌}
use Rattle.std.proofs.lemmas.Bool.{ltb-true}
use Rattle.std.proofs.lemmas.Grind.{common_steps}
use Rattle.season_days.specs.Seasons.{date_count}
use Rattle.capacity_windows.specs.Windows.{declared_resources}
use Rattle.capacity_windows.proofs.NumberLemmas.{first_small, room_of}
use Rattle.capacity_windows.proofs.UsesLemmas.{uses_none, early_rows, late_rows, rows_fit, rows_ordered}
use Rattle.capacity_windows.proofs.windows.Windows.uses_of.Goals as goal

pub returns-then-not-is_listed : goal.returns-then-not-is_listed
returns-then-not-is_listed c = record { value = c.new-uses.ensures.items ∙ sym (uses_none c.args.self.now c.args.movement (declared_resources c.args.self.now) (sym c.is_listed.ensures.value ∙ c.if-not-is_listed.true)) }

pub push_uses-requires-clause-before : goal.push_uses-requires-clause-before
push_uses-requires-clause-before c =
    let listed = ltb-true c.args.movement.day (date_count c.args.self.now.season) (sym c.is_listed.ensures.value ∙ c.if-not-is_listed.false) in
    c.loop-rule.invariant.uses
    ∙ sym (early_rows c.args.self.now c.args.movement c.rules-rule-items.result.now c.loop-rule.rule-index _ c.loop-rule.first c.starts_of-starts.result c.saturating_sub.result c.rules-rule-items.ensures.limits c.requires.minute listed c.rules-rule-items.ensures.items c.loop-rule-test.true c.loop-rule.invariant.number c.starts_of-starts.ensures.value c.saturating_sub.ensures)

pub loop-rule-preserved : goal.loop-rule-preserved
loop-rule-preserved c =
    let listed = ltb-true c.args.movement.day (date_count c.args.self.now.season) (sym c.is_listed.ensures.value ∙ c.if-not-is_listed.false) in
    record {
      number = grind (arith, common_steps);
      uses = c.in_ok-push_uses.ensures
          ∙ sym (late_rows c.args.self.now c.args.movement c.rules-rule-items.result.now c.loop-rule.rule-index _ c.loop-rule.first c.starts_of-starts.result c.windows_of-first.result c.rules-rule-items.ensures.limits c.requires.minute listed c.rules-rule-items.ensures.items c.loop-rule-test.true c.loop-rule.invariant.number c.starts_of-starts.ensures.value c.windows_of-first.ensures);
    }

pub loop-rule-init : goal.loop-rule-init
loop-rule-init c = record { number = refl; uses = c.new-uses.ensures.items }

pub overflow_mul-from : goal.overflow_mul-from
overflow_mul-from c =
    let listed = ltb-true c.args.movement.day (date_count c.args.self.now.season) (sym c.is_listed.ensures.value ∙ c.if-not-is_listed.false) in
    let fit = rows_fit c.args.movement.day c.starts_of-starts.result (date_count c.args.self.now.season) listed c.is_listed.ensures.few c.starts_of-starts.ensures.bound in
    let ordered = rows_ordered c.args.movement.day c.saturating_sub.result c.starts_of-starts.result c.saturating_sub.ensures in
    omega (arith, fit, ordered)

pub overflow_add-from : goal.overflow_add-from
overflow_add-from c =
    let listed = ltb-true c.args.movement.day (date_count c.args.self.now.season) (sym c.is_listed.ensures.value ∙ c.if-not-is_listed.false) in
    let fit = rows_fit c.args.movement.day c.starts_of-starts.result (date_count c.args.self.now.season) listed c.is_listed.ensures.few c.starts_of-starts.ensures.bound in
    let ordered = rows_ordered c.args.movement.day c.saturating_sub.result c.starts_of-starts.result c.saturating_sub.ensures in
    let room = first_small c.args.self.now c.rules-rule-items.result.now c.loop-rule.rule-index c.loop-rule.first c.rules-rule-items.ensures.limits c.rules-rule-items.ensures.items c.loop-rule-test.true c.loop-rule.invariant.number in
    omega (arith, fit, ordered, room)

pub overflow_mul-to : goal.overflow_mul-to
overflow_mul-to c =
    let listed = ltb-true c.args.movement.day (date_count c.args.self.now.season) (sym c.is_listed.ensures.value ∙ c.if-not-is_listed.false) in
    let fit = rows_fit c.args.movement.day c.starts_of-starts.result (date_count c.args.self.now.season) listed c.is_listed.ensures.few c.starts_of-starts.ensures.bound in
    omega (arith, fit)

pub overflow_add-to-in-loop-rule : goal.overflow_add-to-in-loop-rule
overflow_add-to-in-loop-rule c =
    let listed = ltb-true c.args.movement.day (date_count c.args.self.now.season) (sym c.is_listed.ensures.value ∙ c.if-not-is_listed.false) in
    let fit = rows_fit c.args.movement.day c.starts_of-starts.result (date_count c.args.self.now.season) listed c.is_listed.ensures.few c.starts_of-starts.ensures.bound in
    let room = first_small c.args.self.now c.rules-rule-items.result.now c.loop-rule.rule-index c.loop-rule.first c.rules-rule-items.ensures.limits c.rules-rule-items.ensures.items c.loop-rule-test.true c.loop-rule.invariant.number in
    omega (arith, fit, room)

pub overflow_add-first : goal.overflow_add-first
overflow_add-first c =
    let room = room_of c.args.self.now c.rules-rule-items.result.now c.loop-rule.rule-index _ c.loop-rule.first c.windows_of-first.result c.rules-rule-items.ensures.limits c.rules-rule-items.ensures.items c.loop-rule-test.true c.loop-rule.invariant.number c.windows_of-first.ensures in
    omega (arith, room)

pub push_uses-requires-clause-ordered : goal.push_uses-requires-clause-ordered
push_uses-requires-clause-ordered c =
    let ordered = rows_ordered c.args.movement.day c.saturating_sub.result c.starts_of-starts.result c.saturating_sub.ensures in
    omega (arith, ordered)
