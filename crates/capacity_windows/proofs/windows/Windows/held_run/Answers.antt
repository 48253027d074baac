use Rattle.std.proofs.Common.{◌+◌, ◌-◌, ◌*◌, ℕ, arith, refl, sym, ◌∙◌, ap}
use Rattle.std.proofs.lemmas.Nat.{mul-le}
use Rattle.std.proofs.lemmas.Bool.{ltb-true}
use Rattle.season_days.specs.Seasons.{date_count}
use Rattle.capacity_windows.specs.Windows.{first_of}
use Rattle.capacity_windows.proofs.NumberLemmas.{first_small}
use Rattle.capacity_windows.proofs.HeldLemmas.{run_held, unlisted_none, early_none, kind_none, day_none, band_none, run_there, run_holds, read_rule}
use Rattle.capacity_windows.proofs.windows.Windows.held_run.Goals.{then-not-is_listed-via-then-not-is_listed, then-not-is_listed-via-else-not-is_listed+then-movement-ago, then-not-is_listed-via-else-not-is_listed+else-movement-ago+then-not-is_of_kind}
use Rattle.capacity_windows.proofs.windows.Windows.held_run.Goals as goal

pub returns-then-not-is_listed-clause-run : goal.returns-then-not-is_listed-clause-run
returns-then-not-is_listed-clause-run c =
    let self = c.args.self.now in
    elim c.then-not-is_listed.branch [
      | then-not-is_listed-via-then-not-is_listed w ↦ unlisted_none self c.args.movement c.args.rule c.args.ago 0 0 (omega arith) (sym c.is_listed.ensures.value ∙ w.if-not-is_listed.true)
      | then-not-is_listed-via-else-not-is_listed+then-movement-ago w ↦ early_none self c.args.movement c.args.rule c.args.ago 0 0 (omega arith) w.if-movement-ago.true
      | then-not-is_listed-via-else-not-is_listed+else-movement-ago+then-not-is_of_kind w ↦
          kind_none self c.args.movement c.args.rule c.args.ago 0 0 _ (omega arith) (read_rule c.rules.result.now self.rules c.args.rule _ c.rules.ensures.items c.requires.rule) (sym w.is_of_kind.ensures ∙ w.if-not-is_of_kind.true)
    ]

pub returns-then-not-is_on-clause-run : goal.returns-then-not-is_on-clause-run
returns-then-not-is_on-clause-run c =
    let self = c.args.self.now in
    day_none self c.args.movement c.args.rule c.args.ago 0 0 (c.args.movement.day - c.args.ago) _ (omega arith) (read_rule c.rules.result.now self.rules c.args.rule _ c.rules.ensures.items c.requires.rule) (omega (arith, c.if-movement-ago.false)) (sym c.is_on.ensures ∙ c.if-not-is_on.true)

pub returns-then-band-clause-run : goal.returns-then-band-clause-run
returns-then-band-clause-run c =
    let self = c.args.self.now in
    let day = c.args.movement.day - c.args.ago in
    band_none self c.args.movement c.args.rule c.args.ago day _ (c.first_of.result + day * c.starts_of.result) c.band_of-band.result (read_rule c.rules.result.now self.rules c.args.rule _ c.rules.ensures.items c.requires.rule) c.rules.ensures.limits.step (omega (arith, c.if-movement-ago.false))
    (sym c.is_listed.ensures.value ∙ c.if-not-is_listed.false) (sym c.is_on.ensures ∙ c.if-not-is_on.false) (sym c.is_of_kind.ensures ∙ c.if-not-is_of_kind.false)
    (ap (λ (f : ℕ). f + day * c.starts_of.result) c.first_of.ensures ∙ ap (λ (n : ℕ). first_of self c.args.rule + day * n) c.starts_of.ensures.value) c.band_of-band.ensures c.if-band.true

pub returns-clause-there : goal.returns-clause-there
returns-clause-there c =
    let self = c.args.self.now in
    let day = c.args.movement.day - c.args.ago in
    let listed = ltb-true c.args.movement.day (date_count self.season) (sym c.is_listed.ensures.value ∙ c.if-not-is_listed.false) in
    run_there self c.args.movement c.args.rule c.args.ago day _ (c.first_of.result + day * c.starts_of.result) c.band_of-band.result (read_rule c.rules.result.now self.rules c.args.rule _ c.rules.ensures.items c.requires.rule) (omega (arith, c.if-movement-ago.false, listed))
    (ap (λ (f : ℕ). f + day * c.starts_of.result) c.first_of.ensures ∙ ap (λ (n : ℕ). first_of self c.args.rule + day * n) c.starts_of.ensures.value) c.band_of-band.ensures c.if-band.false

pub returns-clause-run : goal.returns-clause-run
returns-clause-run c =
    let self = c.args.self.now in
    let day = c.args.movement.day - c.args.ago in
    run_held self c.args.movement c.args.rule c.args.ago day _ (c.first_of.result + day * c.starts_of.result) c.band_of-band.result (read_rule c.rules.result.now self.rules c.args.rule _ c.rules.ensures.items c.requires.rule) c.rules.ensures.limits.step (omega (arith, c.if-movement-ago.false))
    (sym c.is_listed.ensures.value ∙ c.if-not-is_listed.false) (sym c.is_on.ensures ∙ c.if-not-is_on.false) (sym c.is_of_kind.ensures ∙ c.if-not-is_of_kind.false)
    (ap (λ (f : ℕ). f + day * c.starts_of.result) c.first_of.ensures ∙ ap (λ (n : ℕ). first_of self c.args.rule + day * n) c.starts_of.ensures.value) c.band_of-band.ensures

pub returns-clause-held : goal.returns-clause-held
returns-clause-held c =
    let self = c.args.self.now in
    let day = c.args.movement.day - c.args.ago in
    let listed = ltb-true c.args.movement.day (date_count self.season) (sym c.is_listed.ensures.value ∙ c.if-not-is_listed.false) in
    run_holds self c.args.movement c.args.rule c.args.ago day _ (c.first_of.result + day * c.starts_of.result) c.band_of-band.result (read_rule c.rules.result.now self.rules c.args.rule _ c.rules.ensures.items c.requires.rule) c.rules.ensures.limits.step (omega (arith, c.if-movement-ago.false, listed)) (omega (arith, c.if-movement-ago.false))
    (sym c.is_listed.ensures.value ∙ c.if-not-is_listed.false) (sym c.is_on.ensures ∙ c.if-not-is_on.false) (sym c.is_of_kind.ensures ∙ c.if-not-is_of_kind.false)
    (ap (λ (f : ℕ). f + day * c.starts_of.result) c.first_of.ensures ∙ ap (λ (n : ℕ). first_of self c.args.rule + day * n) c.starts_of.ensures.value) c.band_of-band.ensures

pub overflow_mul-first : goal.overflow_mul-first
overflow_mul-first c =
    let listed = ltb-true c.args.movement.day (date_count c.args.self.now.season) (sym c.is_listed.ensures.value ∙ c.if-not-is_listed.false) in
    let row = mul-le (c.args.movement.day - c.args.ago) c.starts_of.result 217 1440 (omega (arith, listed, c.is_listed.ensures.few)) c.starts_of.ensures.bound in
    omega (arith, row)

pub overflow_add-first : goal.overflow_add-first
overflow_add-first c =
    let listed = ltb-true c.args.movement.day (date_count c.args.self.now.season) (sym c.is_listed.ensures.value ∙ c.if-not-is_listed.false) in
    let row = mul-le (c.args.movement.day - c.args.ago) c.starts_of.result 217 1440 (omega (arith, listed, c.is_listed.ensures.few)) c.starts_of.ensures.bound in
    let rules = c.args.self.now.rules in
    let room = first_small c.args.self.now rules c.args.rule c.first_of.result c.rules.ensures.limits refl c.requires.rule c.first_of.ensures in
    omega (arith, row, room)

pub returns-clause-ordered : goal.returns-clause-ordered
returns-clause-ordered c = omega (arith, c.if-band.false)
