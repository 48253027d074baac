use Rattle.std.proofs.Common.{◌≡◌, ℕ, ◌*◌, Bool, arith, sym, ap, subst, ◌∙◌}
use Rattle.std.specs.Prelude.{if◌then◌else◌}
use Rattle.capacity_windows.specs.declared.band.Band.{Band}
use Rattle.capacity_windows.specs.Bands.{IsBand, band_uses}
use Rattle.capacity_windows.specs.Windows.{band_strips, rule_strips}
use Rattle.capacity_windows.proofs.RuleLemmas.{rule_bands, rule_none, band_of-is}
use Rattle.capacity_windows.proofs.windows.Windows.add_rule.Goals as goal

pub returns-then-not-is_of_kind-clause-uses : goal.returns-then-not-is_of_kind-clause-uses
returns-then-not-is_of_kind-clause-uses c = λ r.
    let stop = c.args.stop.now in
    let none = rule_none c.args.self.now c.args.rule.now c.args.first stop.kind stop.minute stop.later stop.period r (sym c.is_of_kind.ensures ∙ c.if-not-is_of_kind.true) c.requires.stop.last in
    omega (arith, none)

pub add_band-requires-clause-band : goal.add_band-requires-clause-band
add_band-requires-clause-band c =
    subst (IsBand c.args.self.now.season) (sym c.band_of-same_day.ensures) (band_of-is c.args.self.now c.args.rule.now c.args.first c.args.stop.now.minute 0 c.requires.step c.requires.room (omega arith))

pub add_band-requires-2-clause-band : goal.add_band-requires-2-clause-band
add_band-requires-2-clause-band c =
    subst (IsBand c.args.self.now.season) (sym c.band_of-day_before.ensures) (band_of-is c.args.self.now c.args.rule.now c.args.first c.args.stop.now.minute 1 c.requires.step c.requires.room (omega arith))

pub returns-clause-uses : goal.returns-clause-uses
returns-clause-uses c = λ r.
    let stop = c.args.stop.now in
    let uses : Band → ℕ = λ (band : Band). band_uses c.args.self.now.season stop.period stop.later band r in
    let both = rule_bands c.args.self.now c.args.rule.now c.args.first stop.kind stop.minute stop.later stop.period r c.requires.step c.requires.rule c.requires.stop.minute (sym c.is_of_kind.ensures ∙ c.if-not-is_of_kind.false) c.requires.stop.last in
    let one = c.in_ok-add_band.ensures.uses r in
    let two = c.in_ok-add_band-2.ensures.uses r in
    let same = ap uses c.band_of-same_day.ensures in
    let before = ap uses c.band_of-day_before.ensures in
    omega (arith, both, one, two, same, before)

pub returns-clause-few : goal.returns-clause-few
returns-clause-few c =
    let dates = c.args.stop.now.period.days in
    let strips : Band → ℕ = λ (band : Band). band_strips band.days dates in
    let one = c.in_ok-add_band.ensures.few in
    let two = c.in_ok-add_band-2.ensures.few in
    let same = ap strips c.band_of-same_day.ensures in
    let before = ap strips c.band_of-day_before.ensures in
    let both : rule_strips c.args.stop.now.kind c.args.stop.now.period c.args.rule.now ≡ 2 * band_strips c.args.rule.now.days dates =
    ap (λ (b : Bool). if b then 2 * band_strips c.args.rule.now.days dates else 0) (sym c.is_of_kind.ensures ∙ c.if-not-is_of_kind.false) in
    omega (arith, one, two, same, before, both)
