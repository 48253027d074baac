use Rattle.std.proofs.Common.{◌≡◌, ◌∙◌, sym, ap, subst, arith, length, List}
use Rattle.std.specs.Prelude.{All}
use Rattle.series_model.specs.declared.state.UnitState.{UnitState}
use Rattle.season_report.specs.declared.decided.Decided.{Decided}
use Rattle.season_report.specs.Decisions.{decided_units, states_before}
use Rattle.season_report.specs.Private.{IsTold}
use Rattle.season_report.proofs.StateLemmas.{all_told, decided_length}
use Rattle.season_report.proofs.decided.season_decided.Goals as goal

pub decided_units-requires : goal.decided_units-requires
decided_units-requires c =
    ap (λ (st : List UnitState). length st) c.deref.ensures.value
    ∙ c.in_ok-befores.ensures.count
    ∙ sym c.in_ok-afters.ensures.count
    ∙ sym (ap (λ (st : List UnitState). length st) c.deref-2.ensures.value)

pub returns-clause-units : goal.returns-clause-units
returns-clause-units c =
    let cert = c.args.cert.now in
    c.in_ok-units.ensures
    ∙ ap (λ (st : List UnitState). decided_units cert st c.deref-2.result.now) (c.deref.ensures.value ∙ c.in_ok-befores.ensures.states)
    ∙ ap (λ (st : List UnitState). decided_units cert (states_before c.args.submission.now cert 4) st) (c.deref-2.ensures.value ∙ c.in_ok-afters.ensures.states)

pub returns-clause-told : goal.returns-clause-told
returns-clause-told c =
    let d = c.args.submission.now.declaration in
    let cert = c.args.cert.now in
    let made : c.in_ok-units.units.items ≡ decided_units cert c.deref.result.now c.in_ok-afters.afters.items =
    c.in_ok-units.ensures ∙ ap (λ (st : List UnitState). decided_units cert c.deref.result.now st) c.deref-2.ensures.value in
    subst (All (IsTold d)) (sym made) (all_told d cert c.deref.result.now c.in_ok-afters.afters.items c.in_ok-afters.ensures.answered)

pub returns-clause-count : goal.returns-clause-count
returns-clause-count c =
    let cert = c.args.cert.now in
    let same : length c.deref.result.now ≡ length c.deref-2.result.now =
    ap (λ (st : List UnitState). length st) c.deref.ensures.value ∙ c.in_ok-befores.ensures.count ∙ sym c.in_ok-afters.ensures.count ∙ sym (ap (λ (st : List UnitState). length st) c.deref-2.ensures.value) in
    ap (λ (us : List Decided). length us) c.in_ok-units.ensures
    ∙ decided_length cert c.deref.result.now c.deref-2.result.now same
    ∙ ap (λ (st : List UnitState). length st) c.deref-2.ensures.value
    ∙ c.in_ok-afters.ensures.count

pub returns-clause-few : goal.returns-clause-few
returns-clause-few c =
    let cert = c.args.cert.now in
    let same : length c.deref.result.now ≡ length c.deref-2.result.now =
    ap (λ (st : List UnitState). length st) c.deref.ensures.value ∙ c.in_ok-befores.ensures.count ∙ sym c.in_ok-afters.ensures.count ∙ sym (ap (λ (st : List UnitState). length st) c.deref-2.ensures.value) in
    omega (
      arith,
      ap (λ (us : List Decided). length us) c.in_ok-units.ensures,
      decided_length cert c.deref.result.now c.deref-2.result.now same,
      ap (λ (st : List UnitState). length st) c.deref-2.ensures.value,
      c.in_ok-afters.ensures.few,
    )
