use Rattle.std.proofs.Common.{◌≡◌, ◌+◌, ◌++◌, ◌∷◌, ◌<◌, ◌≤◌, ◌∙◌, refl, sym, ap, subst, arith, rules, List, ℕ, length, drop, take, get_or, set}
use Rattle.std.proofs.lemmas.List.{drop_more, length-set}
use Rattle.std.proofs.lemmas.List.Elements.{All-get_or}
use Rattle.series_model.specs.declared.state.UnitState.{UnitState}
use Rattle.series_model.specs.Units.{UnitFits}
use Rattle.series_model.specs.Stages.{stage_units, stage_times}
use Rattle.season_report.specs.Rows.{reasons_from}
use Rattle.season_report.specs.Reports.{with_texts}
use Rattle.season_report.specs.Private.{AreAll, told_stage, texts_of, first_reasons, place_after}
use Rattle.season_report.proofs.TriedLemmas.{no_state, place_next, place_small, reasons_on, state_texts, texts_length, texts_end}
use Rattle.season_report.proofs.tried.put_reasons.Goals as goal

pub loop-i-init : goal.loop-i-init
loop-i-init c = record { place = refl; texts = refl; count = refl; counts = refl; small = omega arith }

pub put_state_reasons-requires-clause-fits : goal.put_state_reasons-requires-clause-fits
put_state_reasons-requires-clause-fits c =
    All-get_or (λ (state : UnitState). UnitFits c.args.tried.declaration.now.season state.unit) c.args.states.now c.loop-i.i _ (search rules) c.requires.fits

pub put_state_reasons-requires-clause-all : goal.put_state_reasons-requires-clause-all
put_state_reasons-requires-clause-all c = subst (AreAll (told_stage c.args.tried c.args.states.now c.args.choice.now)) (sym c.loop-i.invariant.counts) c.requires.all

pub put_state_reasons-requires-clause-at : goal.put_state_reasons-requires-clause-at
put_state_reasons-requires-clause-at c = (
  drop (c.loop-i.i + 1) c.args.states.now,
  c.loop-i.invariant.place ∙ ap (stage_units c.args.tried.stage) (drop_more c.args.states.now c.loop-i.i no_state (search rules)),
)

pub loop-i-preserved : goal.loop-i-preserved
loop-i-preserved c =
    let t = c.args.tried in
    let states = c.args.states.now in
    let choice = c.args.choice.now in
    let i = c.loop-i.i in
    let state : UnitState = get_or states i no_state in
    let rest : List UnitState = drop (i + 1) states in
    let old = c.loop-i.reasons in
    let new = set old i c.put_state_reasons.new.text in
    let lt : i < length states = search rules in
    let there : i < length old = omega (arith, lt, c.loop-i.invariant.count, c.requires.count) in
    let times = stage_times t.declaration.now t.stage states choice in
    let a = told_stage t states choice in
    let at : drop c.loop-i.place (stage_units t.stage states) ≡ stage_units t.stage (state ∷ rest) =
    c.loop-i.invariant.place ∙ ap (stage_units t.stage) (drop_more states i no_state lt) in
    let left = ap (λ (st : List UnitState). reasons_from a c.loop-i.place st (drop c.loop-i.place times)) (drop_more states i no_state lt) ∙ reasons_on t states choice c.loop-i.place state rest c.requires.told c.requires.choice at in
    let so_far = ap (λ (more : List (List ℕ)). take i (texts_of old) ++ with_texts (drop i (texts_of old)) more) (sym left) ∙ c.loop-i.invariant.texts in
    let next = place_after t.stage c.loop-i.place state in
    record {
      place = subst (λ (k : ℕ). drop k (stage_units t.stage states) ≡ stage_units t.stage rest) (sym c.in_ok-place.ensures.place) (place_next t.stage state rest (stage_units t.stage states) c.loop-i.place at);
      texts =
          ap (λ (k : ℕ). take (i + 1) (texts_of new) ++ with_texts (drop (i + 1) (texts_of new)) (reasons_from a k rest (drop k times))) c.in_ok-place.ensures.place
          ∙ state_texts old i _ c.put_state_reasons.new.text (first_reasons a c.loop-i.place state (drop c.loop-i.place times)) (reasons_from a next rest (drop next times)) _ there c.in_ok-place.ensures.text so_far;
      count = length-set old i c.put_state_reasons.new.text ∙ c.loop-i.invariant.count;
      counts = c.in_ok-place.ensures.counts ∙ c.loop-i.invariant.counts;
      small = subst (λ (k : ℕ). k ≤ i + 1) (sym c.in_ok-place.ensures.place) (place_small t.stage state c.loop-i.place i c.loop-i.invariant.small);
    }

pub returns-clause-texts : goal.returns-clause-texts
returns-clause-texts c =
    let i = c.loop-i.i in
    let past : length c.args.states.now ≤ i = search rules in
    let end : length (texts_of c.loop-i.reasons) ≤ i = omega (arith, past, texts_length c.loop-i.reasons, c.loop-i.invariant.count, c.requires.count) in
    texts_end (texts_of c.loop-i.reasons) i _ _ end c.loop-i.invariant.texts
