use Rattle.std.proofs.Common.{◌≡◌, ℕ, ◌+◌, ◌≤◌, sym, subst, arith, List, take, length, map}
use Rattle.std.specs.Prelude.{Option}
use Rattle.std.proofs.lemmas.List.{take_all, length-map}
use Rattle.cert_format.specs.declared.cert.Mark.{Mark}
use Rattle.cert_format.specs.declared.cert.Mark.TheVariants.{Infeasible}
use Rattle.cert_format.specs.declared.cert.StageCert.{StageCert}
use Rattle.cert_format.specs.Choices.{choices_of}
use Rattle.series_model.specs.declared.unit.Unit.{Unit as SlotUnit}
use Rattle.series_model.specs.Options.{line_times}
use Rattle.series_model.specs.Stages.{GivenFits, stage_units, stage_limit, first_states, states_after}
use Rattle.wasg_stages.specs.Valid.{MarkClaims}
use Rattle.season_report.specs.Decisions.{states_before}
use Rattle.season_report.specs.Rows.{allotted_stage}
use Rattle.season_report.specs.Laws.{UsesItsBar, AllRows, NoneFits}
use Rattle.season_report.proofs.LawLemmas.{for_some, optimal_least, none_fits_in, feasible_at, bars_used, marks_at}
use Rattle.season_report.proofs.laws.optimal_reasons.Goals as goal

pub returns-clause-none_fits : goal.returns-clause-none_fits
returns-clause-none_fits c = λ s cert place block valid at mark.
    for_some (λ (x : List ℕ). NoneFits (allotted_stage s.declaration (place + 1) (states_before s cert (place + 1)) x)) block.choice
    (λ x is. none_fits_in (allotted_stage s.declaration (place + 1) (states_before s cert (place + 1)) x)
    (optimal_least s cert place block x (c.valid_marks.ensures s cert valid) at mark is))

pub returns-clause-used : goal.returns-clause-used
returns-clause-used c = λ s cert place block valid at.
    for_some (λ (x : List ℕ). AllRows UsesItsBar (allotted_stage s.declaration (place + 1) (states_before s cert (place + 1)) x)) block.choice
    (λ x is. bars_used (allotted_stage s.declaration (place + 1) (states_before s cert (place + 1)) x)
    (feasible_at s cert place block x (c.valid_choices.ensures s cert valid) at is).feasible)

pub returns-clause-first : goal.returns-clause-first
returns-clause-first c = λ s cert block valid at mark is.
    let d = s.declaration in
    let states = first_states s.units in
    let claims : MarkClaims d (stage_units 1 states) (stage_limit d 1 states) block Infeasible =
    subst (λ (m : Mark). MarkClaims d (stage_units 1 states) (stage_limit d 1 states) block m) mark (marks_at s cert 0 block (c.valid_marks.ensures s cert valid) at) in
    claims (map (λ (unit : SlotUnit). line_times unit.request) (stage_units 1 states)) (c.ruled_out.ensures.first d s.units is)

pub returns-clause-within : goal.returns-clause-within
returns-clause-within c = λ s cert r valid share lt.
    let choices : List (Option (List ℕ)) = choices_of cert in
    let few : length choices ≤ 4 = omega (arith, valid.form.count, length-map cert.stages (λ (b : StageCert). b.choice)) in
    let whole : choices ≡ take 4 choices = sym (take_all 4 choices few) in
    let fits : GivenFits s.declaration (states_after s.declaration s.units choices) = c.feasible_fits.ensures.all s.declaration s.units choices share (c.valid_choices.ensures s cert valid) in
    subst (λ (cs : List (Option (List ℕ))). GivenFits s.declaration (states_after s.declaration s.units cs)) whole fits r lt
