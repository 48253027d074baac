use Rattle.std.proofs.Common.{◌≡◌, ◌+◌, ◌++◌, ◌∙◌, Bool, true, false, sym, ap, List, ℕ, drop, rules}
use Rattle.std.specs.Prelude.{if◌then◌else◌}
use Rattle.std.proofs.lemmas.List.{append-nil}
use Rattle.series_model.specs.Stages.{is_due_state, stage_units, stage_times}
use Rattle.season_report.specs.Private.{told_stage}
use Rattle.season_report.proofs.TriedLemmas.{due_at, first_off, first_due, is_given, given_to}
use Rattle.season_report.proofs.tried.put_state_reasons.Goals as goal

pub returns-then-not-is_due-clause-text : goal.returns-then-not-is_due-clause-text
returns-then-not-is_due-clause-text c =
    let t = c.args.tried in
    let off : is_due_state t.stage c.args.state.now ≡ false = search rules in
    sym (append-nil c.args.text.now.items)
    ∙ ap (λ (more : List ℕ). c.args.text.now.items ++ more)
    (sym (first_off (told_stage t c.args.states.now c.args.choice.now) c.args.place c.args.state.now (drop c.args.place (stage_times t.declaration.now t.stage c.args.states.now c.args.choice.now)) off))

pub returns-then-not-is_due-clause-place : goal.returns-then-not-is_due-clause-place
returns-then-not-is_due-clause-place c =
    let off : is_due_state c.args.tried.stage c.args.state.now ≡ false = search rules in
    sym (ap (λ (b : Bool). if b then c.args.place + 1 else c.args.place) off)

pub put_unit_reasons-requires-clause-at : goal.put_unit_reasons-requires-clause-at
put_unit_reasons-requires-clause-at c =
    let t = c.args.tried in
    let due : is_due_state t.stage c.args.state.now ≡ true = search rules in
    due_at t.stage c.args.state.now c.requires.at.0 (stage_units t.stage c.args.states.now) c.args.place due c.requires.at.1

pub returns-clause-text : goal.returns-clause-text
returns-clause-text c =
    let t = c.args.tried in
    let states = c.args.states.now in
    let choice = c.args.choice.now in
    let place = c.args.place in
    let state = c.args.state.now in
    let due : is_due_state t.stage state ≡ true = search rules in
    let at = due_at t.stage state c.requires.at.0 (stage_units t.stage states) place due c.requires.at.1 in
    let given = is_given t states choice place state.unit c.requires.told c.requires.choice at in
    c.in_ok-put_unit_reasons.ensures.text
    ∙ ap (λ (more : List ℕ). c.args.text.now.items ++ more)
    (sym (first_due (told_stage t states choice) place state (given_to t choice place state.unit) (drop place (stage_times t.declaration.now t.stage states choice)) (drop (place + 1) (stage_times t.declaration.now t.stage states choice)) due given.left))

pub returns-clause-place : goal.returns-clause-place
returns-clause-place c =
    let due : is_due_state c.args.tried.stage c.args.state.now ≡ true = search rules in
    sym (ap (λ (b : Bool). if b then c.args.place + 1 else c.args.place) due)
