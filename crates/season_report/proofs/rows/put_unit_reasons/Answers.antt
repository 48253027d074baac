use Rattle.std.proofs.Common.{◌++◌, ◌∙◌, ap, List, ℕ}
use Rattle.std.specs.Prelude.{slice_index}
use Rattle.choice_problem.specs.Problems.{alt_uses, alt_cost}
use Rattle.season_report.proofs.FoundLemmas.{less, less_length, less_grows}
use Rattle.season_report.proofs.BesideLemmas.{reasons_same}
use Rattle.season_report.proofs.TriedLemmas.{is_given, given_to, in_choice, all_keep, placed, own_there, beside, cost_given}
use Rattle.season_report.proofs.rows.put_unit_reasons.Goals as goal

pub bounds-choice-place : goal.bounds-choice-place
bounds-choice-place c = in_choice c.args.tried c.args.states.now c.args.choice.now c.args.place c.args.unit.now c.requires.choice c.requires.at

pub put_found-requires-clause-settled : goal.put_found-requires-clause-settled
put_found-requires-clause-settled c = c.requires.told.settled

pub put_found-requires-clause-placed : goal.put_found-requires-clause-placed
put_found-requires-clause-placed c =
    let both = placed c.args.tried c.args.states.now c.args.place c.args.unit.now c.requires.told c.requires.at in
    record { there = both.0; fits = c.requires.fits; options = both.1 }

pub put_found-requires-clause-taken : goal.put_found-requires-clause-taken
put_found-requires-clause-taken c = (is_given c.args.tried c.args.states.now c.args.choice.now c.args.place c.args.unit.now c.requires.told c.requires.choice c.requires.at).taken

pub put_found-requires-clause-within : goal.put_found-requires-clause-within
put_found-requires-clause-within c = all_keep c.args.tried c.args.states.now c.args.choice.now c.args.counts.now c.requires.told c.requires.choice c.requires.all

pub put_found-requires-clause-added : goal.put_found-requires-clause-added
put_found-requires-clause-added c =
    let given = is_given c.args.tried c.args.states.now c.args.choice.now c.args.place c.args.unit.now c.requires.told c.requires.choice c.requires.at in
    own_there c.args.tried c.args.states.now c.args.choice.now c.args.counts.now c.args.place c.args.unit.now c.requires.told c.requires.at given c.requires.all

pub returns-clause-text : goal.returns-clause-text
returns-clause-text c =
    let t = c.args.tried in
    let states = c.args.states.now in
    let choice = c.args.choice.now in
    let counts = c.args.counts.now in
    let place = c.args.place in
    let unit = c.args.unit.now in
    let uses : ℕ → ℕ = λ (r : ℕ). alt_uses t.problem.now place (slice_index choice place) r in
    let given = is_given t states choice place unit c.requires.told c.requires.choice c.requires.at in
    let has = own_there t states choice counts place unit c.requires.told c.requires.at given c.requires.all in
    let others : List ℕ = less counts uses 0 in
    let same = less_length counts uses 0 in
    let grown = less_grows counts uses has in
    c.in_ok-put_found.ensures.text others same grown
    ∙ ap (λ (text : List ℕ). c.args.out.now.items ++ text)
    (reasons_same t states choice place unit others (given_to t choice place unit) (alt_cost t.problem.now place (slice_index choice place))
    (cost_given t states choice place unit c.requires.told c.requires.at given)
    (beside t states choice counts others place unit c.requires.told c.requires.at given c.requires.all same grown))
