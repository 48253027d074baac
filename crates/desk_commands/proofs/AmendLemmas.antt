-- The book with which amendments begin has at most one holding a unit; what is said of a history that
-- begins with it.
use Rattle.std.proofs.Common.{◌≡◌, ℕ, suc, ◌≤◌, List, [], ◌∷◌, length, Option, Some, None, refl, ap, ◌∙◌, subst, arith, inl, inr}
use Rattle.std.specs.List.{filter_map, cons_option, concat}
use Rattle.std.proofs.lemmas.Bool.{cases_Bool}
use Rattle.season_days.specs.declared.declaration.Declaration.{Declaration}
use Rattle.series_model.specs.declared.unit.Unit.{Unit as SlotUnit}
use Rattle.series_model.specs.declared.times.Times.{Times}
use Rattle.series_model.specs.declared.state.UnitState.{UnitState}
use Rattle.series_model.specs.Submissions.{SubmissionView}
use Rattle.series_model.specs.Stages.{is_due_state, after_allotment, after_stage, after_stages, first_states, states_after, stage_times}
use Rattle.cert_format.specs.declared.cert.Certificate.{Certificate}
use Rattle.cert_format.specs.Choices.{choices_of}
use Rattle.holding_book.specs.declared.answer.Entry.{Entry}
use Rattle.holding_book.specs.Books.{SlotBook}
use Rattle.holding_book.specs.Starts.{holding_of, start_book}
use Rattle.amend_run.specs.Amended.{FitsThroughout, IsAskedBy}
use Rattle.desk_commands.specs.Amendments.{entries_line, AmendsLegally}

cons_few : {X : Type 0} (o : Option X) (xs : List X) (n : ℕ) → length xs ≤ n → length (cons_option o xs) ≤ suc n
cons_few None xs n few = omega (arith, few)
cons_few (Some x) xs n few = omega (arith, few)

mapped_few : {X Y : Type 0} (h : X → Option Y) (xs : List X) → length (filter_map h xs) ≤ length xs
mapped_few h [] = omega arith
mapped_few h (x ∷ xs) = cons_few (h x) (filter_map h xs) (length xs) (mapped_few h xs)

allotted_same : (stage : ℕ) (states : List UnitState) (times : List Times) → length (after_allotment stage states times) ≡ length states
allotted_same stage [] times = refl
allotted_same stage (state ∷ states) [] = refl
allotted_same stage (state ∷ states) (given ∷ times) =
    elim (cases_Bool (is_due_state stage state)) [
      | inl due ↦ rw due (ap suc (allotted_same stage states times))
      | inr not ↦ rw not (ap suc (allotted_same stage states (given ∷ times)))
    ]

stage_same : (d : Declaration) (stage : ℕ) (states : List UnitState) (choice : Option (List ℕ)) → length (after_stage d stage states choice) ≡ length states
stage_same d stage states None = refl
stage_same d stage states (Some choice) = allotted_same stage states (stage_times d stage states choice)

stages_same : (d : Declaration) (stage : ℕ) (states : List UnitState) (choices : List (Option (List ℕ))) → length (after_stages d stage states choices) ≡ length states
stages_same d stage states [] = refl
stages_same d stage states (choice ∷ choices) = stages_same d (suc stage) (after_stage d stage states choice) choices ∙ stage_same d stage states choice

first_same : (units : List SlotUnit) → length (first_states units) ≡ length units
first_same [] = refl
first_same (unit ∷ units) = ap suc (first_same units)

pub start_few : (s : SubmissionView) (c : Certificate) → length (start_book s c).holdings ≤ length s.units
unfolding start_book
start_few s c =
    let states = states_after s.declaration s.units (choices_of c) in
    let same : length states ≡ length s.units = stages_same s.declaration 1 (first_states s.units) (choices_of c) ∙ first_same s.units in
    let few : length (filter_map holding_of states) ≤ length states = mapped_few holding_of states in
    omega (arith, same, few)

-- what is written and printed of a history that begins with that book
pub amends : (start b : SlotBook) (asks answers text : List ℕ) (history : List Entry) (texts : List (List ℕ)) → b ≡ start → IsAskedBy b asks history texts → FitsThroughout b history → answers ≡ concat texts → text ≡ entries_line (length history)
    → AmendsLegally start asks answers text
amends start b asks answers text history texts same asked fits written printed =
    subst (λ (x : SlotBook). AmendsLegally x asks answers text) same
    (record {
      history = history;
      texts = texts;
      one = record { legal = asked.legal; fits = fits };
      answered = asked.answered;
      written = written;
      printed = printed;
    })
