-- The reasons of a stage's units, one unit after the other.
use Rattle.std.proofs.Common.{◌≡◌, ℕ, zero, suc, ◌+◌, ◌<◌, ◌≤◌, Bool, true, false, refl, sym, ◌∙◌, ap, subst, arith, List, [], ◌∷◌, ◌++◌, length, get_or, set, take, drop, map}
use Rattle.std.specs.Prelude.{Some, None, Vec, slice_get, slice_index, if◌then◌else◌}
use Rattle.std.specs.List.{AllZip}
use Rattle.std.proofs.lemmas.List.{append-nil, append_assoc, drop_more, take_more_set, drop-set-lt, map-set, length-map, get_or-map, take_all, take_more, drop_all, map-append}
use Rattle.std.proofs.lemmas.Option.{slice_get-get_or, slice_get_within}
use Rattle.season_days.specs.declared.declaration.Declaration.{Declaration}
use Rattle.season_days.specs.Capacity.{capacity_of, declared_resources, IsDeclaration}
use Rattle.choice_problem.specs.Problems.{ProblemView, alt_cost, alt_uses, alt_count}
use Rattle.choice_problem.specs.Counts.{HasUses, GrowsBy}
use Rattle.choice_problem.specs.Choices.{IsChoice, load_of}
use Rattle.window_counts.specs.Placed.{KeepsLimits, AreLoads}
use Rattle.wasg_stages.specs.StageProblems.{IsAllotmentProblem, IsStageProblem}
use Rattle.series_model.specs.Allotments.{allotted_load}
use Rattle.scr_reader.specs.declared.line.Code.TheVariants.{N}
use Rattle.series_model.specs.declared.group.Group.TheVariants.{F}
use Rattle.series_model.specs.declared.unit.Unit.{Unit as SlotUnit}
use Rattle.series_model.specs.declared.times.Times.{Times}
use Rattle.series_model.specs.declared.times.Times.TheVariants.{Refused}
use Rattle.series_model.specs.declared.state.UnitState.{UnitState}
use Rattle.series_model.specs.Options.{options_of}
use Rattle.series_model.specs.Displacement.{displacement_of}
use Rattle.series_model.specs.Stages.{is_due_state, stage_units, stage_limit, times_named, stage_times, IsFeasibleChoice}
use Rattle.report_lines.specs.Peaks.{AreEarlier}
use Rattle.season_report.specs.declared.told.Tried.{Tried}
use Rattle.season_report.specs.Reasons.{AllottedStage, others_load}
use Rattle.season_report.specs.Rows.{reasons_from, unit_reasons}
use Rattle.season_report.specs.Reports.{with_texts}
use Rattle.season_report.specs.Private.{IsToldStage, told_stage, AreAll, first_reasons, place_after, texts_of}
use Rattle.season_report.proofs.ApartLemmas.{load_apart}
use Rattle.season_report.proofs.GivenLemmas.{limit_small, declared_small}
use Rattle.season_report.proofs.BesideLemmas.{IsBeside, alt_there, place_there, alts_there}

-- what stands past the end of a list of units
abbrev pub no_state : UnitState
no_state = record {
  unit = record {
    line = 0;
    group = F;
    historic = None;
    request = record {
      code = N;
      arrival = None;
      departure = None;
      nights = 0;
      seats = 0;
      craft = record { 0 = [] };
      period = record { first = record { 0 = 0 }; last = record { 0 = 0 }; days = 0 };
    };
  };
  given = None;
}

-- ---- what is at a place

pub got_at : {X : Type 0} (xs : List X) (n : ℕ) (x : X) (ys : List X) → drop n xs ≡ x ∷ ys → slice_get xs n ≡ Some x
got_at [] zero x ys is = cc
got_at [] (suc n) x ys is = cc
got_at (z ∷ xs) zero x ys is = cc
got_at (z ∷ xs) (suc n) x ys is = got_at xs n x ys is

pub rest_at : {X : Type 0} (xs : List X) (n : ℕ) (x : X) (ys : List X) → drop n xs ≡ x ∷ ys → drop (n + 1) xs ≡ ys
rest_at [] zero x ys is = cc
rest_at [] (suc n) x ys is = cc
rest_at (z ∷ xs) zero x ys is = cc
rest_at (z ∷ xs) (suc n) x ys is =
    let next : suc n + 1 ≡ suc (n + 1) = omega arith in
    ap (λ (k : ℕ). drop k (z ∷ xs)) next ∙ rest_at xs n x ys is

-- the times that a choice names
named_at : (d : Declaration) (units : List SlotUnit) (choice : List ℕ) (place : ℕ) (unit : SlotUnit) → length choice ≡ length units → slice_get units place ≡ Some unit →
    drop place (times_named d units choice) ≡ get_or (options_of d unit) (get_or choice place 0) Refused ∷ drop (place + 1) (times_named d units choice)
named_at d [] choice place unit same at = cc
named_at d (own ∷ units) [] place unit same at = absurd (omega arith)
named_at d (own ∷ units) (number ∷ choice) zero unit same at =
    let is : own ≡ unit = cc in
    ap (λ (u : SlotUnit). get_or (options_of d u) number Refused ∷ times_named d units choice) is
named_at d (own ∷ units) (number ∷ choice) (suc place) unit same at =
    let next : suc (place + 1) ≡ suc place + 1 = omega arith in
    named_at d units choice place unit (omega arith) at
    ∙ ap (λ (k : ℕ). get_or (options_of d unit) (get_or choice place 0) Refused ∷ drop k (times_named d (own ∷ units) (number ∷ choice))) next

-- ---- one unit of the stage

-- the times that the choice gives it
abbrev pub given_to : Tried → List ℕ → ℕ → SlotUnit → Times
given_to t choice place unit = get_or (options_of t.declaration.now unit) (slice_index choice place) Refused

numbers_length : (d : Declaration) (units : List SlotUnit) (choice : List ℕ) → AllZip (λ unit number. number < length (options_of d unit)) units choice → length choice ≡ length units
numbers_length d [] [] all = refl
numbers_length d [] (n ∷ choice) all = absurd all
numbers_length d (unit ∷ units) [] all = absurd all
numbers_length d (unit ∷ units) (n ∷ choice) all = ap suc (numbers_length d units choice all.1)

number_there : (d : Declaration) (units : List SlotUnit) (choice : List ℕ) (place : ℕ) (unit : SlotUnit) → AllZip (λ unit number. number < length (options_of d unit)) units choice → slice_get units place ≡ Some unit →
    get_or choice place 0 < length (options_of d unit)
number_there d [] choice place unit all at = cc
number_there d (own ∷ units) [] place unit all at = absurd all
number_there d (own ∷ units) (n ∷ choice) zero unit all at =
    let is : own ≡ unit = cc in
    subst (λ (u : SlotUnit). n < length (options_of d u)) is all.0
number_there d (own ∷ units) (n ∷ choice) (suc place) unit all at = number_there d units choice place unit all.1 at

-- the unit, and what it was given
pub record IsGiven (t : Tried) (states : List UnitState) (choice : List ℕ) (place : ℕ) (unit : SlotUnit) : Type 0 where
  pub taken : slice_index choice place < alt_count t.problem.now place
  pub option : slice_get (options_of t.declaration.now unit) (slice_index choice place) ≡ Some (given_to t choice place unit)
  pub was : slice_get (stage_times t.declaration.now t.stage states choice) place ≡ Some (given_to t choice place unit)
  pub left : drop place (stage_times t.declaration.now t.stage states choice) ≡ given_to t choice place unit ∷ drop (place + 1) (stage_times t.declaration.now t.stage states choice)

pub is_given : (t : Tried) (states : List UnitState) (choice : List ℕ) (place : ℕ) (unit : SlotUnit) → IsToldStage t states → IsFeasibleChoice t.declaration.now t.stage states choice →
    slice_get (stage_units t.stage states) place ≡ Some unit → IsGiven t states choice place unit
is_given t states choice place unit told feasible at =
    let d = t.declaration.now in
    let units = stage_units t.stage states in
    let long : length choice ≡ length units = numbers_length d units choice feasible.numbers in
    let number : slice_index choice place < length (options_of d unit) = number_there d units choice place unit feasible.numbers at in
    let left = named_at d units choice place unit long at in
    record {
      taken = omega (arith, number, alts_there d units (stage_limit d t.stage states) t.problem.now place unit told.problem at);
      option = slice_get-get_or (options_of d unit) (slice_index choice place) Refused number;
      was = got_at (times_named d units choice) place (given_to t choice place unit) (drop (place + 1) (times_named d units choice)) left;
      left = left;
    }

-- it has a number in the choice, and what it was given costs what its alternative does
pub in_choice : (t : Tried) (states : List UnitState) (choice : List ℕ) (place : ℕ) (unit : SlotUnit) → IsFeasibleChoice t.declaration.now t.stage states choice → slice_get (stage_units t.stage states) place ≡ Some unit → place < length choice
in_choice t states choice place unit feasible at =
    omega (arith, slice_get_within (stage_units t.stage states) place unit at, numbers_length t.declaration.now (stage_units t.stage states) choice feasible.numbers)

pub cost_given : (t : Tried) (states : List UnitState) (choice : List ℕ) (place : ℕ) (unit : SlotUnit) → IsToldStage t states → slice_get (stage_units t.stage states) place ≡ Some unit → IsGiven t states choice place unit →
    alt_cost t.problem.now place (slice_index choice place) ≡ displacement_of t.declaration.now unit (given_to t choice place unit)
cost_given t states choice place unit told at given =
    let d = t.declaration.now in
    let alternative = alt_there d (stage_units t.stage states) (stage_limit d t.stage states) t.problem.now place unit (slice_index choice place) (given_to t choice place unit) told.problem at given.option in
    alternative.cost

-- ---- the counts of all units

pub all_keep : (t : Tried) (states : List UnitState) (choice counts : List ℕ) → IsToldStage t states → IsFeasibleChoice t.declaration.now t.stage states choice → AreAll (told_stage t states choice) counts → KeepsLimits t.problem.now counts
all_keep t states choice counts told feasible all = record {
  length = omega (arith, all.length, told.problem.resources);
  within = λ r lt.
      let there : r < declared_resources (capacity_of t.declaration.now) = omega (arith, lt, told.problem.resources) in
      omega (arith, all.each r there, feasible.feasible.fits r there, told.problem.limits r there);
}

pub placed : (t : Tried) (states : List UnitState) (place : ℕ) (unit : SlotUnit) → IsToldStage t states → slice_get (stage_units t.stage states) place ≡ Some unit →
    (place < length t.problem.now.units) × (length (options_of t.declaration.now unit) ≡ alt_count t.problem.now place)
placed t states place unit told at =
    let d = t.declaration.now in (
      place_there d (stage_units t.stage states) (stage_limit d t.stage states) t.problem.now place unit told.problem at,
      alts_there d (stage_units t.stage states) (stage_limit d t.stage states) t.problem.now place unit told.problem at,
    )

-- the unit's own uses among them
own_uses : (t : Tried) (states : List UnitState) (choice counts : List ℕ) (place : ℕ) (unit : SlotUnit) (r : ℕ) → IsToldStage t states → slice_get (stage_units t.stage states) place ≡ Some unit → IsGiven t states choice place unit →
    AreAll (told_stage t states choice) counts → r < declared_resources (capacity_of t.declaration.now) →
    slice_index counts r ≡ others_load (told_stage t states choice) place r + alt_uses t.problem.now place (slice_index choice place) r
own_uses t states choice counts place unit r told at given all lt =
    let d = t.declaration.now in
    let units = stage_units t.stage states in
    let its = given_to t choice place unit in
    let alternative = alt_there d units (stage_limit d t.stage states) t.problem.now place unit (slice_index choice place) its told.problem at given.option in
    omega (
      arith,
      all.each r lt,
      load_apart d units (stage_times d t.stage states choice) place unit its r at given.was,
      alternative.uses r,
    )

pub own_there : (t : Tried) (states : List UnitState) (choice counts : List ℕ) (place : ℕ) (unit : SlotUnit) → IsToldStage t states → slice_get (stage_units t.stage states) place ≡ Some unit → IsGiven t states choice place unit →
    AreAll (told_stage t states choice) counts → HasUses counts (λ r. alt_uses t.problem.now place (slice_index choice place) r)
own_there t states choice counts place unit told at given all r lt =
    let there : r < declared_resources (capacity_of t.declaration.now) = omega (arith, lt, all.length) in
    omega (arith, own_uses t states choice counts place unit r told at given all there)

pub beside : (t : Tried) (states : List UnitState) (choice counts others : List ℕ) (place : ℕ) (unit : SlotUnit) → IsToldStage t states → slice_get (stage_units t.stage states) place ≡ Some unit → IsGiven t states choice place unit →
    AreAll (told_stage t states choice) counts → length others ≡ length counts → GrowsBy others counts (λ r. alt_uses t.problem.now place (slice_index choice place) r) → IsBeside t states choice place unit others
beside t states choice counts others place unit told at given all same grown = record {
  told = told;
  at = at;
  each = λ r lt. omega (arith, own_uses t states choice counts place unit r told at given all lt, grown r (omega (arith, lt, same, all.length)));
}

-- ---- the units in their order

abbrev reasons_by : AllottedStage → ℕ → UnitState → List UnitState → Times → List Times → Bool → List (List ℕ)
reasons_by a place state states given times due =
    if due then unit_reasons a place state.unit given ∷ reasons_from a (suc place) states times else [] ∷ reasons_from a place states (given ∷ times)

skipped : (a : AllottedStage) (place : ℕ) (state : UnitState) (states : List UnitState) (times : List Times) → is_due_state a.stage state ≡ false →
    reasons_from a place (state ∷ states) times ≡ first_reasons a place state times ∷ reasons_from a place states times
skipped a place state states [] off = refl
skipped a place state states (given ∷ times) off =
    ap (reasons_by a place state states given times) off
    ∙ ap (λ (b : Bool). (if b then unit_reasons a place state.unit given else []) ∷ reasons_from a place states (given ∷ times)) (sym off)

-- the reasons of the first unit, and of those after it
pub reasons_next : (a : AllottedStage) (place : ℕ) (state : UnitState) (states : List UnitState) (times : List Times) → (is_due_state a.stage state ≡ true → (given : Times) × (drop place times ≡ given ∷ drop (place + 1) times)) →
    reasons_from a place (state ∷ states) (drop place times)
    ≡ first_reasons a place state (drop place times) ∷ reasons_from a (place_after a.stage place state) states (drop (place_after a.stage place state) times)
reasons_next a place state states times there =
    (elim (is_due_state a.stage state) as (λ b. is_due_state a.stage state ≡ b → reasons_from a place (state ∷ states) (drop place times)
    ≡ first_reasons a place state (drop place times) ∷ reasons_from a (if b then place + 1 else place) states (drop (if b then place + 1 else place) times)) [
      | true ↦ λ due.
          let got = there due in
          let given = got.0 in
          let rest = drop (place + 1) times in
          let next : suc place ≡ place + 1 = omega arith in
          ap (reasons_from a place (state ∷ states)) got.1
          ∙ ap (reasons_by a place state states given rest) due
          ∙ ap (λ (k : ℕ). unit_reasons a place state.unit given ∷ reasons_from a k states rest) next
          ∙ ap (λ (b : Bool). (if b then unit_reasons a place state.unit given else []) ∷ reasons_from a (place + 1) states rest) (sym due)
          ∙ ap (λ (left : List Times). first_reasons a place state left ∷ reasons_from a (place + 1) states rest) (sym got.1)
      | false ↦ λ off. skipped a place state states (drop place times) off
    ]) refl

-- the unit at a place, where it is due
pub due_at : (stage : ℕ) (state : UnitState) (rest : List UnitState) (units : List SlotUnit) (place : ℕ) → is_due_state stage state ≡ true → drop place units ≡ stage_units stage (state ∷ rest) → slice_get units place ≡ Some state.unit
due_at stage state rest units place due is =
    got_at units place state.unit (stage_units stage rest) (is ∙ ap (λ (b : Bool). if b then state.unit ∷ stage_units stage rest else stage_units stage rest) due)

pub place_next : (stage : ℕ) (state : UnitState) (rest : List UnitState) (units : List SlotUnit) (place : ℕ) → drop place units ≡ stage_units stage (state ∷ rest) → drop (place_after stage place state) units ≡ stage_units stage rest
place_next stage state rest units place is =
    (elim (is_due_state stage state) as (λ b. drop place units ≡ (if b then state.unit ∷ stage_units stage rest else stage_units stage rest) → drop (if b then place + 1 else place) units ≡ stage_units stage rest) [
      | true ↦ λ at. rest_at units place state.unit (stage_units stage rest) at
      | false ↦ λ at. at
    ]) is

pub place_small : (stage : ℕ) (state : UnitState) (place i : ℕ) → place ≤ i → place_after stage place state ≤ i + 1
place_small stage state place i le =
    elim (is_due_state stage state) as (λ b. (if b then place + 1 else place) ≤ i + 1) [
      | true ↦ omega arith
      | false ↦ omega arith
    ]

pub first_off : (a : AllottedStage) (place : ℕ) (state : UnitState) (times : List Times) → is_due_state a.stage state ≡ false → first_reasons a place state times ≡ []
first_off a place state [] off = refl
first_off a place state (given ∷ times) off = ap (λ (b : Bool). if b then unit_reasons a place state.unit given else []) off

pub first_due : (a : AllottedStage) (place : ℕ) (state : UnitState) (given : Times) (times rest : List Times) → is_due_state a.stage state ≡ true → times ≡ given ∷ rest → first_reasons a place state times ≡ unit_reasons a place state.unit given
first_due a place state given times rest due is =
    ap (first_reasons a place state) is ∙ ap (λ (b : Bool). if b then unit_reasons a place state.unit given else []) due

-- the reasons of the unit at a place of all, and of those after it
pub reasons_on : (t : Tried) (states : List UnitState) (choice : List ℕ) (place : ℕ) (state : UnitState) (rest : List UnitState) → IsToldStage t states → IsFeasibleChoice t.declaration.now t.stage states choice →
    drop place (stage_units t.stage states) ≡ stage_units t.stage (state ∷ rest) →
    reasons_from (told_stage t states choice) place (state ∷ rest) (drop place (stage_times t.declaration.now t.stage states choice))
    ≡ first_reasons (told_stage t states choice) place state (drop place (stage_times t.declaration.now t.stage states choice))
    ∷ reasons_from (told_stage t states choice) (place_after t.stage place state) rest (drop (place_after t.stage place state) (stage_times t.declaration.now t.stage states choice))
reasons_on t states choice place state rest told feasible is =
    reasons_next (told_stage t states choice) place state rest (stage_times t.declaration.now t.stage states choice) (λ due.
    let given = is_given t states choice place state.unit told feasible (due_at t.stage state rest (stage_units t.stage states) place due is) in
    (given_to t choice place state.unit, given.left))

-- ---- what is told of

pub told_of : (t : Tried) (d : Declaration) (states : List UnitState) → t.declaration.now ≡ d → IsDeclaration d → t.windows.now ≡ capacity_of d → IsStageProblem d t.stage states t.problem.now →
    length t.earlier.now ≡ declared_resources (capacity_of d) → AreEarlier d states t.earlier.now → IsToldStage t states
told_of t d states is keeps windows problem long earlier =
    let back : d ≡ t.declaration.now = sym is in
    record {
      settled = record {
        keeps = subst IsDeclaration back keeps;
        windows = windows ∙ ap capacity_of back;
        resources = problem.resources ∙ ap (λ (k : Declaration). declared_resources (capacity_of k)) back;
        earlier = long ∙ ap (λ (k : Declaration). declared_resources (capacity_of k)) back;
        limits = λ r lt.
            let there : r < declared_resources (capacity_of d) = omega (arith, lt, problem.resources) in
            omega (arith, problem.limits r there, limit_small d t.stage states r keeps.share, declared_small (capacity_of d) r keeps.capacity);
      };
      problem = subst (λ (k : Declaration). IsStageProblem k t.stage states t.problem.now) back problem;
      earlier = subst (λ (k : Declaration). AreEarlier k states t.earlier.now) back earlier;
    }

-- the law of problems
abbrev pub LoadsOfChoices : Type 0
LoadsOfChoices = (d : Declaration) (units : List SlotUnit) (limit : ℕ → ℕ) (p : ProblemView) (x : List ℕ) (r : ℕ) → IsAllotmentProblem d units limit p → IsChoice p x → load_of p x r ≡ allotted_load d units (times_named d units x) r

pub all_loads : LoadsOfChoices → (d : Declaration) (stage : ℕ) (states : List UnitState) (p : ProblemView) (x counts : List ℕ) → IsStageProblem d stage states p → IsChoice p x → AreLoads p x counts →
    (r : ℕ) → r < declared_resources (capacity_of d) → slice_index counts r ≡ allotted_load d (stage_units stage states) (stage_times d stage states x) r
all_loads law d stage states p x counts problem choice loads r lt =
    loads r (omega (arith, lt, problem.resources)) ∙ law d (stage_units stage states) (stage_limit d stage states) p x r problem choice

-- ---- texts

-- one text more is whole
pub texts_more : (texts : List (List ℕ)) (i : ℕ) (next : List ℕ) (rest whole : List (List ℕ)) → i < length texts → take i texts ++ with_texts (drop i texts) (next ∷ rest) ≡ whole →
    take (i + 1) (set texts i (get_or texts i [] ++ next)) ++ with_texts (drop (i + 1) (set texts i (get_or texts i [] ++ next))) rest ≡ whole
texts_more texts i next rest whole lt so_far =
    let text : List ℕ = get_or texts i [] ++ next in
    let later = with_texts (drop (i + 1) texts) rest in
    let before : drop (i + 1) (set texts i text) ≡ drop (i + 1) texts = drop-set-lt (i + 1) texts i text (omega arith) in
    let now : with_texts (drop i texts) (next ∷ rest) ≡ text ∷ later = ap (λ (ts : List (List ℕ)). with_texts ts (next ∷ rest)) (drop_more texts i [] lt) in
    ap (λ (ts : List (List ℕ)). ts ++ with_texts (drop (i + 1) (set texts i text)) rest) (take_more_set texts i text lt)
    ∙ ap (λ (ts : List (List ℕ)). (take i texts ++ text ∷ []) ++ with_texts ts rest) before
    ∙ append_assoc (take i texts) (text ∷ []) later
    ∙ ap (λ (ts : List (List ℕ)). take i texts ++ ts) (sym now)
    ∙ so_far

-- one text of the units more
pub state_texts : {A : Type 0} (reasons : List (Vec ℕ A)) (i : ℕ) (d text : Vec ℕ A) (next : List ℕ) (rest whole : List (List ℕ)) → i < length reasons → text.items ≡ (get_or reasons i d).items ++ next →
    take i (texts_of reasons) ++ with_texts (drop i (texts_of reasons)) (next ∷ rest) ≡ whole →
    take (i + 1) (texts_of (set reasons i text)) ++ with_texts (drop (i + 1) (texts_of (set reasons i text))) rest ≡ whole
state_texts {A} reasons i d text next rest whole lt wrote so_far =
    let items : Vec ℕ A → List ℕ = λ (v : Vec ℕ A). v.items in
    let texts : List (List ℕ) = texts_of reasons in
    let own : get_or texts i [] ≡ (get_or reasons i d).items = get_or-map items reasons i d [] lt in
    let now : texts_of (set reasons i text) ≡ set texts i (get_or texts i [] ++ next) =
    map-set items reasons i text ∙ ap (λ (t : List ℕ). set texts i t) (wrote ∙ ap (λ (t : List ℕ). t ++ next) (sym own)) in
    let there : i < length texts = omega (arith, lt, length-map reasons items) in
    ap (λ (ts : List (List ℕ)). take (i + 1) ts ++ with_texts (drop (i + 1) ts) rest) now
    ∙ texts_more texts i next rest whole there so_far

-- one empty text more
pub texts_pushed : {A : Type 0} (old new : List (Vec ℕ A)) (v : Vec ℕ A) (units : List SlotUnit) (i : ℕ) → i < length units → new ≡ old ++ v ∷ [] → v.items ≡ [] →
    texts_of old ≡ map (λ (unit : SlotUnit). []) (take i units) → texts_of new ≡ map (λ (unit : SlotUnit). []) (take (i + 1) units)
texts_pushed {A} old new v units i lt pushed empty so_far =
    let items : Vec ℕ A → List ℕ = λ (w : Vec ℕ A). w.items in
    let none : SlotUnit → List ℕ = λ (unit : SlotUnit). [] in
    let own : map none (take (i + 1) units) ≡ map none (take i units) ++ [] ∷ [] =
    ap (map none) (take_more units i no_state.unit lt) ∙ map-append none (take i units) (get_or units i no_state.unit ∷ []) in
    ap (λ (vs : List (Vec ℕ A)). texts_of vs) pushed
    ∙ map-append items old (v ∷ [])
    ∙ ap (λ (ts : List (List ℕ)). ts ++ v.items ∷ []) so_far
    ∙ ap (λ (t : List ℕ). map none (take i units) ++ t ∷ []) empty
    ∙ sym own

pub texts_length : {A : Type 0} (reasons : List (Vec ℕ A)) → length (texts_of reasons) ≡ length reasons
texts_length {A} reasons = length-map reasons (λ (v : Vec ℕ A). v.items)

pub texts_end : (texts : List (List ℕ)) (i : ℕ) (rest whole : List (List ℕ)) → length texts ≤ i → take i texts ++ with_texts (drop i texts) rest ≡ whole → texts ≡ whole
texts_end texts i rest whole past so_far =
    sym (append-nil texts)
    ∙ ap (λ (ts : List (List ℕ)). ts ++ []) (sym (take_all i texts past))
    ∙ ap (λ (ts : List (List ℕ)). take i texts ++ with_texts ts rest) (sym (drop_all i texts past))
    ∙ so_far

-- with no reasons
no_more : (texts : List (List ℕ)) (states : List UnitState) → with_texts texts (map (λ (state : UnitState). []) states) ≡ texts
no_more [] states = refl
no_more (text ∷ texts) [] = refl
no_more (text ∷ texts) (state ∷ states) =
    ap (λ (t : List ℕ). t ∷ with_texts texts (map (λ (s : UnitState). []) states)) (append-nil text)
    ∙ ap (λ (ts : List (List ℕ)). text ∷ ts) (no_more texts states)

pub none_more : (texts : List (List ℕ)) (states : List UnitState) → texts ≡ with_texts texts (map (λ (state : UnitState). []) states)
none_more texts states = sym (no_more texts states)
