-- One unit of a stage after the other.
use Rattle.std.proofs.Common.{◌≡◌, ℕ, zero, suc, ◌+◌, ◌<◌, Bool, true, false, refl, sym, ◌∙◌, ap, subst, arith, List, [], ◌∷◌, ◌++◌, length, get_or, drop}
use Rattle.std.proofs.lemmas.List.{append_assoc}
use Rattle.std.specs.Prelude.{Option, Some, None, if◌then◌else◌, All, is_some, ◌&&◌, ◌≤◌}
use Rattle.std.proofs.lemmas.Grind.{common_steps}
use Rattle.season_days.specs.declared.declaration.Declaration.{Declaration}
use Rattle.series_model.specs.Loops.{Advances}
use Rattle.series_model.specs.declared.unit.Unit.{Unit as SlotUnit}
use Rattle.series_model.specs.declared.times.Times.{Times}
use Rattle.series_model.specs.declared.times.Times.TheVariants.{Refused}
use Rattle.series_model.specs.Options.{options_of}
use Rattle.series_model.specs.declared.state.UnitState.{UnitState}
use Rattle.series_model.specs.Stages.{AreFitting, first_states, is_due_state, stage_units, after_allotment, times_named, stage_times, after_stage, after_stages, states_after, may_follow}
use Rattle.series_model.specs.Units.{UnitFits}

abbrev pub units_by : ℕ → UnitState → List UnitState → Bool → List SlotUnit
units_by stage state rest due = if due then state.unit ∷ stage_units stage rest else stage_units stage rest

abbrev with_by : ℕ → UnitState → List UnitState → Bool → List Times → List UnitState
with_by stage state rest due [] = state ∷ rest
with_by stage state rest due (next ∷ times) = if due then record state { given = Some next } ∷ after_allotment stage rest times else state ∷ after_allotment stage rest (next ∷ times)

after_allotment-by : (stage : ℕ) (state : UnitState) (rest : List UnitState) (times : List Times) → after_allotment stage (state ∷ rest) times ≡ with_by stage state rest (is_due_state stage state) times
after_allotment-by stage state rest [] = refl
after_allotment-by stage state rest (next ∷ times) = refl

after_allotment-none : (stage : ℕ) (states : List UnitState) → after_allotment stage states [] ≡ states
after_allotment-none stage [] = refl
after_allotment-none stage (state ∷ states) = refl

-- as many units as before
after_allotment-length : (stage : ℕ) (states : List UnitState) (times : List Times) → length (after_allotment stage states times) ≡ length states
after_allotment-length stage [] times = refl
after_allotment-length stage (state ∷ states) [] = refl
after_allotment-length stage (state ∷ states) (next ∷ times) =
    elim (is_due_state stage state) as (λ b. length (with_by stage state states b (next ∷ times)) ≡ suc (length states)) [
      | true ↦ ap suc (after_allotment-length stage states times)
      | false ↦ ap suc (after_allotment-length stage states (next ∷ times))
    ]

times_named-none : (d : Declaration) (units : List SlotUnit) → times_named d units [] ≡ []
times_named-none d [] = refl
times_named-none d (unit ∷ units) = refl

-- a unit of the stage takes its times
pub step-due : (d : Declaration) (stage : ℕ) (state : UnitState) (rest : List UnitState) (n : ℕ) (ns : List ℕ) → is_due_state stage state ≡ true →
    after_allotment stage (state ∷ rest) (stage_times d stage (state ∷ rest) (n ∷ ns))
    ≡ record state { given = Some (get_or (options_of d state.unit) n Refused) } ∷ after_allotment stage rest (stage_times d stage rest ns)
step-due d stage state rest n ns due =
    after_allotment-by stage state rest (times_named d (units_by stage state rest (is_due_state stage state)) (n ∷ ns))
    ∙ ap (λ (b : Bool). with_by stage state rest b (times_named d (units_by stage state rest b) (n ∷ ns))) due

with_by-skips : (stage : ℕ) (state : UnitState) (rest : List UnitState) (times : List Times) → with_by stage state rest false times ≡ state ∷ after_allotment stage rest times
with_by-skips stage state rest [] = ap (λ (s : List UnitState). state ∷ s) (sym (after_allotment-none stage rest))
with_by-skips stage state rest (next ∷ times) = refl

-- another one stays as it is
pub step-skips : (d : Declaration) (stage : ℕ) (state : UnitState) (rest : List UnitState) (ns : List ℕ) → is_due_state stage state ≡ false →
    after_allotment stage (state ∷ rest) (stage_times d stage (state ∷ rest) ns) ≡ state ∷ after_allotment stage rest (stage_times d stage rest ns)
step-skips d stage state rest ns due =
    after_allotment-by stage state rest (times_named d (units_by stage state rest (is_due_state stage state)) ns)
    ∙ ap (λ (b : Bool). with_by stage state rest b (times_named d (units_by stage state rest b) ns)) due
    ∙ with_by-skips stage state rest (times_named d (stage_units stage rest) ns)

-- where no numbers are left all stay as they are
pub step-ended : (d : Declaration) (stage : ℕ) (state : UnitState) (rest : List UnitState) →
    after_allotment stage (state ∷ rest) (stage_times d stage (state ∷ rest) []) ≡ state ∷ after_allotment stage rest (stage_times d stage rest [])
step-ended d stage state rest =
    ap (λ (ts : List Times). after_allotment stage (state ∷ rest) ts) (times_named-none d (stage_units stage (state ∷ rest)))
    ∙ ap (λ (s : List UnitState). state ∷ s) (sym (ap (λ (ts : List Times). after_allotment stage rest ts) (times_named-none d (stage_units stage rest)) ∙ after_allotment-none stage rest))

-- one element moves from what is to come to what was made
pub moves_on : {X : Type 0} (front tail whole before : List X) (x : X) → before ≡ x ∷ tail → front ++ before ≡ whole → (front ++ x ∷ []) ++ tail ≡ whole
moves_on front tail whole before x is all = append_assoc front (x ∷ []) tail ∙ ap (λ z. front ++ z) (sym is) ∙ all

pub advances-due : (d : Declaration) (stage : ℕ) (state : UnitState) (numbers : List ℕ) (times : Times) → is_due_state stage state ≡ true → 0 < length numbers →
    times ≡ get_or (options_of d state.unit) (get_or numbers 0 0) Refused → Advances d stage state numbers (record { unit = state.unit; given = Some times }) 1
advances-due d stage state [] times due some is rest = absurd (omega arith)
advances-due d stage state (n ∷ ns) times due some is rest =
    step-due d stage state rest n ns due ∙ ap (λ (t : Times). record { unit = state.unit; given = Some t } ∷ after_allotment stage rest (stage_times d stage rest ns)) (sym is)

pub advances-skips : (d : Declaration) (stage : ℕ) (state : UnitState) (numbers : List ℕ) → is_due_state stage state ≡ false → Advances d stage state numbers state 0
advances-skips d stage state numbers due rest = step-skips d stage state rest numbers due

pub advances-ended : (d : Declaration) (stage : ℕ) (state : UnitState) (numbers : List ℕ) → length numbers ≡ 0 → Advances d stage state numbers state 0
advances-ended d stage state [] none rest = step-ended d stage state rest
advances-ended d stage state (n ∷ ns) none rest = absurd (omega arith)

-- an element that is there is the same whatever stands in its place
pub at_default : {X : Type 0} (xs : List X) (k : ℕ) (d e : X) → k < length xs → get_or xs k d ≡ get_or xs k e
at_default [] k d e lt = absurd (omega arith)
at_default (x ∷ xs) zero d e lt = refl
at_default (x ∷ xs) (suc k) d e lt = at_default xs k d e (omega arith)

-- the front that is to come, and what follows it
pub drop-cons : {X : Type 0} (xs : List X) (i : ℕ) (e : X) → i < length xs → drop i xs ≡ get_or xs i e ∷ drop (i + 1) xs
drop-cons [] i e lt = absurd (omega arith)
drop-cons (x ∷ xs) zero e lt = refl
drop-cons (x ∷ xs) (suc i) e lt =
    let same : suc (i + 1) ≡ suc i + 1 = omega arith in
    drop-cons xs i e (omega arith) ∙ ap (λ (k : ℕ). get_or xs i e ∷ drop k (x ∷ xs)) same

drop-sum : {X : Type 0} (xs : List X) (n m : ℕ) → drop m (drop n xs) ≡ drop (n + m) xs
drop-sum xs n m = grind (arith, common_steps)

pub advances-on : (d : Declaration) (stage : ℕ) (states : List UnitState) (numbers : List ℕ) (i next taken : ℕ) (state after : UnitState) (front whole : List UnitState) → i < length states →
    state ≡ get_or states i state → Advances d stage state (drop next numbers) after taken →
    front ++ after_allotment stage (drop i states) (stage_times d stage (drop i states) (drop next numbers)) ≡ whole →
    (front ++ after ∷ []) ++ after_allotment stage (drop (i + 1) states) (stage_times d stage (drop (i + 1) states) (drop (next + taken) numbers)) ≡ whole
advances-on d stage states numbers i next taken state after front whole lt is advances all =
    let head : drop i states ≡ state ∷ drop (i + 1) states = drop-cons states i state lt ∙ ap (λ (s : UnitState). s ∷ drop (i + 1) states) (sym is) in
    let now : after_allotment stage (drop i states) (stage_times d stage (drop i states) (drop next numbers)) ≡ after ∷ after_allotment stage (drop (i + 1) states) (stage_times d stage (drop (i + 1) states) (drop taken (drop next numbers))) =
    ap (λ (s : List UnitState). after_allotment stage s (stage_times d stage s (drop next numbers))) head ∙ advances (drop (i + 1) states) in
    let left : drop taken (drop next numbers) ≡ drop (next + taken) numbers = drop-sum numbers next taken in
    let moved = moves_on front (after_allotment stage (drop (i + 1) states) (stage_times d stage (drop (i + 1) states) (drop taken (drop next numbers)))) whole
    (after_allotment stage (drop i states) (stage_times d stage (drop i states) (drop next numbers))) after now all in
    subst (λ (ns : List ℕ). (front ++ after ∷ []) ++ after_allotment stage (drop (i + 1) states) (stage_times d stage (drop (i + 1) states) ns) ≡ whole) left moved

-- ---- units keep their lines, and their number

fit-cons : (d : Declaration) (state : UnitState) (states : List UnitState) → UnitFits d.season state.unit → AreFitting d states → AreFitting d (state ∷ states)
fit-cons d state states one others zero e lt = one
fit-cons d state states one others (suc k) e lt = others k e (omega arith)

pub after_allotment-fit : (d : Declaration) (stage : ℕ) (states : List UnitState) (times : List Times) → AreFitting d states → AreFitting d (after_allotment stage states times)
after_allotment-fit d stage [] times fit = fit
after_allotment-fit d stage (state ∷ states) [] fit = fit
after_allotment-fit d stage (state ∷ states) (next ∷ times) fit =
    let rest : AreFitting d states = λ k e lt. fit (suc k) e (omega arith) in
    let head : UnitFits d.season state.unit = fit 0 state (omega arith) in
    elim (is_due_state stage state) as (λ b. AreFitting d (with_by stage state states b (next ∷ times))) [
      | true ↦ fit-cons d (record state { given = Some next }) (after_allotment stage states times) head (after_allotment-fit d stage states times rest)
      | false ↦ fit-cons d state (after_allotment stage states (next ∷ times)) head (after_allotment-fit d stage states (next ∷ times) rest)
    ]

pub after_stage-fit : (d : Declaration) (stage : ℕ) (states : List UnitState) (choice : Option (List ℕ)) → AreFitting d states → AreFitting d (after_stage d stage states choice)
after_stage-fit d stage states None fit = fit
after_stage-fit d stage states (Some numbers) fit = after_allotment-fit d stage states (stage_times d stage states numbers) fit

pub after_stage-length : (d : Declaration) (stage : ℕ) (states : List UnitState) (choice : Option (List ℕ)) → length (after_stage d stage states choice) ≡ length states
after_stage-length d stage states None = refl
after_stage-length d stage states (Some numbers) = after_allotment-length stage states (stage_times d stage states numbers)

pub first_states-fit : (d : Declaration) (units : List SlotUnit) → All (UnitFits d.season) units → AreFitting d (first_states units)
first_states-fit d [] fit k e lt = absurd (omega arith)
first_states-fit d (unit ∷ units) fit zero e lt = fit 0 unit (omega arith)
first_states-fit d (unit ∷ units) fit (suc k) e lt = first_states-fit d units (λ i u l. fit (suc i) u (omega arith)) k e (omega arith)

pub first_states-length : (units : List SlotUnit) → length (first_states units) ≡ length units
first_states-length [] = refl
first_states-length (unit ∷ units) = ap suc (first_states-length units)

pub after_stages-on : (d : Declaration) (stage : ℕ) (states after whole : List UnitState) (choices : List (Option (List ℕ))) (i : ℕ) → i < length choices →
    after ≡ after_stage d stage states (get_or choices i None) → after_stages d stage states (drop i choices) ≡ whole → after_stages d (stage + 1) after (drop (i + 1) choices) ≡ whole
after_stages-on d stage states after whole choices i lt is all =
    let choice : Option (List ℕ) = get_or choices i None in
    let head : drop i choices ≡ choice ∷ drop (i + 1) choices = drop-cons choices i None lt in
    let next : suc stage ≡ stage + 1 = omega arith in
    let step : after_stages d (suc stage) (after_stage d stage states choice) (drop (i + 1) choices) ≡ whole = sym (ap (λ (cs : List (Option (List ℕ))). after_stages d stage states cs) head) ∙ all in
    ap (λ (s : List UnitState). after_stages d (stage + 1) s (drop (i + 1) choices)) is
    ∙ ap (λ (k : ℕ). after_stages d k (after_stage d stage states choice) (drop (i + 1) choices)) (sym next) ∙ step

-- ---- one choice more

after-one : (d : Declaration) (stage : ℕ) (states : List UnitState) (choices : List (Option (List ℕ))) (choice : Option (List ℕ)) →
    after_stages d stage states (choices ++ choice ∷ []) ≡ after_stage d (length choices + stage) (after_stages d stage states choices) choice
after-one d stage states [] choice =
    let count : stage ≡ 0 + stage = omega arith in
    ap (λ (k : ℕ). after_stage d k states choice) count
after-one d stage states (one ∷ choices) choice =
    let count : length choices + suc stage ≡ suc (length choices) + stage = omega arith in
    after-one d (suc stage) (after_stage d stage states one) choices choice
    ∙ ap (λ (k : ℕ). after_stage d k (after_stages d (suc stage) (after_stage d stage states one) choices) choice) count

pub states-one : (d : Declaration) (units : List SlotUnit) (choices : List (Option (List ℕ))) (choice : Option (List ℕ)) →
    states_after d units (choices ++ choice ∷ []) ≡ after_stage d (length choices + 1) (states_after d units choices) choice
states-one d units choices choice = after-one d 1 (first_states units) choices choice

pub follows-late : (earlier : List (Option (List ℕ))) (choice : Option (List ℕ)) → 2 < length earlier + 1 → may_follow (earlier ++ choice ∷ []) ≡ may_follow earlier
follows-late [] choice late = absurd (omega (arith, late))
follows-late (one ∷ []) choice late = absurd (omega (arith, late))
follows-late (one ∷ other ∷ earlier) choice late = refl

pub follows-early : (earlier : List (Option (List ℕ))) (choice : Option (List ℕ)) → length earlier + 1 ≤ 2 → may_follow (earlier ++ choice ∷ []) ≡ (may_follow earlier && is_some choice)
follows-early [] None early = refl
follows-early [] (Some x) early = refl
follows-early (None ∷ []) choice early = refl
follows-early (Some y ∷ []) None early = refl
follows-early (Some y ∷ []) (Some x) early = refl
follows-early (one ∷ other ∷ earlier) choice early = absurd (omega (arith, early))
