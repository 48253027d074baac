-- The reasons that are found by the problem of a stage, and counts of the other units, are those of
-- the stage.
use Rattle.std.proofs.Common.{◌≡◌, ℕ, zero, suc, ◌+◌, ◌<◌, Bool, true, false, cond, refl, sym, ◌∙◌, ap, subst, arith, List, [], ◌∷◌, ◌++◌, length, get_or, map}
use Rattle.std.specs.Prelude.{Option, Some, None, All, Contains, IfSome, filter, slice_get, slice_index, nat_lt, if◌then◌else◌}
use Rattle.std.specs.List.{AllZip, range_with_len, flat_map}
use Rattle.std.proofs.lemmas.Option.{slice_get_within}
use Rattle.std.proofs.lemmas.List.Elements.{All-nil, All-cons, All-head, All-filter}
use Rattle.season_days.specs.declared.declaration.Declaration.{Declaration}
use Rattle.season_days.specs.Capacity.{Capacity, capacity_of, declared_resources}
use Rattle.scr_reader.specs.declared.line.Line.{Line}
use Rattle.choice_problem.specs.declared.problems.Alt.{Alt}
use Rattle.choice_problem.specs.Problems.{ProblemView, ChooserView, chooser_at, alt_at, alt_uses, alt_count, unit_count, resource_count, limit_of}
use Rattle.series_model.specs.declared.unit.Unit.{Unit as SlotUnit}
use Rattle.series_model.specs.declared.times.Times.{Times}
use Rattle.series_model.specs.declared.state.UnitState.{UnitState}
use Rattle.series_model.specs.Options.{options_of}
use Rattle.series_model.specs.Displacement.{displacement_of}
use Rattle.series_model.specs.Stages.{stage_units, stage_limit}
use Rattle.wasg_stages.specs.StageProblems.{IsAltOf, IsChooserOf, IsAllotmentProblem}
use Rattle.report_lines.specs.Peaks.{unit_load, earlier_load}
use Rattle.season_report.specs.declared.barred.Barred.{Barred}
use Rattle.season_report.specs.declared.barred.Cheaper.{Cheaper}
use Rattle.season_report.specs.declared.barred.Row.{Row}
use Rattle.season_report.specs.declared.told.Tried.{Tried}
use Rattle.season_report.specs.Reasons.{AllottedStage, limit_in, others_load, is_passed, passed_by, barred_by, barred_dates, bar_of, is_cheaper, cheaper_of, cheaper_than}
use Rattle.season_report.specs.Rows.{rows_of, row_by, row_line, unit_reasons}
use Rattle.season_report.specs.Private.{IsToldStage, told_stage, is_above_with, found_passed, found_barred, found_reason, found_cheaper, found_from, found_row, found_reasons}
use Rattle.season_report.proofs.RowLemmas.{KeepsDates, rows_keep, same_lines}

-- ---- at the same place

at_zip : {A B : Type 0} (R : A → B → Type 0) (xs : List A) (ys : List B) (i : ℕ) (x : A) (e : B) → AllZip R xs ys → slice_get xs i ≡ Some x → R x (get_or ys i e)
at_zip R [] ys i x e all at = cc
at_zip R (y ∷ xs) [] i x e all at = absurd all
at_zip R (y ∷ xs) (z ∷ ys) zero x e all at =
    let same : y ≡ x = cc in
    subst (λ w. R w z) same all.0
at_zip R (y ∷ xs) (z ∷ ys) (suc i) x e all at = at_zip R xs ys i x e all.1 at

zip_length : {A B : Type 0} (R : A → B → Type 0) (xs : List A) (ys : List B) → AllZip R xs ys → length ys ≡ length xs
zip_length R [] [] all = refl
zip_length R [] (y ∷ ys) all = absurd all
zip_length R (x ∷ xs) [] all = absurd all
zip_length R (x ∷ xs) (y ∷ ys) all = ap suc (zip_length R xs ys all.1)

abbrev no_chooser : ChooserView
no_chooser = record { parts = []; alts = [] }

abbrev no_alt : Alt
no_alt = record { cost = 0; one = None; two = None }

pub chooser_there : (d : Declaration) (units : List SlotUnit) (limit : ℕ → ℕ) (p : ProblemView) (place : ℕ) (unit : SlotUnit) →
    IsAllotmentProblem d units limit p → slice_get units place ≡ Some unit → IsChooserOf d unit (chooser_at p place)
chooser_there d units limit p place unit problem at = at_zip (IsChooserOf d) units p.units place unit no_chooser problem.units_are at

pub place_there : (d : Declaration) (units : List SlotUnit) (limit : ℕ → ℕ) (p : ProblemView) (place : ℕ) (unit : SlotUnit) →
    IsAllotmentProblem d units limit p → slice_get units place ≡ Some unit → place < unit_count p
place_there d units limit p place unit problem at =
    omega (arith, slice_get_within units place unit at, zip_length (IsChooserOf d) units p.units problem.units_are)

pub alts_there : (d : Declaration) (units : List SlotUnit) (limit : ℕ → ℕ) (p : ProblemView) (place : ℕ) (unit : SlotUnit) →
    IsAllotmentProblem d units limit p → slice_get units place ≡ Some unit → length (options_of d unit) ≡ alt_count p place
alts_there d units limit p place unit problem at =
    sym (zip_length (IsAltOf d unit (chooser_at p place)) (options_of d unit) (chooser_at p place).alts (chooser_there d units limit p place unit problem at))

pub alt_there : (d : Declaration) (units : List SlotUnit) (limit : ℕ → ℕ) (p : ProblemView) (place : ℕ) (unit : SlotUnit) (alt : ℕ) (times : Times) →
    IsAllotmentProblem d units limit p → slice_get units place ≡ Some unit → slice_get (options_of d unit) alt ≡ Some times →
    IsAltOf d unit (chooser_at p place) times (alt_at (chooser_at p place) alt)
alt_there d units limit p place unit alt times problem at is =
    at_zip (IsAltOf d unit (chooser_at p place)) (options_of d unit) (chooser_at p place).alts alt times no_alt (chooser_there d units limit p place unit problem at) is

-- ---- resources

pub filter_below : (p q : ℕ → Bool) (start n : ℕ) → ((r : ℕ) → r < start + n → p r ≡ q r) → filter p (range_with_len start n) ≡ filter q (range_with_len start n)
filter_below p q start zero same = refl
filter_below p q start (suc n) same =
    let rest : filter p (range_with_len (start + 1) n) ≡ filter q (range_with_len (start + 1) n) = filter_below p q (start + 1) n (λ r lt. same r (omega arith)) in
    let head : p start ≡ q start = same start (omega arith) in
    ap (λ (b : Bool). cond b (start ∷ filter p (range_with_len (start + 1) n)) (filter p (range_with_len (start + 1) n))) head
    ∙ ap (λ (rs : List ℕ). cond (q start) (start ∷ rs) rs) rest

pub all_below : (start n : ℕ) → All (λ r. r < start + n) (range_with_len start n)
all_below start zero = All-nil (λ r. r < start + 0)
all_below start (suc n) =
    All-cons (λ r. r < start + suc n) start (range_with_len (start + 1) n) (omega arith)
    (λ k e lt. let below = all_below (start + 1) n k e lt in omega arith)

-- ---- the counts have the other units of a stage

pub record IsBeside (t : Tried) (states : List UnitState) (choice : List ℕ) (place : ℕ) (unit : SlotUnit) (others : List ℕ) : Type 0 where
  pub told : IsToldStage t states
  pub at : slice_get (stage_units t.stage states) place ≡ Some unit
  pub each : (r : ℕ) → r < declared_resources (capacity_of t.declaration.now) → slice_index others r ≡ others_load (told_stage t states choice) place r

above_same : (t : Tried) (states : List UnitState) (choice : List ℕ) (place : ℕ) (unit : SlotUnit) (others : List ℕ) (alt : ℕ) (times : Times) (r : ℕ) →
    IsBeside t states choice place unit others → slice_get (options_of t.declaration.now unit) alt ≡ Some times → r < declared_resources (capacity_of t.declaration.now) →
    is_above_with t.problem.now place alt others r ≡ is_passed (told_stage t states choice) place unit times r
above_same t states choice place unit others alt times r is at lt =
    let d = t.declaration.now in
    let alternative = alt_there d (stage_units t.stage states) (stage_limit d t.stage states) t.problem.now place unit alt times is.told.problem is.at at in
    let limit : limit_of t.problem.now r ≡ limit_in (told_stage t states choice) r = is.told.problem.limits r lt in
    let other : slice_index others r ≡ others_load (told_stage t states choice) place r = is.each r lt in
    let uses : alt_uses t.problem.now place alt r ≡ unit_load d unit times r = alternative.uses r in
    ap (λ (n : ℕ). nat_lt n (slice_index others r + alt_uses t.problem.now place alt r)) limit
    ∙ ap (λ (n : ℕ). nat_lt (limit_in (told_stage t states choice) r) (n + alt_uses t.problem.now place alt r)) other
    ∙ ap (λ (n : ℕ). nat_lt (limit_in (told_stage t states choice) r) (others_load (told_stage t states choice) place r + n)) uses

passed_same : (t : Tried) (states : List UnitState) (choice : List ℕ) (place : ℕ) (unit : SlotUnit) (others : List ℕ) (alt : ℕ) (times : Times) →
    IsBeside t states choice place unit others → slice_get (options_of t.declaration.now unit) alt ≡ Some times →
    found_passed t.problem.now place alt others ≡ passed_by (told_stage t states choice) place unit times
passed_same t states choice place unit others alt times is at =
    let n = declared_resources (capacity_of t.declaration.now) in
    let count : resource_count t.problem.now ≡ n = is.told.problem.resources in
    ap (λ (k : ℕ). filter (is_above_with t.problem.now place alt others) (range_with_len 0 k)) count
    ∙ filter_below (is_above_with t.problem.now place alt others) (is_passed (told_stage t states choice) place unit times) 0 n
    (λ r lt. above_same t states choice place unit others alt times r is at (omega (arith, lt)))

barred_same : (t : Tried) (place : ℕ) (unit : SlotUnit) (times : Times) (alt : ℕ) (resources : List ℕ) → ((r : ℕ) → alt_uses t.problem.now place alt r ≡ unit_load t.declaration.now unit times r) →
    found_barred t place unit.request times alt resources ≡ barred_by t.declaration.now unit times resources
barred_same t place unit times alt [] uses = refl
barred_same t place unit times alt (r ∷ resources) uses =
    ap (λ (n : ℕ). Some (record { resource = r; uses = n; dates = barred_dates t.declaration.now unit.request times (r ∷ resources) })) (uses r)

pub reason_same : (t : Tried) (states : List UnitState) (choice : List ℕ) (place : ℕ) (unit : SlotUnit) (others : List ℕ) (alt : ℕ) (times : Times) →
    IsBeside t states choice place unit others → slice_get (options_of t.declaration.now unit) alt ≡ Some times →
    found_reason t place unit.request times alt others ≡ bar_of (told_stage t states choice) place unit times
reason_same t states choice place unit others alt times is at =
    let d = t.declaration.now in
    let alternative = alt_there d (stage_units t.stage states) (stage_limit d t.stage states) t.problem.now place unit alt times is.told.problem is.at at in
    ap (found_barred t place unit.request times alt) (passed_same t states choice place unit others alt times is at)
    ∙ barred_same t place unit times alt (passed_by (told_stage t states choice) place unit times) (λ r. alternative.uses r)

-- ---- alternatives that cost less

cheaper_same : (t : Tried) (states : List UnitState) (choice : List ℕ) (place : ℕ) (unit : SlotUnit) (others : List ℕ) (alt : ℕ) (times : Times) →
    IsBeside t states choice place unit others → slice_get (options_of t.declaration.now unit) alt ≡ Some times →
    found_cheaper t place unit.request times alt others ≡ cheaper_of (told_stage t states choice) place unit times
cheaper_same t states choice place unit others alt times is at =
    let d = t.declaration.now in
    let alternative = alt_there d (stage_units t.stage states) (stage_limit d t.stage states) t.problem.now place unit alt times is.told.problem is.at at in
    ap (λ (n : ℕ). record { times = times; cost = n; barred = found_reason t place unit.request times alt others }) alternative.cost
    ∙ ap (λ (o : Option Barred). record { times = times; cost = displacement_of d unit times; barred = o }) (reason_same t states choice place unit others alt times is at)

from_same : (t : Tried) (states : List UnitState) (choice : List ℕ) (place : ℕ) (unit : SlotUnit) (others : List ℕ) (given : Times) (alt : ℕ) (options : List Times) →
    IsBeside t states choice place unit others →
    ((k : ℕ) (times : Times) → slice_get options k ≡ Some times → slice_get (options_of t.declaration.now unit) (alt + k) ≡ Some times) →
    found_from t place unit.request (displacement_of t.declaration.now unit given) others alt options
    ≡ map (cheaper_of (told_stage t states choice) place unit) (filter (is_cheaper t.declaration.now unit given) options)
from_same t states choice place unit others given alt [] is there = refl
from_same t states choice place unit others given alt (times ∷ options) is there =
    let d = t.declaration.now in
    let a = told_stage t states choice in
    let cost = displacement_of d unit given in
    let here : alt + 0 ≡ alt = omega arith in
    let at : slice_get (options_of d unit) alt ≡ Some times = subst (λ (k : ℕ). slice_get (options_of d unit) k ≡ Some times) here (there 0 times refl) in
    let alternative = alt_there d (stage_units t.stage states) (stage_limit d t.stage states) t.problem.now place unit alt times is.told.problem is.at at in
    let rest : found_from t place unit.request cost others (suc alt) options ≡ map (cheaper_of a place unit) (filter (is_cheaper d unit given) options) =
    from_same t states choice place unit others given (suc alt) options is
    (λ k its e. let next : alt + suc k ≡ suc alt + k = omega arith in subst (λ (j : ℕ). slice_get (options_of d unit) j ≡ Some its) next (there (suc k) its e)) in
    ap (λ (n : ℕ). (if nat_lt n cost then found_cheaper t place unit.request times alt others ∷ [] else []) ++ found_from t place unit.request cost others (suc alt) options) alternative.cost
    ∙ ap (λ (c : Cheaper). (if nat_lt (displacement_of d unit times) cost then c ∷ [] else []) ++ found_from t place unit.request cost others (suc alt) options) (cheaper_same t states choice place unit others alt times is at)
    ∙ ap (λ (cs : List Cheaper). (if nat_lt (displacement_of d unit times) cost then cheaper_of a place unit times ∷ [] else []) ++ cs) rest
    ∙ elim (nat_lt (displacement_of d unit times) cost) as (λ b. (if b then cheaper_of a place unit times ∷ [] else []) ++ map (cheaper_of a place unit) (filter (is_cheaper d unit given) options)
    ≡ map (cheaper_of a place unit) (cond b (times ∷ filter (is_cheaper d unit given) options) (filter (is_cheaper d unit given) options))) [
      | true ↦ refl
      | false ↦ refl
    ]

-- ---- the resource that a line names is there

barred_has : (P : ℕ → Type 0) (d : Declaration) (unit : SlotUnit) (times : Times) (resources : List ℕ) → All P resources →
    IfSome (barred_by d unit times resources) (λ (b : Barred). P b.resource × (b.uses ≡ unit_load d unit times b.resource))
barred_has P d unit times [] all = tt
barred_has P d unit times (r ∷ resources) all = (All-head P r resources all, refl)

pub reason_has : (P : ℕ → Type 0) (a : AllottedStage) (place : ℕ) (unit : SlotUnit) (times : Times) → All P (passed_by a place unit times) →
    IfSome (bar_of a place unit times) (λ (b : Barred). P b.resource × (b.uses ≡ unit_load a.declaration unit times b.resource))
reason_has P a place unit times all = barred_has P a.declaration unit times (passed_by a place unit times) all

pub passed_below : (a : AllottedStage) (place : ℕ) (unit : SlotUnit) (times : Times) → All (λ r. r < declared_resources (capacity_of a.declaration)) (passed_by a place unit times)
passed_below a place unit times =
    let n = declared_resources (capacity_of a.declaration) in
    All-filter (is_passed a place unit times) (λ r. r < n) (range_with_len 0 n) (λ k e lt. let below = all_below 0 n k e lt in omega (arith, below))

-- what holds of each alternative holds of each that costs less
pub all_cheaper : (Q : Option Barred → Type 0) (a : AllottedStage) (place : ℕ) (unit : SlotUnit) (options : List Times) (p : Times → Bool) →
    ((times : Times) → Contains options times → p times ≡ true → Q (bar_of a place unit times)) →
    All (λ (c : Cheaper). Q c.barred) (map (cheaper_of a place unit) (filter p options))
all_cheaper Q a place unit [] p each = All-nil (λ (c : Cheaper). Q c.barred)
all_cheaper Q a place unit (times ∷ options) p each =
    let rest = all_cheaper Q a place unit options p (λ its is passes. each its (suc is.0, omega (arith, is.1), is.2) passes) in
    let own : p times ≡ true → Q (bar_of a place unit times) = each times (0, omega arith, refl) in
    (elim (p times) as (λ b. (b ≡ true → Q (bar_of a place unit times)) → All (λ (c : Cheaper). Q c.barred) (map (cheaper_of a place unit) (cond b (times ∷ filter p options) (filter p options)))) [
      | true ↦ λ h. All-cons (λ (c : Cheaper). Q c.barred) (cheaper_of a place unit times) (map (cheaper_of a place unit) (filter p options)) (h refl) rest
      | false ↦ λ h. rest
    ]) own

abbrev IsThere : ℕ → Option Barred → Type 0
IsThere n barred = IfSome barred (λ (b : Barred). b.resource < n)

there_keeps : (n : ℕ) → KeepsDates (IsThere n)
there_keeps n None other is = is
there_keeps n (Some one) None is = is
there_keeps n (Some one) (Some other) is = is

there_reason : (n : ℕ) (o : Option Barred) (u : ℕ → ℕ) → IfSome o (λ (b : Barred). (b.resource < n) × (b.uses ≡ u b.resource)) → IsThere n o
there_reason n None u is = tt
there_reason n (Some b) u is = is.0

pub rows_there : (a : AllottedStage) (place : ℕ) (unit : SlotUnit) (given : Times) →
    All (λ (row : Row). IsThere (declared_resources (capacity_of a.declaration)) row.barred) (rows_of unit.request (cheaper_than a place unit given))
rows_there a place unit given =
    let n = declared_resources (capacity_of a.declaration) in
    rows_keep (IsThere n) unit.request (cheaper_than a place unit given) (there_keeps n)
    (all_cheaper (IsThere n) a place unit (options_of a.declaration unit) (is_cheaper a.declaration unit given)
    (λ times in_list is. there_reason n (bar_of a place unit times) (unit_load a.declaration unit times) (reason_has (λ r. r < n) a place unit times (passed_below a place unit times))))

-- ---- their text

-- one line, by the three numbers of its resource
abbrev row_with : Capacity → ℕ → ℕ → ℕ → ℕ → Line → Row → Barred → List ℕ
row_with c limit earlier others stage line row b = row_by c (λ _. limit) (λ _. earlier) (λ _. others) stage line row (Some b)

row_same : (c k : Capacity) (l m e f o q : ℕ → ℕ) (n stage : ℕ) (line : Line) (row : Row) (barred : Option Barred) → c ≡ k →
    ((r : ℕ) → r < n → l r ≡ m r) → ((r : ℕ) → r < n → e r ≡ f r) → ((r : ℕ) → r < n → o r ≡ q r) → IsThere n barred →
    row_by c l e o stage line row barred ≡ row_by k m f q stage line row barred
row_same c k l m e f o q n stage line row None same limits earlier others there = refl
row_same c k l m e f o q n stage line row (Some b) same limits earlier others there =
    ap (λ (w : Capacity). row_with w (l b.resource) (e b.resource) (o b.resource) stage line row b) same
    ∙ ap (λ (x : ℕ). row_with k x (e b.resource) (o b.resource) stage line row b) (limits b.resource there)
    ∙ ap (λ (x : ℕ). row_with k (m b.resource) x (o b.resource) stage line row b) (earlier b.resource there)
    ∙ ap (λ (x : ℕ). row_with k (m b.resource) (f b.resource) x stage line row b) (others b.resource there)

pub reasons_same : (t : Tried) (states : List UnitState) (choice : List ℕ) (place : ℕ) (unit : SlotUnit) (others : List ℕ) (given : Times) (cost : ℕ) → cost ≡ displacement_of t.declaration.now unit given →
    IsBeside t states choice place unit others →
    found_reasons t place unit.request cost others (options_of t.declaration.now unit) ≡ unit_reasons (told_stage t states choice) place unit given
reasons_same t states choice place unit others given cost costs is =
    let d = t.declaration.now in
    let a = told_stage t states choice in
    let n = declared_resources (capacity_of d) in
    let alternatives : found_from t place unit.request cost others 0 (options_of d unit) ≡ cheaper_than a place unit given =
    ap (λ (k : ℕ). found_from t place unit.request k others 0 (options_of d unit)) costs
    ∙ from_same t states choice place unit others given 0 (options_of d unit) is
    (λ k times e. let here : k ≡ 0 + k = omega arith in subst (λ (j : ℕ). slice_get (options_of d unit) j ≡ Some times) here e) in
    ap (λ (cs : List Cheaper). flat_map (found_row t others unit.request) (rows_of unit.request cs)) alternatives
    ∙ same_lines (λ (row : Row). IsThere n row.barred) (found_row t others unit.request) (row_line a place unit.request) (rows_of unit.request (cheaper_than a place unit given))
    (rows_there a place unit given)
    (λ row there. row_same t.windows.now (capacity_of d) (limit_of t.problem.now) (limit_in a) (slice_index t.earlier.now) (earlier_load d states) (slice_index others) (others_load a place) n t.stage unit.request row row.barred
    is.told.settled.windows is.told.problem.limits is.told.earlier is.each there)
