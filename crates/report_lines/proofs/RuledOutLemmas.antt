-- Where a load is above a limit there is a line; and the least loads of a stage against its allotments.
use Rattle.std.proofs.Common.{◌≡◌, ℕ, zero, suc, ◌+◌, ◌-◌, ◌*◌, ◌/◌, ◌%◌, ◌<◌, ◌≤◌, Bool, true, false, cond, refl, sym, ◌∙◌, ap, subst, arith, List, [], ◌∷◌, ◌++◌, length, map, Option, Some, None, inl, inr}
use Rattle.std.specs.Prelude.{All, Contains, codes, filter, is_some, if◌then◌else◌, slice_get, sum_by}
use Rattle.std.specs.Fmt.{decimal}
use Rattle.std.specs.List.{range_with_len, flat_map}
use Rattle.std.proofs.lemmas.Bool.{cases_lt, ltb-true, ltb-false}
use Rattle.std.proofs.lemmas.Nat.{mul-add-lt, div-add-mod', div_below, mod_below}
use Rattle.std.proofs.lemmas.List.Elements.{All-nil, All-cons, All-head, All-tail}
use Rattle.std.proofs.lemmas.List.Sums.{sum_by-append, sum_by-cons}
use Rattle.std.proofs.lemmas.Option.{slice_get-get_or}
use Rattle.season_days.specs.Seasons.{date_count}
use Rattle.season_days.specs.declared.declaration.Declaration.{Declaration}
use Rattle.season_days.specs.declared.declaration.Night.{Night}
use Rattle.season_days.specs.declared.declaration.Rule.{Rule}
use Rattle.season_days.specs.Capacity.{Capacity, capacity_of, declared_resources, start_of, starts_of, windows_of}
use Rattle.capacity_windows.specs.Windows.{window_load}
use Rattle.capacity_windows.specs.declared.movement.Movement.{Movement}
use Rattle.series_model.specs.declared.group.Group.{Group}
use Rattle.series_model.specs.declared.group.Group.TheVariants.{F, R, L, B, N}
use Rattle.series_model.specs.declared.unit.Unit.{Unit as SlotUnit}
use Rattle.series_model.specs.declared.times.Times.{Times}
use Rattle.series_model.specs.declared.state.UnitState.{UnitState}
use Rattle.series_model.specs.Options.{options_of, options_by, line_times}
use Rattle.series_model.specs.Movements.{movements_of}
use Rattle.series_model.specs.Allotments.{AreAlternatives, IsFeasibleAllotment, HasNoAllotment, allotted_movements, allotted_load}
use Rattle.series_model.specs.Stages.{first_states, is_due, stage_units, stage_limit}
use Rattle.report_lines.specs.declared.names.WindowName.TheVariants.{Window}
use Rattle.report_lines.specs.Words.{name_words}
use Rattle.report_lines.specs.Peaks.{Excess, is_above, excess_at, greatest_from, window_at, days_above, excess_days, excess_line, rule_excess, quota_excess, excess_from, excess_lines, unit_load, least_number, least_unit_load, least_units_load, stage_excess, over_lines}

-- ---- lists that are empty

nil_left : {X : Type 0} (xs ys : List X) → xs ++ ys ≡ [] → xs ≡ []
nil_left {X} [] ys is = refl
nil_left {X} (x ∷ xs) ys is = cc

nil_right : {X : Type 0} (xs ys : List X) → xs ++ ys ≡ [] → ys ≡ []
nil_right {X} [] ys is = is
nil_right {X} (x ∷ xs) ys is = cc

nil_both : {X : Type 0} (xs ys : List X) → xs ≡ [] → ys ≡ [] → xs ++ ys ≡ []
nil_both {X} xs ys one two = ap (λ (zs : List X). zs ++ ys) one ∙ two

flat_none : (f : ℕ → List ℕ) (start n : ℕ) → ((k : ℕ) → start ≤ k → k < start + n → f k ≡ []) → flat_map f (range_with_len start n) ≡ []
flat_none f start zero none = refl
flat_none f start (suc n) none =
    nil_both (f start) (flat_map f (range_with_len (start + 1) n)) (none start (omega arith) (omega arith))
    (flat_none f (start + 1) n (λ k from to. none k (omega (arith, from)) (omega (arith, to))))

flat_each : (f : ℕ → List ℕ) (start n k : ℕ) → flat_map f (range_with_len start n) ≡ [] → start ≤ k → k < start + n → f k ≡ []
flat_each f start zero k is from to = absurd (omega (arith, from, to))
flat_each f start (suc n) k is from to =
    elim (cases_lt start k) as (λ w. f k ≡ []) [
      | inl above ↦ flat_each f (start + 1) n k (nil_right (f start) (flat_map f (range_with_len (start + 1) n)) is) (omega (arith, above)) (omega (arith, to))
      | inr below ↦ let same : start ≡ k = omega (arith, below, from) in subst (λ (m : ℕ). f m ≡ []) same (nil_left (f start) (flat_map f (range_with_len (start + 1) n)) is)
    ]

filter_none : (p : ℕ → Bool) (start n : ℕ) → ((k : ℕ) → start ≤ k → k < start + n → p k ≡ false) → filter p (range_with_len start n) ≡ []
filter_none p start zero none = refl
filter_none p start (suc n) none = rw (none start (omega arith) (omega arith)) (filter_none p (start + 1) n (λ k from to. none k (omega (arith, from)) (omega (arith, to))))

filter_each : (p : ℕ → Bool) (start n : ℕ) → filter p (range_with_len start n) ≡ [] → (k : ℕ) → start ≤ k → k < start + n → p k ≡ false
filter_each p start zero none k from to = absurd (omega (arith, from, to))
filter_each p start (suc n) none k from to =
    (elim (p start) as (λ b. p start ≡ b → cond b (start ∷ filter p (range_with_len (start + 1) n)) (filter p (range_with_len (start + 1) n)) ≡ [] → p k ≡ false) [
      | true ↦ λ is no. cc
      | false ↦ λ is no.
          elim (cases_lt start k) as (λ w. p k ≡ false) [
            | inl above ↦ filter_each p (start + 1) n no k (omega (arith, above)) (omega (arith, to))
            | inr below ↦ let same : start ≡ k = omega (arith, below, from) in subst (λ (m : ℕ). p m ≡ false) same is
          ]
    ]) refl none

-- ---- the lines of a capacity line

days_none : (c : Capacity) (e : Excess) (line : ℕ) (rule : Rule) (first start : ℕ) (days : List ℕ) → excess_days c e line rule first start days ≡ [] → days ≡ []
days_none c e line rule first start [] is = refl
days_none c e line rule first start (day ∷ days) is =
    let best = greatest_from (λ at. excess_at e (window_at c rule first start at)) day days in
    let rest : List ℕ = name_words c.season (Window line best (start_of c.step rule start))
    ++ (codes " DAYS " ++ (decimal (suc (length days)) ++ (e.told (window_at c rule first start best) ++ 10 ∷ []))) in
    let no : 32 ∷ rest ≡ [] = nil_right e.word (32 ∷ rest) is in
    cc

abbrev NoneAbove : Excess → ℕ → ℕ → Type 0
NoneAbove e from to = (r : ℕ) → from ≤ r → r < to → is_above e r ≡ false

rule_none : (c : Capacity) (e : Excess) (line : ℕ) (rule : Rule) (first : ℕ) → NoneAbove e first (first + windows_of c rule) → rule_excess c e line rule first ≡ []
rule_none c e line rule first none =
    let starts = starts_of c.step rule in
    let n = date_count c.season in
    flat_none (excess_line c e line rule first) 0 starts (λ start from to.
    let empty : days_above c e rule first start ≡ [] = filter_none (λ (day : ℕ). is_above e (window_at c rule first start day)) 0 n (λ day since until.
    let below : day * starts + start < starts * n = mul-add-lt day starts start n (omega (arith, until)) (omega (arith, to)) in
    none (window_at c rule first start day) (omega arith) (omega (arith, below))) in
    ap (excess_days c e line rule first start) empty)

rule_each : (c : Capacity) (e : Excess) (line : ℕ) (rule : Rule) (first : ℕ) → rule_excess c e line rule first ≡ [] → NoneAbove e first (first + windows_of c rule)
rule_each c e line rule first is r from to =
    let starts = starts_of c.step rule in
    let n = date_count c.season in
    let k = r - first in
    let some : 0 < starts = omega arith in
    let below : k < n * starts = omega (arith, from, to) in
    let start = k % starts in
    let day = k / starts in
    let column : start < starts = mod_below k starts some in
    let row : day < n = div_below k starts n some below in
    let place : window_at c rule first start day ≡ r = omega (arith, from, div-add-mod' k starts) in
    let line_empty : excess_line c e line rule first start ≡ [] = flat_each (excess_line c e line rule first) 0 starts start is (omega arith) (omega (arith, column)) in
    let empty = days_none c e line rule first start (days_above c e rule first start) line_empty in
    let not_above : is_above e (window_at c rule first start day) ≡ false = filter_each (λ (at : ℕ). is_above e (window_at c rule first start at)) 0 n empty day (omega arith) (omega (arith, row)) in
    subst (λ (m : ℕ). is_above e m ≡ false) place not_above

-- ---- all lines

abbrev quota_count : Option Night → ℕ
quota_count night = if is_some night then 1 else 0

quota_none : (e : Excess) (night : Option Night) (r : ℕ) → NoneAbove e r (r + quota_count night) → quota_excess e night r ≡ []
quota_none e None r none = refl
quota_none e (Some night) r none = rw (none r (omega arith) (omega arith)) refl

quota_each : (e : Excess) (night : Option Night) (r : ℕ) → quota_excess e night r ≡ [] → NoneAbove e r (r + quota_count night)
quota_each e None r is k from to = absurd (omega (arith, from, to))
quota_each e (Some night) r is k from to =
    let same : r ≡ k = omega (arith, from, to) in
    subst (λ (m : ℕ). is_above e m ≡ false) same (
    (elim (is_above e r) as (λ b. is_above e r ≡ b → cond b (e.word ++ (codes " NIGHT" ++ (e.told r ++ 10 ∷ []))) [] ≡ [] → is_above e r ≡ false) [
      | true ↦ λ yes no. let more : codes " NIGHT" ++ (e.told r ++ 10 ∷ []) ≡ [] = nil_right e.word (codes " NIGHT" ++ (e.told r ++ 10 ∷ [])) no in cc
      | false ↦ λ not no. not
    ]) refl is)

from_none : (c : Capacity) (e : Excess) (line : ℕ) (rules : List Rule) (first : ℕ) → NoneAbove e first (first + sum_by (windows_of c) rules + quota_count c.night) → excess_from c e line rules first ≡ []
from_none c e line [] first none = quota_none e c.night first (λ r from to. none r from (omega (arith, to)))
from_none c e line (rule ∷ rules) first none =
    let sum = sum_by-cons (windows_of c) rule rules in
    nil_both (rule_excess c e line rule first) (excess_from c e (suc line) rules (first + windows_of c rule))
    (rule_none c e line rule first (λ r from to. none r from (omega (arith, to, sum))))
    (from_none c e (suc line) rules (first + windows_of c rule) (λ r from to. none r (omega (arith, from)) (omega (arith, to, sum))))

from_each : (c : Capacity) (e : Excess) (line : ℕ) (rules : List Rule) (first : ℕ) → excess_from c e line rules first ≡ [] → NoneAbove e first (first + sum_by (windows_of c) rules + quota_count c.night)
from_each c e line [] first is r from to = quota_each e c.night first is r from (omega (arith, to))
from_each c e line (rule ∷ rules) first is r from to =
    let sum = sum_by-cons (windows_of c) rule rules in
    let rest = excess_from c e (suc line) rules (first + windows_of c rule) in
    elim (cases_lt r (first + windows_of c rule)) as (λ w. is_above e r ≡ false) [
      | inl here ↦ rule_each c e line rule first (nil_left (rule_excess c e line rule first) rest is) r from here
      | inr later ↦ from_each c e (suc line) rules (first + windows_of c rule) (nil_right (rule_excess c e line rule first) rest is) r (omega (arith, later)) (omega (arith, to, sum))
    ]

pub none_told : (c : Capacity) (e : Excess) → ((r : ℕ) → r < declared_resources c → is_above e r ≡ false) → excess_lines c e ≡ []
none_told c e none = from_none c e 1 c.rules 0 (λ r from to. none r (omega (arith, to)))

pub told_none : (c : Capacity) (e : Excess) → excess_lines c e ≡ [] → (r : ℕ) → r < declared_resources c → is_above e r ≡ false
told_none c e is r lt = from_each c e 1 c.rules 0 is r (omega arith) (omega (arith, lt))

-- ---- the least load of a stage

window_load-append : (c : Capacity) (one two : List Movement) (r : ℕ) → window_load c (one ++ two) r ≡ window_load c one r + window_load c two r
window_load-append c one two r = sum_by-append _ one two

least_below : (f : Times → ℕ) (options : List Times) (k : ℕ) (times : Times) → slice_get options k ≡ Some times → least_number (map f options) ≤ f times
least_below f [] k times at = cc
least_below f (one ∷ []) zero times at = let same : one ≡ times = cc in omega (arith, ap f same)
least_below f (one ∷ []) (suc k) times at = cc
least_below f (one ∷ two ∷ options) zero times at = let same : one ≡ times = cc in omega (arith, ap f same)
least_below f (one ∷ two ∷ options) (suc k) times at = omega (arith, least_below f (two ∷ options) k times at)

got_of : (options : List Times) (times : Times) → Contains options times → (k : ℕ) × (slice_get options k ≡ Some times)
got_of options times is = (is.0, slice_get-get_or options is.0 times is.1 ∙ ap (λ (its : Times). Some its) is.2)

least_within_load : (d : Declaration) (units : List SlotUnit) (times : List Times) (r : ℕ) → AreAlternatives d units times → least_units_load d units r ≤ allotted_load d units times r
least_within_load d [] times r are = omega arith
least_within_load d (unit ∷ units) [] r are = absurd are
least_within_load d (unit ∷ units) (given ∷ times) r are =
    let first = sum_by-cons (λ (u : SlotUnit). least_unit_load d u r) unit units in
    let got = got_of (options_of d unit) given are.0 in
    let own : least_unit_load d unit r ≤ unit_load d unit given r = least_below (λ (its : Times). unit_load d unit its r) (options_of d unit) got.0 given got.1 in
    omega (
      arith,
      first,
      own,
      least_within_load d units times r are.1,
      window_load-append (capacity_of d) (movements_of d.season unit given) (allotted_movements d.season units times) r,
    )

pub over_rules_out : (d : Declaration) (stage : ℕ) (states : List UnitState) (r : ℕ) → r < declared_resources (capacity_of d) → is_above (stage_excess d stage states) r ≡ true →
    HasNoAllotment d (stage_units stage states) (stage_limit d stage states)
over_rules_out d stage states r lt above times feasible =
    let over : stage_limit d stage states r < least_units_load d (stage_units stage states) r = ltb-true _ _ above in
    let no : ⊥ = omega (arith, over, feasible.fits r lt, least_within_load d (stage_units stage states) times r feasible.alternatives) in
    no

-- ---- the units of stage 1 have one alternative

abbrev Single : Declaration → SlotUnit → Type 0
Single d unit = options_of d unit ≡ line_times unit.request ∷ []

singles : (d : Declaration) (units : List SlotUnit) → All (Single d) (stage_units 1 (first_states units))
singles d [] = All-nil (Single d)
singles d (unit ∷ units) =
    let rest = singles d units in
    (elim unit.group as (λ g. unit.group ≡ g → All (Single d) (if is_due 1 g None then unit ∷ stage_units 1 (first_states units) else stage_units 1 (first_states units))) [
      | F ↦ λ is. All-cons (Single d) unit (stage_units 1 (first_states units)) (ap (λ (g : Group). options_by d unit.request unit.historic g) is) rest
      | R ↦ λ is. rest
      | L ↦ λ is. rest
      | B ↦ λ is. rest
      | N ↦ λ is. rest
    ]) refl

single_alternatives : (d : Declaration) (units : List SlotUnit) → All (Single d) units → AreAlternatives d units (map (λ (unit : SlotUnit). line_times unit.request) units)
single_alternatives d [] all = tt
single_alternatives d (unit ∷ units) all =
    let one : Single d unit = All-head (Single d) unit units all in (
      subst (λ (options : List Times). Contains options (line_times unit.request)) (sym one) (0, omega arith, refl),
      single_alternatives d units (All-tail (Single d) unit units all),
    )

single_load : (d : Declaration) (units : List SlotUnit) (r : ℕ) → All (Single d) units → allotted_load d units (map (λ (unit : SlotUnit). line_times unit.request) units) r ≡ least_units_load d units r
single_load d [] r all = refl
single_load d (unit ∷ units) r all =
    let one : Single d unit = All-head (Single d) unit units all in
    let times = map (λ (u : SlotUnit). line_times u.request) units in
    let first = sum_by-cons (λ (u : SlotUnit). least_unit_load d u r) unit units in
    let own : least_unit_load d unit r ≡ unit_load d unit (line_times unit.request) r = ap (λ (options : List Times). least_number (map (λ (its : Times). unit_load d unit its r) options)) one in
    omega (
      arith,
      first,
      own,
      single_load d units r (All-tail (Single d) unit units all),
      window_load-append (capacity_of d) (movements_of d.season unit (line_times unit.request)) (allotted_movements d.season units times) r,
    )

pub first_allotted : (d : Declaration) (units : List SlotUnit) → over_lines d 1 (first_states units) ≡ [] →
    IsFeasibleAllotment d (stage_units 1 (first_states units)) (stage_limit d 1 (first_states units)) (map (λ (unit : SlotUnit). line_times unit.request) (stage_units 1 (first_states units)))
first_allotted d units is =
    let states = first_states units in
    let own = stage_units 1 states in
    let all : All (Single d) own = singles d units in
    record {
      alternatives = single_alternatives d own all;
      fits = λ r lt.
          let within : least_units_load d own r ≤ stage_limit d 1 states r = ltb-false _ _ (told_none (capacity_of d) (stage_excess d 1 states) is r lt) in
          omega (arith, within, single_load d own r all);
    }
