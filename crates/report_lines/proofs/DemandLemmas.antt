-- The least loads of a stage's problem as those of its units, and the loads of requests.
use Rattle.std.proofs.Common.{◌≡◌, ℕ, zero, suc, ◌+◌, ◌-◌, ◌<◌, min, List, [], ◌∷◌, ◌++◌, length, map, take, get_or, replicate, Option, Some, None, refl, sym, ◌∙◌, ap, subst, arith}
use Rattle.std.specs.Prelude.{codes, slice_get, slice_index}
use Rattle.std.specs.Fmt.{decimal}
use Rattle.std.specs.List.{AllZip}
use Rattle.std.proofs.lemmas.List.Sums.{sum_by-append, sum_by-cons, sum_by_more}
use Rattle.std.proofs.lemmas.Option.{get_or_from_slice_get}
use Rattle.finite_sums.specs.Sums.{sum_below, least_from, least_within}
use Rattle.finite_sums.proofs.SumLemmas.{sum_below-same}
use Rattle.season_days.specs.Term.{Term}
use Rattle.season_days.specs.Capacity.{Capacity, capacity_of, declared_resources}
use Rattle.season_days.specs.declared.day.Period.{Period}
use Rattle.season_days.specs.declared.declaration.Declaration.{Declaration}
use Rattle.season_days.specs.declared.declaration.Kind.{Kind}
use Rattle.season_days.specs.declared.declaration.Kind.TheVariants.{Arr, Dep}
use Rattle.scr_reader.specs.declared.line.Line.{Line}
use Rattle.scr_reader.specs.declared.line.Stop.{Stop}
use Rattle.capacity_windows.specs.Windows.{window_load, window_limit}
use Rattle.capacity_windows.specs.declared.movement.Movement.{Movement}
use Rattle.choice_problem.specs.declared.problems.Alt.{Alt}
use Rattle.choice_problem.specs.Problems.{ProblemView, ChooserView, unit_count, resource_count, named_uses, chooser_uses}
use Rattle.choice_problem.specs.Bounds.{whole_of, least_load}
use Rattle.choice_problem.specs.Counts.{GrowsBy}
use Rattle.series_model.specs.declared.unit.Unit.{Unit as SlotUnit}
use Rattle.series_model.specs.declared.times.Times.{Times}
use Rattle.series_model.specs.declared.times.Times.TheVariants.{At}
use Rattle.series_model.specs.declared.state.UnitState.{UnitState}
use Rattle.series_model.specs.Options.{options_of, line_times}
use Rattle.series_model.specs.Movements.{movements_at, movements_of, stop_load}
use Rattle.series_model.specs.Stages.{first_states, movements_given, stage_units, stage_limit}
use Rattle.wasg_stages.specs.StageProblems.{IsAltOf, IsChooserOf, IsStageProblem}
use Rattle.report_lines.specs.declared.excess.ExcessLists.{ExcessLists}
use Rattle.report_lines.specs.Peaks.{unit_load, least_number, least_unit_load, least_units_load, earlier_load, AreEarlier, stage_excess, requested_movements, requested_load, demand_excess}
use Rattle.report_lines.specs.Private.{IsExcess, word_by, earlier_of, rest_by, line_load, lines_load}
use Rattle.report_lines.proofs.LeastLemmas.{whole_least}

-- ---- the least over the alternatives of a unit

abbrev no_chooser : ChooserView
no_chooser = record { parts = []; alts = [] }

abbrev no_alt : Alt
no_alt = record { cost = 0; one = None; two = None }

-- the first value stands in front
least_first : (n : ℕ) (f : ℕ → ℕ) → least_from 0 (suc n) f ≡ min (f 0) (least_from 0 n (λ a. f (suc a)))
least_first zero f = let one : 0 + suc zero ≡ suc 0 = omega arith in ap (λ (k : ℕ). min (f 0) (f k)) one
least_first (suc n) f =
    let last : 0 + suc (suc n) ≡ suc (0 + suc n) = omega arith in
    let same = ap f last in
    omega (arith, least_first n f, same)

abbrev alt_uses_in : ChooserView → List Alt → ℕ → ℕ → ℕ
alt_uses_in m alts r a = named_uses m (get_or alts a no_alt).one r + named_uses m (get_or alts a no_alt).two r

least_alts : (d : Declaration) (unit : SlotUnit) (m : ChooserView) (r : ℕ) (options : List Times) (alts : List Alt) → AllZip (IsAltOf d unit m) options alts
    → least_from 0 (length alts - 1) (alt_uses_in m alts r) ≡ least_number (map (λ (times : Times). unit_load d unit times r) options)
least_alts d unit m r [] [] zip = refl
least_alts d unit m r [] (alt ∷ alts) zip = absurd zip
least_alts d unit m r (times ∷ options) [] zip = absurd zip
least_alts d unit m r (times ∷ []) (alt ∷ []) zip = zip.0.uses r
least_alts d unit m r (times ∷ []) (alt ∷ other ∷ alts) zip = absurd zip.1
least_alts d unit m r (times ∷ next ∷ options) (alt ∷ []) zip = absurd zip.1
least_alts d unit m r (times ∷ next ∷ options) (alt ∷ other ∷ alts) zip =
    let count : length (alt ∷ other ∷ alts) - 1 ≡ suc (length (other ∷ alts) - 1) = omega arith in
    ap (λ (n : ℕ). least_from 0 n (alt_uses_in m (alt ∷ other ∷ alts) r)) count
    ∙ least_first (length (other ∷ alts) - 1) (alt_uses_in m (alt ∷ other ∷ alts) r)
    ∙ ap (λ (n : ℕ). min n (least_from 0 (length (other ∷ alts) - 1) (alt_uses_in m (other ∷ alts) r))) (zip.0.uses r)
    ∙ ap (λ (n : ℕ). min (unit_load d unit times r) n) (least_alts d unit m r (next ∷ options) (other ∷ alts) zip.1)

least_chooser : (d : Declaration) (unit : SlotUnit) (m : ChooserView) (r : ℕ) → IsChooserOf d unit m → least_within 0 (length m.alts - 1) (λ (alt : ℕ). chooser_uses m alt r) ≡ least_unit_load d unit r
least_chooser d unit m r chooser =
    let whole : length m.alts - 1 - 0 ≡ length m.alts - 1 = omega arith in
    ap (λ (n : ℕ). least_from 0 n (λ (alt : ℕ). chooser_uses m alt r)) whole ∙ least_alts d unit m r (options_of d unit) m.alts chooser

sum_first : (n : ℕ) (f : ℕ → ℕ) → sum_below (suc n) f ≡ f 0 + sum_below n (λ i. f (suc i))
sum_first zero f = omega arith
sum_first (suc n) f = omega (arith, sum_first n f)

abbrev least_at : List ChooserView → ℕ → ℕ → ℕ
least_at ms r u = least_within 0 (length (get_or ms u no_chooser).alts - 1) (λ (alt : ℕ). chooser_uses (get_or ms u no_chooser) alt r)

least_units : (d : Declaration) (units : List SlotUnit) (ms : List ChooserView) (r : ℕ) → AllZip (IsChooserOf d) units ms → sum_below (length ms) (least_at ms r) ≡ least_units_load d units r
least_units d [] [] r zip = refl
least_units d [] (m ∷ ms) r zip = absurd zip
least_units d (unit ∷ units) [] r zip = absurd zip
least_units d (unit ∷ units) (m ∷ ms) r zip =
    let first = sum_first (length ms) (least_at (m ∷ ms) r) in
    let more = sum_by-cons (λ (one : SlotUnit). least_unit_load d one r) unit units in
    omega (arith, first, more, least_chooser d unit m r zip.0, least_units d units ms r zip.1)

pub least_is : (d : Declaration) (stage : ℕ) (states : List UnitState) (p : ProblemView) (r : ℕ) → IsStageProblem d stage states p → least_load p (whole_of p) r ≡ least_units_load d (stage_units stage states) r
least_is d stage states p r problem =
    sum_below-same (unit_count p) _ (least_at p.units r) (λ u lt. whole_least p u (λ (alt : ℕ). chooser_uses (get_or p.units u no_chooser) alt r) lt)
    ∙ least_units d (stage_units stage states) p.units r problem.units_are

-- ---- the lines of a stage

pub over_is : (d : Declaration) (stage : ℕ) (states : List UnitState) (p : ProblemView) (x : ExcessLists) (given : List ℕ) → IsStageProblem d stage states p → x.limits.now ≡ p.limits → ((r : ℕ) → r < resource_count p → slice_index x.loads.now r ≡ least_load p (whole_of p) r) → earlier_of x.earlier ≡ Some given → AreEarlier d states given
    → IsExcess (stage_excess d stage states) x
over_is d stage states p x given problem limits loads earlier are =
    let below : (r : ℕ) → r < length x.limits.now → r < resource_count p = λ r lt. subst (λ (l : List ℕ). r < length l) limits lt in
    let declared : (r : ℕ) → r < length x.limits.now → r < declared_resources (capacity_of d) = λ r lt. omega (arith, below r lt, problem.resources) in
    let limit : (r : ℕ) → r < length x.limits.now → slice_index x.limits.now r ≡ stage_limit d stage states r = λ r lt. ap (λ (l : List ℕ). slice_index l r) limits ∙ problem.limits r (declared r lt) in
    let load : (r : ℕ) → r < length x.limits.now → slice_index x.loads.now r ≡ least_units_load d (stage_units stage states) r = λ r lt. loads r (below r lt) ∙ least_is d stage states p r problem in
    record {
      word = ap word_by earlier;
      limits = limit;
      loads = load;
      told = λ r lt.
          ap (λ (n : ℕ). codes " LIMIT " ++ (decimal n ++ rest_by (earlier_of x.earlier) (slice_index x.loads.now r) r)) (limit r lt)
          ∙ ap (λ (o : Option (List ℕ)). codes " LIMIT " ++ (decimal (stage_limit d stage states r) ++ rest_by o (slice_index x.loads.now r) r)) earlier
          ∙ ap (λ (n : ℕ). codes " LIMIT " ++ (decimal (stage_limit d stage states r) ++ (codes " EARLIER " ++ (decimal n ++ (codes " LEAST " ++ decimal (slice_index x.loads.now r)))))) (are r (declared r lt))
          ∙ ap (λ (n : ℕ). codes " LIMIT " ++ (decimal (stage_limit d stage states r) ++ (codes " EARLIER " ++ (decimal (earlier_load d states r) ++ (codes " LEAST " ++ decimal n))))) (load r lt);
    }

-- nothing was given before the first stage
none_given : (season : Term) (units : List SlotUnit) → movements_given season (first_states units) ≡ []
none_given season [] = refl
none_given season (unit ∷ units) = none_given season units

pub none_earlier : (d : Declaration) (units : List SlotUnit) (states : List UnitState) (given : List ℕ) → states ≡ first_states units → ((r : ℕ) → slice_index given r ≡ 0) → AreEarlier d states given
none_earlier d units states given is zeros = λ r lt.
    zeros r
    ∙ sym (ap (λ (s : List UnitState). window_load (capacity_of d) (movements_given d.season s) r) is ∙ ap (λ (m : List Movement). window_load (capacity_of d) m r) (none_given d.season units))

pub zeros_at : (xs : List ℕ) (n r : ℕ) → xs ≡ replicate n 0 → slice_index xs r ≡ 0
zeros_at xs n r is = ap (λ (l : List ℕ). slice_index l r) is ∙ zero_at n r
  where
    zero_at : (m k : ℕ) → slice_index (replicate m 0) k ≡ 0
    zero_at zero k = refl
    zero_at (suc m) zero = refl
    zero_at (suc m) (suc k) = zero_at m k

-- ---- requests

pub request_loads : ((c : Capacity) (line : Line) (arrival departure r : ℕ) → window_load c (movements_at c.season line (At arrival departure)) r ≡ stop_load c Arr line.arrival arrival line.period r + stop_load c Dep line.departure departure line.period r) → (c : Capacity) (line : Line) (arrival departure r : ℕ)
    → At arrival departure ≡ line_times line → line_load c line r ≡ stop_load c Arr line.arrival arrival line.period r + stop_load c Dep line.departure departure line.period r
request_loads loads c line arrival departure r is = ap (λ (t : Times). window_load c (movements_at c.season line t) r) (sym is) ∙ loads c line arrival departure r

pub stop_some : (c : Capacity) (kind : Kind) (stop : Option Stop) (some : Stop) (minute : ℕ) (period : Period) (n r : ℕ) → stop ≡ Some some → n ≡ stop_load c kind (Some some) minute period r → n ≡ stop_load c kind stop minute period r
stop_some c kind stop some minute period n r is loaded = loaded ∙ ap (λ (o : Option Stop). stop_load c kind o minute period r) (sym is)

pub stop_none : (c : Capacity) (kind : Kind) (stop : Option Stop) (minute : ℕ) (period : Period) (r : ℕ) → stop ≡ None → stop_load c kind stop minute period r ≡ 0
stop_none c kind stop minute period r is = ap (λ (o : Option Stop). stop_load c kind o minute period r) is

pub grows_as : (old new : List ℕ) (one other : ℕ → ℕ) → ((r : ℕ) → one r ≡ other r) → GrowsBy old new one → GrowsBy old new other
grows_as old new one other same grows = λ r lt. omega (arith, grows r lt, same r)

pub grows_none : (counts : List ℕ) (uses : ℕ → ℕ) → ((r : ℕ) → uses r ≡ 0) → GrowsBy counts counts uses
grows_none counts uses none = λ r lt. omega (arith, none r)

pub both_added : (old mid new : List ℕ) (one two both : ℕ → ℕ) → length mid ≡ length old → GrowsBy old mid one → GrowsBy mid new two → ((r : ℕ) → both r ≡ one r + two r) → GrowsBy old new both
both_added old mid new one two both long first second sum = λ r lt. omega (arith, first r lt, second r (omega (arith, long, lt)), sum r)

load-append : (c : Capacity) (one other : List Movement) (r : ℕ) → window_load c (one ++ other) r ≡ window_load c one r + window_load c other r
load-append c one other r = sum_by-append _ one other

pub line_more : (c : Capacity) (units : List SlotUnit) (i : ℕ) (e : SlotUnit) (before after r : ℕ) → i < length units → before ≡ lines_load c (take i units) r → after ≡ before + line_load c (get_or units i e).request r → after ≡ lines_load c (take (i + 1) units) r
line_more c units i e before after r lt so_far added = omega (arith, sum_by_more (λ (unit : SlotUnit). line_load c unit.request r) units i e lt, so_far, added)

-- the load of all movements is the sum over the lines
pub lines_are : (d : Declaration) (units : List SlotUnit) (r : ℕ) → lines_load (capacity_of d) units r ≡ requested_load d units r
lines_are d [] r = refl
lines_are d (unit ∷ units) r =
    let own = movements_of d.season unit (line_times unit.request) in
    let more = sum_by-cons (λ (one : SlotUnit). line_load (capacity_of d) one.request r) unit units in
    let split = load-append (capacity_of d) own (requested_movements d units) r in
    omega (arith, more, split, lines_are d units r)

pub demand_is : (d : Declaration) (units : List SlotUnit) (x : ExcessLists) → length x.limits.now ≡ declared_resources (capacity_of d) → ((r : ℕ) → r < declared_resources (capacity_of d) → slice_get x.limits.now r ≡ Some (window_limit (capacity_of d) r)) → ((r : ℕ) → r < declared_resources (capacity_of d) → slice_index x.loads.now r ≡ requested_load d units r) → earlier_of x.earlier ≡ None
    → IsExcess (demand_excess d units) x
demand_is d units x count limits loads earlier =
    let declared : (r : ℕ) → r < length x.limits.now → r < declared_resources (capacity_of d) = λ r lt. omega (arith, count, lt) in
    let limit : (r : ℕ) → r < length x.limits.now → slice_index x.limits.now r ≡ window_limit (capacity_of d) r = λ r lt. get_or_from_slice_get x.limits.now r (window_limit (capacity_of d) r) 0 (limits r (declared r lt)) in
    let load : (r : ℕ) → r < length x.limits.now → slice_index x.loads.now r ≡ requested_load d units r = λ r lt. loads r (declared r lt) in
    record {
      word = ap word_by earlier;
      limits = limit;
      loads = load;
      told = λ r lt.
          ap (λ (n : ℕ). codes " LIMIT " ++ (decimal n ++ rest_by (earlier_of x.earlier) (slice_index x.loads.now r) r)) (limit r lt)
          ∙ ap (λ (o : Option (List ℕ)). codes " LIMIT " ++ (decimal (window_limit (capacity_of d) r) ++ rest_by o (slice_index x.loads.now r) r)) earlier
          ∙ ap (λ (n : ℕ). codes " LIMIT " ++ (decimal (window_limit (capacity_of d) r) ++ (codes " LOAD " ++ decimal n))) (load r lt);
    }
