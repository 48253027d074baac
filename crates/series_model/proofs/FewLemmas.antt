-- How many alternatives a unit has at most: a pair of minutes of two dates each, and one more.
use Rattle.std.proofs.Common.{◌≡◌, ℕ, ◌+◌, ◌*◌, ◌≤◌, Bool, List, [], ◌∷◌, length, Some, None, arith, inl, inr}
use Rattle.std.specs.Prelude.{Option, nat_le}
use Rattle.std.specs.List.{filter, range_with_len, list_any}
use Rattle.std.proofs.lemmas.Bool.{cases_Bool}
use Rattle.std.proofs.lemmas.Nat.{mul-le}
use Rattle.std.proofs.Math.Nat.{suc-mul}
use Rattle.std.proofs.lemmas.List.{length-append, length-map}
use Rattle.std.proofs.lemmas.List.FromFn.{length-range_with_len}
use Rattle.std.proofs.lemmas.List.Sums.{length-filter, count_by-le-length}
use Rattle.season_days.specs.declared.declaration.Declaration.{Declaration}
use Rattle.scr_reader.specs.declared.line.Line.{Line}
use Rattle.scr_reader.specs.declared.line.Stop.{Stop}
use Rattle.series_model.specs.declared.group.Group.{Group}
use Rattle.series_model.specs.declared.group.Group.TheVariants.{F, R, L, B, N}
use Rattle.series_model.specs.declared.unit.Unit.{Unit as SlotUnit}
use Rattle.series_model.specs.declared.times.Times.{Times}
use Rattle.series_model.specs.declared.times.Times.TheVariants.{Refused, At}
use Rattle.series_model.specs.Units.{UnitFits}
use Rattle.series_model.specs.Options.{line_times, is_shift, date_minutes, stop_shifts, least_ground, pairs_at, pairs_of, shifts_by, shifts_of, lies_between, are_same, with_times, with_refused, flexible_options, either_options, options_by, options_of}

kept_few : {X : Type 0} (p : X → Bool) (xs : List X) → length (filter p xs) ≤ length xs
kept_few p xs = omega (arith, length-filter p xs, count_by-le-length p xs)

minutes_few : (d : Declaration) (nights : ℕ) (stop : Stop) → length (stop_shifts d nights stop) ≤ 1440
unfolding date_minutes
minutes_few d nights stop =
    omega (arith, kept_few (is_shift d.step d.flex (1440 * nights + stop.minute)) (range_with_len (1440 * nights) 1440), length-range_with_len (1440 * nights) 1440)

pairs_few : (least : ℕ) (comings goings : List ℕ) → length (pairs_of least comings goings) ≤ length comings * length goings
pairs_few least [] goings = omega arith
pairs_few least (a ∷ comings) goings =
    let late : ℕ → Bool = λ (x : ℕ). nat_le (a + least) x in
    let long = length-append (pairs_at least goings a) (pairs_of least comings goings) in
    let one = length-map (filter late goings) (λ (departure : ℕ). At a departure) in
    let kept = kept_few late goings in
    let rest = pairs_few least comings goings in
    let product : length (a ∷ comings) * length goings ≡ length comings * length goings + length goings = suc-mul (length comings) (length goings) in
    omega (arith, long, one, kept, rest, product)

shifts_few : (d : Declaration) (nights : ℕ) (a g : Option Stop) → length (shifts_by d nights a g) ≤ 1440 * 1440
shifts_few d nights None None = omega arith
shifts_few d nights (Some coming) None =
    let one = length-map (stop_shifts d 0 coming) (λ (arrival : ℕ). At arrival 0) in
    omega (arith, one, minutes_few d 0 coming)
shifts_few d nights None (Some going) =
    let one = length-map (stop_shifts d nights going) (λ (departure : ℕ). At 0 departure) in
    omega (arith, one, minutes_few d nights going)
shifts_few d nights (Some coming) (Some going) =
    let comings = stop_shifts d 0 coming in
    let goings = stop_shifts d nights going in
    let pairs = pairs_few (least_ground d coming.minute (1440 * nights + going.minute)) comings goings in
    let product : length comings * length goings ≤ 1440 * 1440 = mul-le (length comings) (length goings) 1440 1440 (minutes_few d 0 coming) (minutes_few d nights going) in
    omega (arith, pairs, product)

with_few : (options : List Times) (times : Times) → length (with_times options times) ≤ length options + 1
with_few options times =
    elim (cases_Bool (list_any (are_same times) options)) [
      | inl there ↦ rw there (omega arith)
      | inr missing ↦ rw missing (let long = length-append options (times ∷ []) in omega (arith, long))
    ]

refused_few : (options : List Times) (price : Option ℕ) → length (with_refused options price) ≤ length options + 1
refused_few options None = omega arith
refused_few options (Some price) = let long = length-append options (Refused ∷ []) in omega (arith, long)

flexible_few : (d : Declaration) (request : Line) (historic : Option Line) → length (flexible_options d request historic) ≤ 1440 * 1440 + 1
flexible_few d request None = omega (arith, shifts_few d request.nights request.arrival request.departure)
flexible_few d request (Some historic) =
    let between = filter (lies_between historic request) (shifts_of d request) in
    omega (arith, with_few between (line_times historic), kept_few (lies_between historic request) (shifts_of d request), shifts_few d request.nights request.arrival request.departure)

either_few : (request : Line) (historic : Option Line) → length (either_options request historic) ≤ 2
either_few request None = omega arith
either_few request (Some historic) = omega (arith, with_few (line_times request ∷ []) (line_times historic))

group_few : (d : Declaration) (request : Line) (historic : Option Line) (group : Group) → length (options_by d request historic group) ≤ 1440 * 1440 + 1
group_few d request historic F = omega arith
group_few d request historic R = flexible_few d request historic
group_few d request historic L = omega (arith, either_few request historic)
group_few d request historic B = omega (arith, refused_few (shifts_of d request) d.refuse, shifts_few d request.nights request.arrival request.departure)
group_few d request historic N = omega (arith, refused_few (shifts_of d request) d.refuse, shifts_few d request.nights request.arrival request.departure)

pub options_few : (d : Declaration) (unit : SlotUnit) → UnitFits d.season unit → length (options_of d unit) ≤ 1440 * 1440 + 1
options_few d unit fits = group_few d unit.request unit.historic unit.group
