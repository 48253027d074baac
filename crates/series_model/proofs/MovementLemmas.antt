-- The load of a unit's movements is the sum of its stops' loads.
use Rattle.std.proofs.Common.{◌≡◌, ℕ, ◌+◌, ◌/◌, ◌%◌, Bool, false, cond, List, [], ◌∷◌, ◌++◌, map, Some, None, refl, arith, inl, inr}
use Rattle.std.specs.Prelude.{Option, nat_lt}
use Rattle.std.specs.List.{count_by, flat_map}
use Rattle.std.proofs.lemmas.Bool.{cases_Bool, and_left}
use Rattle.std.proofs.lemmas.List.Sums.{sum_by-cons, sum_by-append}
use Rattle.season_days.specs.Seasons.{date_count, dates_of}
use Rattle.season_days.specs.declared.day.Period.{Period}
use Rattle.season_days.specs.declared.declaration.Kind.{Kind}
use Rattle.season_days.specs.declared.declaration.Kind.TheVariants.{Arr, Dep}
use Rattle.scr_reader.specs.declared.line.Line.{Line}
use Rattle.scr_reader.specs.declared.line.Stop.{Stop}
use Rattle.capacity_windows.specs.Windows.{Capacity, holds, movement_on, resource_at, window_load}
use Rattle.capacity_windows.specs.declared.movement.Movement.{Movement}
use Rattle.capacity_windows.specs.declared.resource.Resource.{Resource}
use Rattle.capacity_windows.specs.declared.resource.Resource.TheVariants.{Window, Quota, Nothing}
use Rattle.series_model.specs.declared.times.Times.TheVariants.{At}
use Rattle.series_model.specs.Movements.{movement_after, listed, stop_on, movements_on, movements_at, stop_load}

-- a movement after the season's last date is held by nothing
unlisted : (c : Capacity) (resource : Resource) (m : Movement) → nat_lt m.day (date_count c.season) ≡ false → holds c resource m ≡ false
unlisted c (Window rule day start) m late = and_left (nat_lt m.day (date_count c.season)) _ late
unlisted c (Quota night) m late = and_left (nat_lt m.day (date_count c.season)) _ late
unlisted c Nothing m late = refl

abbrev one_if : Bool → ℕ
one_if b = cond b 1 0

-- so that leaving it out changes no count
count-listed : (c : Capacity) (resource : Resource) (m : Movement) → count_by (holds c resource) (listed c.season m) ≡ one_if (holds c resource m)
count-listed c resource m =
    elim (cases_Bool (nat_lt m.day (date_count c.season))) [
      | inl in_season ↦ rw in_season (let one = sum_by-cons (λ (x : Movement). one_if (holds c resource x)) m [] in omega (arith, one))
      | inr late ↦ let none = unlisted c resource m late in rw (late, none) refl
    ]

-- the movements of a stop on some dates
abbrev dates_load : Capacity → Resource → Kind → Option Stop → ℕ → List ℕ → ℕ
dates_load c resource kind None minute dates = 0
dates_load c resource kind (Some stop) minute dates = count_by (holds c resource) (map (movement_on kind (minute % 1440) (minute / 1440)) dates)

stop_more : (c : Capacity) (resource : Resource) (kind : Kind) (stop : Option Stop) (minute date : ℕ) (dates : List ℕ)
    → dates_load c resource kind stop minute (date ∷ dates) ≡ count_by (holds c resource) (stop_on c.season kind stop minute date) + dates_load c resource kind stop minute dates
stop_more c resource kind None minute date dates = refl
stop_more c resource kind (Some stop) minute date dates =
    let cons = sum_by-cons (λ (x : Movement). one_if (holds c resource x)) (movement_after kind date minute) (map (movement_on kind (minute % 1440) (minute / 1440)) dates) in
    let here = count-listed c resource (movement_after kind date minute) in
    omega (arith, cons, here)

both_loads : (c : Capacity) (resource : Resource) (line : Line) (arrival departure : ℕ) (dates : List ℕ)
    → count_by (holds c resource) (flat_map (movements_on c.season line arrival departure) dates)
    ≡ dates_load c resource Arr line.arrival arrival dates + dates_load c resource Dep line.departure departure dates
both_loads c resource line arrival departure [] = none line.arrival line.departure
  where
    none : (a g : Option Stop) → 0 ≡ dates_load c resource Arr a arrival [] + dates_load c resource Dep g departure []
    none None None = refl
    none None (Some going) = refl
    none (Some coming) None = refl
    none (Some coming) (Some going) = refl
both_loads c resource line arrival departure (date ∷ dates) =
    let one : Movement → ℕ = λ (x : Movement). one_if (holds c resource x) in
    let coming = stop_on c.season Arr line.arrival arrival date in
    let going = stop_on c.season Dep line.departure departure date in
    let rest = both_loads c resource line arrival departure dates in
    let outer = sum_by-append one (coming ++ going) (flat_map (movements_on c.season line arrival departure) dates) in
    let inner = sum_by-append one coming going in
    let first = stop_more c resource Arr line.arrival arrival date dates in
    let second = stop_more c resource Dep line.departure departure date dates in
    omega (arith, rest, outer, inner, first, second)

whole_load : (c : Capacity) (kind : Kind) (stop : Option Stop) (minute : ℕ) (period : Period) (r : ℕ) → dates_load c (resource_at c r) kind stop minute (dates_of c.season period) ≡ stop_load c kind stop minute period r
whole_load c kind None minute period r = refl
whole_load c kind (Some stop) minute period r = refl

pub movement_load : (c : Capacity) (line : Line) (arrival departure r : ℕ) → window_load c (movements_at c.season line (At arrival departure)) r ≡ stop_load c Arr line.arrival arrival line.period r + stop_load c Dep line.departure departure line.period r
movement_load c line arrival departure r =
    let both = both_loads c (resource_at c r) line arrival departure (dates_of c.season line.period) in
    let coming = whole_load c Arr line.arrival arrival line.period r in
    let going = whole_load c Dep line.departure departure line.period r in
    omega (arith, both, coming, going)
