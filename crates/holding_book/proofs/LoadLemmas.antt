-- The load of a holding is that of the dates that are taken out of it, and of what is left of it.
use Rattle.std.proofs.Common.{◌≡◌, ℕ, ◌+◌, ◌/◌, ◌%◌, ◌≤◌, Bool, cond, List, [], ◌∷◌, ◌++◌, map, refl, subst, arith, Option, Some, None, count_by}
use Rattle.std.specs.List.{cons_option}
use Rattle.std.proofs.lemmas.List.Sums.{sum_by-append, sum_by-cons}
use Rattle.season_days.specs.Term.{Term}
use Rattle.season_days.specs.Seasons.{dates_of}
use Rattle.season_days.specs.Periods.{HasAllDates, part_dates, cut_of}
use Rattle.season_days.specs.declared.day.Period.{Period}
use Rattle.season_days.specs.declared.day.Cut.{Cut}
use Rattle.season_days.specs.declared.declaration.Kind.{Kind}
use Rattle.season_days.specs.declared.declaration.Kind.TheVariants.{Arr, Dep}
use Rattle.season_days.specs.declared.declaration.TheConstants.{MINUTES_OF_DAY}
use Rattle.scr_reader.specs.declared.line.Line.{Line}
use Rattle.scr_reader.specs.declared.line.Stop.{Stop}
use Rattle.capacity_windows.specs.Windows.{Capacity, window_load, holds, resource_at, movement_on}
use Rattle.series_model.specs.declared.times.Times.TheVariants.{At}
use Rattle.series_model.specs.Movements.{movements_at, stop_load}
use Rattle.series_model.specs.Options.{arrival_minute, departure_minute}
use Rattle.holding_book.specs.declared.holding.Holding.{Holding}
use Rattle.season_days.specs.Periods.{cut_periods}
use Rattle.holding_book.specs.Lines.{in_period}
use Rattle.holding_book.specs.Books.{held_movements}
use Rattle.series_model.specs.TimedLines.{line_movements}

-- ---- laws of the crates below

-- a count over the held dates is that over the asked ones and over the parts of the cut
abbrev pub CutCounts : Type 0
CutCounts = (season : Term) (held asked : Period) (passes : ℕ → Bool) → asked.first.0 ≤ asked.last.0 → HasAllDates season held asked → count_by passes (dates_of season held) ≡ count_by passes (dates_of season asked) + (count_by passes (part_dates season (cut_of season held asked).before) + (count_by passes (part_dates season (cut_of season held asked).between) + count_by passes (part_dates season (cut_of season held asked).after)))

abbrev pub MovementLoads : Type 0
MovementLoads = (c : Capacity) (line : Line) (arrival departure r : ℕ) → window_load c (movements_at c.season line (At arrival departure)) r ≡ stop_load c Arr line.arrival arrival line.period r + stop_load c Dep line.departure departure line.period r

-- ---- loads of holdings

abbrev pub line_load : Capacity → Line → ℕ → ℕ
line_load c line r = window_load c (line_movements c.season line) r

abbrev pub held_load : Capacity → List Holding → ℕ → ℕ
held_load c holdings r = window_load c (held_movements c.season holdings) r

abbrev pub in_line : Line → Period → Line
in_line line period = record line { period = period }

pub held_load-cons : (c : Capacity) (holding : Holding) (holdings : List Holding) (r : ℕ) → held_load c (holding ∷ holdings) r ≡ line_load c holding.line r + held_load c holdings r
held_load-cons c holding holdings r = sum_by-append (λ m. cond (holds c (resource_at c r) m) 1 0) (line_movements c.season holding.line) (held_movements c.season holdings)

pub held_load-append : (c : Capacity) (one other : List Holding) (r : ℕ) → held_load c (one ++ other) r ≡ held_load c one r + held_load c other r
held_load-append c [] other r = omega arith
held_load-append c (holding ∷ one) other r =
    let whole = held_load-cons c holding (one ++ other) r in
    let part = held_load-cons c holding one r in
    let rest = held_load-append c one other r in
    omega (arith, whole, part, rest)

-- ---- a stop on the dates of a cut

count_mapped : {X Y : Type 0} (passes : Y → Bool) (f : X → Y) (xs : List X) → count_by passes (map f xs) ≡ count_by (λ x. passes (f x)) xs
count_mapped passes f [] = refl
count_mapped passes f (x ∷ xs) =
    let one = sum_by-cons (λ y. cond (passes y) 1 0) (f x) (map f xs) in
    let other = sum_by-cons (λ y. cond (passes (f y)) 1 0) x xs in
    omega (arith, one, other, count_mapped passes f xs)

-- the load of a stop on the dates of a part, if there is one
abbrev part_load : Capacity → Kind → Option Stop → ℕ → ℕ → Option Period → ℕ
part_load c kind stop minute r None = 0
part_load c kind stop minute r (Some part) = stop_load c kind stop minute part r

module _ (c : Capacity) (kind : Kind) (stop : Stop) (minute r : ℕ) where
  -- a date whose movement the resource holds
  abbrev passes : ℕ → Bool
  passes date = holds c (resource_at c r) (movement_on kind (minute % MINUTES_OF_DAY) (minute / MINUTES_OF_DAY) date)

  stop_is : (period : Period) → stop_load c kind (Some stop) minute period r ≡ count_by passes (dates_of c.season period)
  stop_is period = count_mapped (holds c (resource_at c r)) (movement_on kind (minute % MINUTES_OF_DAY) (minute / MINUTES_OF_DAY)) (dates_of c.season period)

  part_is : (part : Option Period) → part_load c kind (Some stop) minute r part ≡ count_by passes (part_dates c.season part)
  part_is None = refl
  part_is (Some part) = stop_is part

none_load : (c : Capacity) (kind : Kind) (minute r : ℕ) (part : Option Period) → part_load c kind None minute r part ≡ 0
none_load c kind minute r None = refl
none_load c kind minute r (Some part) = refl

module _ (counts : CutCounts) (c : Capacity) (held asked : Period) (ordered : asked.first.0 ≤ asked.last.0) (all : HasAllDates c.season held asked) where
  abbrev cut : Cut
  cut = cut_of c.season held asked

  pub stop_cut : (kind : Kind) (stop : Option Stop) (minute r : ℕ) → stop_load c kind stop minute held r ≡ stop_load c kind stop minute asked r + (part_load c kind stop minute r cut.before + (part_load c kind stop minute r cut.between + part_load c kind stop minute r cut.after))
  stop_cut kind None minute r = omega (arith, none_load c kind minute r cut.before, none_load c kind minute r cut.between, none_load c kind minute r cut.after)
  stop_cut kind (Some stop) minute r =
      let h = stop_is c kind stop minute r held in
      let a = stop_is c kind stop minute r asked in
      let b = part_is c kind stop minute r cut.before in
      let m = part_is c kind stop minute r cut.between in
      let f = part_is c kind stop minute r cut.after in
      omega (arith, h, a, b, m, f, counts c.season held asked (passes c kind stop minute r) ordered all)

  -- ---- a line

  part_line_load : Line → ℕ → Option Period → ℕ
  part_line_load line r None = 0
  part_line_load line r (Some part) = line_load c (in_line line part) r

  module _ (loads : MovementLoads) where
    pub line_is : (line : Line) (r : ℕ) → line_load c line r ≡ stop_load c Arr line.arrival (arrival_minute line) line.period r + stop_load c Dep line.departure (departure_minute line) line.period r
    line_is line r = loads c line (arrival_minute line) (departure_minute line) r

    part_line_is : (line : Line) (r : ℕ) (part : Option Period) → part_line_load line r part ≡ part_load c Arr line.arrival (arrival_minute line) r part + part_load c Dep line.departure (departure_minute line) r part
    unfolding part_line_load
    part_line_is line r None = refl
    part_line_is line r (Some part) = line_is (in_line line part) r

    line_cut : (line : Line) (r : ℕ) → line.period ≡ held → line_load c line r ≡ line_load c (in_line line asked) r + (part_line_load line r cut.before + (part_line_load line r cut.between + part_line_load line r cut.after))
    line_cut line r is =
        let w = line_is line r in
        let whole = subst (λ (p : Period). line_load c line r ≡ stop_load c Arr line.arrival (arrival_minute line) p r + stop_load c Dep line.departure (departure_minute line) p r) is w in
        let a = line_is (in_line line asked) r in
        let b = part_line_is line r cut.before in
        let m = part_line_is line r cut.between in
        let f = part_line_is line r cut.after in
        let arr = stop_cut Arr line.arrival (arrival_minute line) r in
        let dep = stop_cut Dep line.departure (departure_minute line) r in
        omega (arith, whole, a, b, m, f, arr, dep)

    -- ---- a holding, and what its cut leaves

    part_more : (holding : Holding) (r : ℕ) (part : Option Period) (parts : List Period) → held_load c (map (in_period holding) (cons_option part parts)) r ≡ part_line_load holding.line r part + held_load c (map (in_period holding) parts) r
    unfolding part_line_load
    part_more holding r None parts = omega arith
    part_more holding r (Some part) parts = held_load-cons c (in_period holding part) (map (in_period holding) parts) r

    pub holding_cut : (holding : Holding) (r : ℕ) → holding.line.period ≡ held → held_load c (map (in_period holding) (cut_periods cut)) r + line_load c (in_line holding.line asked) r ≡ line_load c holding.line r
    holding_cut holding r is =
        let one = part_more holding r cut.before (cons_option cut.between (cons_option cut.after [])) in
        let two = part_more holding r cut.between (cons_option cut.after []) in
        let three = part_more holding r cut.after [] in
        let line = line_cut holding.line r is in
        omega (arith, one, two, three, line)
