-- A book that fits still fits after each row of the table.
use Rattle.std.proofs.Common.{◌≡◌, ℕ, zero, suc, ◌+◌, ◌<◌, ◌≤◌, ◌==◌, ◌&&◌, nat_le, nat_lt, Bool, true, false, cond, eqb, List, [], ◌∷◌, ◌++◌, refl, sym, ap, ◌∙◌, subst, arith, inl, inr, Option, Some, None}
use Rattle.std.specs.Prelude.{Contains, All}
use Rattle.std.specs.Option.{option_map}
use Rattle.std.specs.List.{list_all}
use Rattle.std.proofs.lemmas.Bool.{eqb-true, eq-eqb, cases_Bool, ltb-true, ltb-false, leb-true}
use Rattle.std.proofs.lemmas.List.Sums.{sum_by-append}
use Rattle.std.proofs.lemmas.List.Folds.{list_all-append, Any-from_list_any}
use Rattle.std.proofs.lemmas.List.Elements.{All-contains, All-nil, All-cons}
use Rattle.season_days.specs.Term.{Term}
use Rattle.season_days.specs.Seasons.{dates_of}
use Rattle.season_days.specs.Periods.{HasAllDates}
use Rattle.season_days.specs.Capacity.{capacity_of, declared_resources}
use Rattle.season_days.specs.declared.day.Period.{Period}
use Rattle.season_days.specs.declared.declaration.Kind.{Kind}
use Rattle.season_days.specs.declared.declaration.Kind.TheVariants.{Arr, Dep}
use Rattle.season_days.specs.declared.declaration.Declaration.{Declaration}
use Rattle.scr_reader.specs.declared.line.Line.{Line}
use Rattle.scr_reader.specs.declared.line.Stop.{Stop}
use Rattle.capacity_windows.specs.Counts.{numbers_below}
use Rattle.capacity_windows.specs.Windows.{Capacity, window_load, window_limit, WindowsFit, holds, resource_at}
use Rattle.capacity_windows.specs.declared.movement.Movement.{Movement}
use Rattle.series_model.specs.Movements.{stop_load}
use Rattle.series_model.specs.Options.{relative_minute, arrival_minute, departure_minute}
use Rattle.holding_book.specs.declared.holding.Holding.{Holding}
use Rattle.holding_book.specs.declared.holding.State.{State}
use Rattle.holding_book.specs.declared.holding.State.TheVariants.{Offered}
use Rattle.season_days.specs.Periods.{has_all_dates, is_date_of}
use Rattle.holding_book.specs.Lines.{is_same_stop, is_state, is_flight, matches, cut_holding, replace_first}
use Rattle.holding_book.specs.Books.{SlotBook, confirmed, held_movements, movements_fit, fits_beside}
use Rattle.series_model.specs.TimedLines.{line_movements}
use Rattle.holding_book.specs.Asks.{accept, released}
use Rattle.holding_book.proofs.FlightLemmas.{both_true}
use Rattle.holding_book.proofs.LoadLemmas.{CutCounts, MovementLoads, line_load, held_load, in_line, held_load-cons, held_load-append, holding_cut}

-- ---- what a match has

is_date-Contains : (season : Term) (period : Period) (day : ℕ) → is_date_of season period day ≡ true → Contains (dates_of season period) day
is_date-Contains season period day e =
    let any = Any-from_list_any (λ date. date == day) (dates_of season period) e in
    let same : any.1 ≡ day = eqb-true any.1 day any.4 in
    subst (λ (d : ℕ). Contains (dates_of season period) d) same (any.0, any.2, any.3)

all_hold : (passes : ℕ → Bool) (xs : List ℕ) → list_all passes xs ≡ true → All (λ y. passes y ≡ true) xs
all_hold passes [] all = All-nil (λ y. passes y ≡ true)
all_hold passes (x ∷ xs) all =
    let h = both_true (passes x) (list_all passes xs) all in
    All-cons (λ y. passes y ≡ true) x xs h.0 (all_hold passes xs h.1)

all_pass : (passes : ℕ → Bool) (xs : List ℕ) → list_all passes xs ≡ true → (x : ℕ) → Contains xs x → passes x ≡ true
all_pass passes xs all x has = All-contains (λ y. passes y ≡ true) xs x (all_hold passes xs all) has

pub record IsMatch (season : Term) (line : Line) (holding : Holding) : Type 0 where
  pub arrival : is_same_stop line.arrival holding.line.arrival ≡ true
  pub departure : is_same_stop line.departure holding.line.departure ≡ true
  pub nights : line.nights ≡ holding.line.nights
  pub dates : HasAllDates season holding.line.period line.period

pub match_is : (season : Term) (state : State) (line : Line) (holding : Holding) → matches season state line holding ≡ true → IsMatch season line holding
match_is season state line holding e =
    let one = both_true (is_state state holding.state) (is_same_stop line.arrival holding.line.arrival && (is_same_stop line.departure holding.line.departure && (line.nights == holding.line.nights && has_all_dates season holding.line.period line.period))) e in
    let two = both_true (is_same_stop line.arrival holding.line.arrival) (is_same_stop line.departure holding.line.departure && (line.nights == holding.line.nights && has_all_dates season holding.line.period line.period)) one.1 in
    let three = both_true (is_same_stop line.departure holding.line.departure) (line.nights == holding.line.nights && has_all_dates season holding.line.period line.period) two.1 in
    let four = both_true (line.nights == holding.line.nights) (has_all_dates season holding.line.period line.period) three.1 in
    record {
      arrival = two.0;
      departure = three.0;
      nights = eqb-true line.nights holding.line.nights four.0;
      dates = λ day has. is_date-Contains season holding.line.period day (all_pass (is_date_of season holding.line.period) (dates_of season line.period) four.1 day has);
    }

same_minute : (nights : ℕ) (one other : Option Stop) → is_same_stop one other ≡ true → relative_minute nights one ≡ relative_minute nights other
same_minute nights None None e = refl
same_minute nights None (Some other) e = cc
same_minute nights (Some stop) None e = cc
same_minute nights (Some stop) (Some other) e =
    let b = both_true (is_flight stop.flight other.flight) (stop.minute == other.minute) e in
    let m : stop.minute ≡ other.minute = eqb-true stop.minute other.minute b.1 in
    rw m refl

same_load : (c : Capacity) (kind : Kind) (one other : Option Stop) (minute r : ℕ) (period : Period) → is_same_stop one other ≡ true → stop_load c kind one minute period r ≡ stop_load c kind other minute period r
same_load c kind None None minute r period e = refl
same_load c kind None (Some other) minute r period e = cc
same_load c kind (Some stop) None minute r period e = cc
same_load c kind (Some stop) (Some other) minute r period e = refl

module _ (counts : CutCounts) (loads : MovementLoads) (c : Capacity) where
  lines_is : (line : Line) (r : ℕ) → line_load c line r ≡ stop_load c Arr line.arrival (arrival_minute line) line.period r + stop_load c Dep line.departure (departure_minute line) line.period r
  lines_is line r = loads c line (arrival_minute line) (departure_minute line) r

  -- the asked dates of a match load as the ask itself
  asked_load : (line : Line) (holding : Holding) (r : ℕ) → IsMatch c.season line holding → line_load c (in_line holding.line line.period) r ≡ line_load c line r
  asked_load line holding r m =
      let a = lines_is line r in
      let h = lines_is (in_line holding.line line.period) r in
      let n : relative_minute line.nights line.departure ≡ relative_minute holding.line.nights holding.line.departure = same_minute line.nights line.departure holding.line.departure m.departure ∙ ap (λ (k : ℕ). relative_minute k holding.line.departure) m.nights in
      let arr : stop_load c Arr line.arrival (arrival_minute line) line.period r ≡ stop_load c Arr holding.line.arrival (arrival_minute holding.line) line.period r = same_load c Arr line.arrival holding.line.arrival (arrival_minute line) r line.period m.arrival ∙ ap (λ (k : ℕ). stop_load c Arr holding.line.arrival k line.period r) (same_minute 0 line.arrival holding.line.arrival m.arrival) in
      let dep : stop_load c Dep line.departure (departure_minute line) line.period r ≡ stop_load c Dep holding.line.departure (departure_minute holding.line) line.period r = same_load c Dep line.departure holding.line.departure (departure_minute line) r line.period m.departure ∙ ap (λ (k : ℕ). stop_load c Dep holding.line.departure k line.period r) n in
      omega (arith, a, h, arr, dep)

  -- what is left of a match, and the ask, load as the match
  cut_load : (line : Line) (holding : Holding) (r : ℕ) → line.period.first.0 ≤ line.period.last.0 → IsMatch c.season line holding → held_load c (cut_holding c.season line.period holding) r + line_load c line r ≡ line_load c holding.line r
  cut_load line holding r ordered m =
      let h = holding_cut counts c holding.line.period line.period ordered m.dates loads holding r refl in
      omega (arith, h, asked_load line holding r m)

  -- ---- the first match replaced

  abbrev pub Gives : ℕ → List Holding → ℕ → Option (List Holding) → Type 0
  Gives given holdings r None = Unit {0}
  Gives given holdings r (Some left) = held_load c left r + given ≡ held_load c holdings r

  behind : (given r : ℕ) (holding : Holding) (holdings : List Holding) (left : Option (List Holding)) → Gives given holdings r left → Gives given (holding ∷ holdings) r (option_map (λ rest. holding ∷ rest) left)
  behind given r holding holdings None g = tt
  behind given r holding holdings (Some left) g = omega (arith, g, held_load-cons c holding left r, held_load-cons c holding holdings r)

  replaced_load : (test : Holding → Bool) (others : Holding → List Holding) (given r : ℕ) → ((holding : Holding) → test holding ≡ true → held_load c (others holding) r + given ≡ line_load c holding.line r) → (holdings : List Holding) → Gives given holdings r (replace_first test others holdings)
  replaced_load test others given r each [] = tt
  replaced_load test others given r each (holding ∷ holdings) =
      elim (test holding) as (λ b. test holding ≡ b → Gives given (holding ∷ holdings) r (cond b (Some (others holding ++ holdings)) (option_map (λ rest. holding ∷ rest) (replace_first test others holdings)))) [
        | true ↦ λ e. omega (arith, each holding e, held_load-append c (others holding) holdings r, held_load-cons c holding holdings r)
        | false ↦ λ e. behind given r holding holdings (replace_first test others holdings) (replaced_load test others given r each holdings)
      ] refl

  -- D, Z and C: the loads are those before, less those of the ask
  pub released_load : (b : SlotBook) (state : State) (line : Line) (r : ℕ) → b.declaration.season ≡ c.season → line.period.first.0 ≤ line.period.last.0 → Gives (line_load c line r) b.holdings r (released b state line)
  released_load b state line r season ordered =
      rw season (replaced_load (matches c.season state line) (cut_holding c.season line.period) (line_load c line r) r (λ holding e. cut_load line holding r ordered (match_is c.season state line holding e)) b.holdings)

  -- A: the loads are those before
  one_accepted : (line : Line) (holding : Holding) (r : ℕ) → line.period.first.0 ≤ line.period.last.0 → IsMatch c.season line holding → held_load c (cut_holding c.season line.period holding ++ confirmed (in_line holding.line line.period) ∷ []) r + 0 ≡ line_load c holding.line r
  one_accepted line holding r ordered m =
      let whole = held_load-append c (cut_holding c.season line.period holding) (confirmed (in_line holding.line line.period) ∷ []) r in
      let last = held_load-cons c (confirmed (in_line holding.line line.period)) [] r in
      omega (arith, whole, last, asked_load line holding r m, cut_load line holding r ordered m)

  pub accepted_load : (b : SlotBook) (line : Line) (r : ℕ) → b.declaration.season ≡ c.season → line.period.first.0 ≤ line.period.last.0 → Gives 0 b.holdings r (replace_first (matches b.declaration.season Offered line) (accept b line) b.holdings)
  accepted_load b line r season ordered =
      rw season (replaced_load (matches c.season Offered line) (λ holding. cut_holding c.season line.period holding ++ confirmed (in_line holding.line line.period) ∷ []) 0 r (λ holding e. one_accepted line holding r ordered (match_is c.season Offered line holding e)) b.holdings)

-- ---- the test of each resource

below_other : (r n : ℕ) → r < suc n → eqb r n ≡ false → r < n
below_other r n lt other =
    elim (cases_Bool (nat_lt r n)) [
      | inl less ↦ ltb-true r n less
      | inr not_less ↦
          let ge = ltb-false r n not_less in
          let same : r ≡ n = omega (arith, lt, ge) in
          let t : eqb r n ≡ true = eq-eqb r n same in
          cc
    ]

pub below_pass : (passes : ℕ → Bool) (n : ℕ) → list_all passes (numbers_below n) ≡ true → (r : ℕ) → r < n → passes r ≡ true
below_pass passes zero all r lt = absurd (omega arith)
below_pass passes (suc n) all r lt =
    let both = both_true (list_all passes (numbers_below n)) (list_all passes (n ∷ [])) (sym (list_all-append passes (numbers_below n) (n ∷ [])) ∙ all) in
    let last = both_true (passes n) true both.1 in
    elim (cases_Bool (eqb r n)) [
      | inl same ↦ ap passes (eqb-true r n same) ∙ last.0
      | inr other ↦ below_pass passes n both.0 r (below_other r n lt other)
    ]

pub movements_fit-true : (c : Capacity) (list : List Movement) → movements_fit c list ≡ true → WindowsFit c list
unfolding movements_fit
movements_fit-true c list e r lt = leb-true (window_load c list r) (window_limit c r) (below_pass (λ q. nat_le (window_load c list q) (window_limit c q)) (declared_resources c) e r lt)

pub appended_fits : (d : Declaration) (holdings : List Holding) (holding : Holding) (movements : List Movement) → line_movements d.season holding.line ≡ movements → fits_beside d holdings movements ≡ true → WindowsFit (capacity_of d) (held_movements d.season (holdings ++ holding ∷ []))
appended_fits d holdings holding movements is e r lt =
    let c = capacity_of d in
    let fits = movements_fit-true c (held_movements d.season holdings ++ movements) e r lt in
    let whole = held_load-append c holdings (holding ∷ []) r in
    let last = held_load-cons c holding [] r in
    let beside = sum_by-append (λ m. cond (holds c (resource_at c r) m) 1 0) (held_movements d.season holdings) movements in
    let same : line_load c holding.line r ≡ window_load c movements r = ap (λ (ms : List Movement). window_load c ms r) is in
    omega (arith, fits, whole, last, beside, same)
