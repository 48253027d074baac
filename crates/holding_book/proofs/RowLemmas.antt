-- What each row of the table makes ready is what the row says.
use Rattle.std.proofs.Common.{◌≡◌, ℕ, ◌+◌, ◌<◌, ◌≤◌, ◌^◌, Bool, true, false, cond, List, [], ◌∷◌, ◌++◌, length, map, refl, sym, ap, ◌∙◌, subst, arith, Option, Some, None, length-append}
use Rattle.std.specs.Prelude.{slice_index}
use Rattle.std.specs.Option.{ForSome}
use Rattle.season_days.specs.Capacity.{Capacity, capacity_of, declared_resources}
use Rattle.scr_reader.specs.Printed.{LineFits}
use Rattle.scr_reader.specs.declared.line.Flight.{Flight}
use Rattle.scr_reader.specs.declared.line.Line.{Line}
use Rattle.choice_problem.specs.Strips.{IsPartInRange}
use Rattle.choice_problem.specs.declared.strips.Strip.{Strip}
use Rattle.holding_book.specs.declared.holding.Holding.{Holding}
use Rattle.holding_book.specs.declared.holding.State.{State}
use Rattle.holding_book.specs.declared.holding.State.TheVariants.{Confirmed, Offered}
use Rattle.holding_book.specs.declared.change.Change.{Change}
use Rattle.holding_book.specs.declared.uses.Uses.{Uses}
use Rattle.holding_book.specs.declared.answer.Answer.TheVariants.{K as granted, KChanged as changed, Held as held_times, X as cancelled, W as not_processed, Listed as listed}
use Rattle.std.specs.Prelude.{All, filter}
use Rattle.std.specs.List.{slice_get}
use Rattle.std.proofs.lemmas.List.Elements.{All-map}
use Rattle.season_days.specs.Term.{Term}
use Rattle.season_days.specs.Periods.{cut_of, cut_periods}
use Rattle.season_days.specs.declared.day.Period.{Period}
use Rattle.holding_book.specs.declared.answer.Answer.{Answer}
use Rattle.holding_book.specs.Lines.{matches, cut_holding, in_period, replace_first, has_flight}
use Rattle.holding_book.specs.Books.{SlotBook, season_of, confirmed, places_of, held_movements, clashes_with, fits_beside}
use Rattle.series_model.specs.TimedLines.{line_movements}
use Rattle.holding_book.specs.Asks.{AskOutcome, stays, released, release_by, release_outcome, accept, accept_by, accept_outcome, change_by, change_outcome, query_outcome, listing}
use Rattle.holding_book.specs.Private.Places.{moved}
use Rattle.holding_book.specs.Private.Changes.{after_list_puts}
use Rattle.holding_book.specs.Private.Uses.{book_uses_of, AreInRange, AreNone, AreUsesOf}
use Rattle.holding_book.specs.Private.Steps.{first_place, replaced_at, GivesHoldings, HasFlightsOf, IsAskStep}
use Rattle.holding_book.proofs.LoadLemmas.{CutCounts, MovementLoads, line_load, held_load, held_load-append, held_load-cons}
use Rattle.holding_book.proofs.FitLemmas.{Gives, released_load, accepted_load}
use Rattle.holding_book.proofs.GrowthLemmas.{HasAtMost, released_few, replaced_length, accepted_length, cut_length}
use Rattle.holding_book.proofs.FindLemmas.{replaced-none, replaced-some}
use Rattle.holding_book.proofs.FitLemmas.{movements_fit-true}
use Rattle.holding_book.proofs.SearchLemmas.{movements_fit-from}
use Rattle.holding_book.specs.Private.Loads.{AreLeft}
use Rattle.choice_problem.specs.Counts.{HasRoom}
use Rattle.season_days.specs.declared.declaration.TheConstants.{HIGHEST_NIGHT_LIMIT}
use Rattle.capacity_windows.specs.Windows.{window_load, window_limit, holds, resource_at}
use Rattle.std.proofs.lemmas.List.Sums.{sum_by-append}
use Rattle.std.proofs.lemmas.Bool.{cases_Bool}
use Rattle.std.proofs.Common.{inl, inr}

-- no uses

none_uses : (uses : Uses) (r : ℕ) → AreNone uses → book_uses_of uses r ≡ 0
none_uses uses r none = rw (none.0, none.1) refl

none_there : (n : ℕ) (part : Option (List Strip)) → part ≡ None → ForSome part (IsPartInRange n)
none_there n part e = λ x some. cc

none_in_range : (n : ℕ) (uses : Uses) → AreNone uses → AreInRange n uses
none_in_range n uses none = (none_there n uses.one none.0, none_there n uses.two none.1)

-- the places after a change
abbrev pub AreRelisted : List Holding → Change → Type 0
AreRelisted holdings change = (flight : Flight) → places_of flight change.holdings.items ≡ after_list_puts change.lists flight (map (moved change.at change.count) (places_of flight holdings))

edit_of : (b : SlotBook) (left : List Holding) (change : Change) → change.holdings.items ≡ left → length left < 2 ^ 32 → AreRelisted b.holdings change → AreInRange (declared_resources (capacity_of b.declaration)) change.freed → AreInRange (declared_resources (capacity_of b.declaration)) change.taken → ((r : ℕ) → held_load (capacity_of b.declaration) left r + book_uses_of change.freed r ≡ held_load (capacity_of b.declaration) b.holdings r + book_uses_of change.taken r) → ((r : ℕ) → book_uses_of change.freed r < 2 ^ 20) → GivesHoldings b left change
edit_of b left change is few places freed taken loads few_uses = record {
  edit = record {
    few = rw is few;
    places = places;
    freed_there = freed;
    taken_there = taken;
    loads = λ r lt. rw is (loads r);
    few_uses = few_uses;
  };
  holdings_are = is;
}

-- ---- a release

module _ (b : SlotBook) (state : State) (line : Line) where
  abbrev test : Holding → Bool
  test = matches (season_of b) state line

  abbrev cut : Holding → List Holding
  cut = cut_holding (season_of b) line.period

  pub released-none : first_place test b.holdings ≡ None → released b state line ≡ None
  released-none e = replaced-none test cut b.holdings e

  pub released-some : (at : ℕ) (held : Holding) → first_place test b.holdings ≡ Some at → slice_get b.holdings at ≡ Some held → released b state line ≡ Some (replaced_at at (cut held) b.holdings)
  released-some at held e is = replaced-some test cut b.holdings at held e is

  pub released_count : (left : List Holding) → released b state line ≡ Some left → length left ≤ length b.holdings + 2
  released_count left e = subst (HasAtMost (length b.holdings + 2)) e (released_few b state line)

  module _ (counts : CutCounts) (loads : MovementLoads) (spelled : LineFits (season_of b) line) (few : length b.holdings + 4 < 2 ^ 32) where
    abbrev c : Capacity
    c = capacity_of b.declaration

    pub released_loads : (left : List Holding) → released b state line ≡ Some left → (r : ℕ) → held_load c left r + line_load c line r ≡ held_load c b.holdings r
    released_loads left e r = subst (Gives counts loads c (line_load c line r) b.holdings r) e (released_load counts loads c b state line r refl spelled.ordered)

    module _ (left : List Holding) (some : released b state line ≡ Some left) where
      pub release_answers : (release_outcome b state line).answer ≡ cancelled
      release_answers = ap (λ (o : Option (List Holding)). (release_by b o).answer) some

      pub release_gives : (change : Change) → change.holdings.items ≡ left → AreRelisted b.holdings change → AreUsesOf c (line_movements (season_of b) line) change.freed → AreNone change.taken → GivesHoldings b (release_outcome b state line).holdings change
      release_gives change holdings places freed taken =
          let gives : GivesHoldings b left change = edit_of b left change holdings (omega (arith, released_count left some, few)) places freed.there (none_in_range _ change.taken taken) (λ r. omega (arith, released_loads left some r, freed.loads r, none_uses change.taken r taken)) freed.few in
          subst (λ (o : Option (List Holding)). GivesHoldings b (release_by b o).holdings change) (sym some) gives

-- ---- an acceptance

module _ (b : SlotBook) (line : Line) where
  abbrev is_offered : Holding → Bool
  is_offered = matches (season_of b) Offered line

  abbrev pub accepted : Option (List Holding)
  accepted = replace_first is_offered (accept b line) b.holdings

  accepted_count : (left : List Holding) → accepted ≡ Some left → length left ≤ length b.holdings + 3
  accepted_count left e = subst (HasAtMost (length b.holdings + 3)) e (replaced_length is_offered (accept b line) 3 (accepted_length b line) b.holdings)

  pub accepted-none : first_place is_offered b.holdings ≡ None → accepted ≡ None
  accepted-none e = replaced-none is_offered (accept b line) b.holdings e

  pub accepted-some : (at : ℕ) (held : Holding) → first_place is_offered b.holdings ≡ Some at → slice_get b.holdings at ≡ Some held → accepted ≡ Some (replaced_at at (accept b line held) b.holdings)
  accepted-some at held e is = replaced-some is_offered (accept b line) b.holdings at held e is

  module _ (counts : CutCounts) (loads : MovementLoads) (spelled : LineFits (season_of b) line) (few : length b.holdings + 4 < 2 ^ 32) where
    accepted_loads : (left : List Holding) → accepted ≡ Some left → (r : ℕ) → held_load (capacity_of b.declaration) left r + 0 ≡ held_load (capacity_of b.declaration) b.holdings r
    accepted_loads left e r = subst (Gives counts loads (capacity_of b.declaration) 0 b.holdings r) e (accepted_load counts loads (capacity_of b.declaration) b line r refl spelled.ordered)

    module _ (left : List Holding) (some : accepted ≡ Some left) where
      pub accept_answers : (accept_outcome b line).answer ≡ granted
      accept_answers = ap (λ (o : Option (List Holding)). (accept_by b o).answer) some

      pub accept_gives : (change : Change) → change.holdings.items ≡ left → AreRelisted b.holdings change → AreNone change.freed → AreNone change.taken → GivesHoldings b (accept_outcome b line).holdings change
      accept_gives change holdings places freed taken =
          let gives : GivesHoldings b left change = edit_of b left change holdings (omega (arith, accepted_count left some, few)) places (none_in_range _ change.freed freed) (none_in_range _ change.taken taken) (λ r. omega (arith, accepted_loads left some r, none_uses change.freed r freed, none_uses change.taken r taken)) (λ r. omega (arith, none_uses change.freed r freed)) in
          subst (λ (o : Option (List Holding)). GivesHoldings b (accept_by b o).holdings change) (sym some) gives

-- ---- one comes at the end

one_more_load : (c : Capacity) (holdings : List Holding) (new : Holding) (r : ℕ) → held_load c (holdings ++ new ∷ []) r ≡ held_load c holdings r + line_load c new.line r
one_more_load c holdings new r = omega (arith, held_load-append c holdings (new ∷ []) r, held_load-cons c new [] r)

pub append_gives : (b : SlotBook) (new : Holding) (change : Change) → length b.holdings + 4 < 2 ^ 32 → change.holdings.items ≡ b.holdings ++ new ∷ [] → AreRelisted b.holdings change → AreNone change.freed → AreUsesOf (capacity_of b.declaration) (line_movements (season_of b) new.line) change.taken → GivesHoldings b (b.holdings ++ new ∷ []) change
append_gives b new change few holdings places freed taken =
    edit_of b (b.holdings ++ new ∷ []) change holdings (omega (arith, few, length-append b.holdings (new ∷ []))) places (none_in_range _ change.freed freed) taken.there
    (λ r. omega (arith, one_more_load (capacity_of b.declaration) b.holdings new r, none_uses change.freed r freed, taken.loads r)) (λ r. omega (arith, none_uses change.freed r freed))

-- ---- an exchange

module _ (counts : CutCounts) (loads : MovementLoads) (b : SlotBook) (historic request : Line) (spelled : LineFits (season_of b) historic) (few : length b.holdings + 4 < 2 ^ 32) (left : List Holding) (some : released b Confirmed historic ≡ Some left) where
  abbrev capacity : Capacity
  capacity = capacity_of b.declaration

  abbrev fits : Bool
  fits = fits_beside b.declaration left (line_movements (season_of b) request)

  loads_left : (r : ℕ) → held_load capacity left r + line_load capacity historic r ≡ held_load capacity b.holdings r
  loads_left r = released_loads b Confirmed historic counts loads spelled few left some r

  -- the outcome, by its two tests
  pub by_tests : (clash fit : Bool) → clashes_with (season_of b) request left ≡ clash → fits ≡ fit → change_outcome b historic request ≡ cond clash (stays b not_processed) (cond fit (record { answer = changed; holdings = left ++ confirmed request ∷ [] }) (stays b held_times))
  by_tests clash fit c f = ap (change_by b request) some ∙ rw (c, f) refl

  pub swap_gives : (change : Change) → change.holdings.items ≡ left ++ confirmed request ∷ [] → AreRelisted b.holdings change → AreUsesOf capacity (line_movements (season_of b) historic) change.freed → AreUsesOf capacity (line_movements (season_of b) request) change.taken → GivesHoldings b (left ++ confirmed request ∷ []) change
  swap_gives change holdings places freed taken =
      edit_of b (left ++ confirmed request ∷ []) change holdings (omega (arith, few, released_count b Confirmed historic left some, length-append left (confirmed request ∷ []))) places freed.there taken.there
      (λ r. omega (arith, one_more_load capacity left (confirmed request) r, loads_left r, freed.loads r, taken.loads r)) freed.few

  module _ (counted : List ℕ) (kept : AreLeft capacity (held_movements (season_of b) b.holdings) counted) (freed taken : Uses) (given : AreUsesOf capacity (line_movements (season_of b) historic) freed) (asked : AreUsesOf capacity (line_movements (season_of b) request) taken) where
    abbrev Serves : Type 0
    Serves = (r : ℕ) → r < length counted → book_uses_of taken r ≤ slice_index counted r + book_uses_of freed r

    beside_load : (r : ℕ) → window_load capacity (held_movements (season_of b) left ++ line_movements (season_of b) request) r ≡ held_load capacity left r + line_load capacity request r
    beside_load r = sum_by-append (λ m. cond (holds capacity (resource_at capacity r) m) 1 0) (held_movements (season_of b) left) (line_movements (season_of b) request)

    pub serves-fits : Serves → fits ≡ true
    serves-fits serves = movements_fit-from capacity (held_movements (season_of b) left ++ line_movements (season_of b) request) (λ r lt.
        let n : r < length counted = omega (arith, lt, kept.count) in
        omega (arith, beside_load r, loads_left r, kept.each r lt, serves r n, given.loads r, asked.loads r))

    pub fits-serves : fits ≡ true → Serves
    fits-serves fit r n =
        let lt : r < declared_resources capacity = omega (arith, n, kept.count) in
        omega (arith, beside_load r, loads_left r, kept.each r lt, given.loads r, asked.loads r, movements_fit-true capacity (held_movements (season_of b) left ++ line_movements (season_of b) request) fit r lt)

    pub not_served : (Serves → ⊥) → fits ≡ false
    not_served not_there = elim (cases_Bool fits) [
      | inl fit ↦ absurd (not_there (fits-serves fit))
      | inr not_fit ↦ not_fit
    ]

    -- room to give the uses back before the test
    pub room_for_given : ((r : ℕ) → window_limit capacity r ≤ HIGHEST_NIGHT_LIMIT) → HasRoom counted (λ r. book_uses_of freed r)
    room_for_given limits r n =
        let lt : r < declared_resources capacity = omega (arith, n, kept.count) in
        omega (arith, kept.each r lt, limits r, given.few r)

-- ---- what is made ready, as a step

some_is : {X : Type 0} (P : X → Type 0) (x : X) → P x → ForSome (Some x) P
some_is P x px = λ y e. let same : x ≡ y = cc in subst P same px

pub made : (b : SlotBook) (o : AskOutcome) (answer : Answer) (change : Change) → answer ≡ o.answer → GivesHoldings b o.holdings change → IsAskStep b o (record { answer = answer; change = Some change })
made b o answer change is gives = record {
  answer_is = is;
  some = some_is (GivesHoldings b o.holdings) change gives;
  none = λ e. cc;
}

one_holding : (l m : Line) (s t : State) → l ≡ m → s ≡ t → let one : Holding = record { line = l; state = s } in let other : Holding = record { line = m; state = t } in one ≡ other
one_holding l m s t e f = cc

pub same_holding : (one : Holding) (line : Line) (state : State) → one.line ≡ line → one.state ≡ state → one ≡ record { line = line; state = state }
same_holding one line state e f = one_holding one.line line one.state state e f

-- ---- the flights of what replaces a holding

pub cut_flights : (season : Term) (period : Period) (holding : Holding) → All (HasFlightsOf holding.line) (cut_holding season period holding)
cut_flights season period holding =
    let parts = cut_periods (cut_of season holding.line.period period) in
    All-map (HasFlightsOf holding.line) (in_period holding) parts (λ k d lt flight. refl)

pub flights_at : (holdings : List Holding) (at : ℕ) (held : Holding) (others : List Holding) → slice_get holdings at ≡ Some held → All (HasFlightsOf held.line) others → ForSome (slice_get holdings at) (λ holding. All (HasFlightsOf holding.line) others)
flights_at holdings at held others is all = λ x e.
    let same : held ≡ x = some_one held x (sym is ∙ e) in
    subst (λ (h : Holding). All (HasFlightsOf h.line) others) same all
  where
    some_one : (one other : Holding) → Some one ≡ Some other → one ≡ other
    some_one one other e = cc

pub few_parts : (season : Term) (period : Period) (holding : Holding) (parts : List Holding) → parts ≡ cut_holding season period holding → length parts ≤ 3
few_parts season period holding parts is = omega (arith, ap (λ (l : List Holding). length l) is, cut_length season period holding)

-- ---- a question

pub query-none : (b : SlotBook) (flight : Flight) (found : List Holding) → found ≡ filter (λ holding. has_flight flight holding.line) b.holdings → length found ≡ 0 → query_outcome b flight ≡ stays b not_processed
query-none b flight [] is n = ap (λ (l : List Holding). stays b (listing b l)) (sym is)
query-none b flight (holding ∷ found) is n = absurd (omega (arith, n))

pub query-some : (b : SlotBook) (flight : Flight) (found : List Holding) → found ≡ filter (λ holding. has_flight flight holding.line) b.holdings → 0 < length found → query_outcome b flight ≡ stays b (listed found)
query-some b flight [] is n = absurd (omega (arith, n))
query-some b flight (holding ∷ found) is n = ap (λ (l : List Holding). stays b (listing b l)) (sym is)
