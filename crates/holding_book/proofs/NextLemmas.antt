-- Each row of the table keeps a book that fits.
use Rattle.std.proofs.Common.{◌≡◌, ℕ, suc, ◌+◌, ◌==◌, nat_le, Bool, true, false, cond, List, [], ◌∷◌, ◌++◌, filter, refl, ap, subst, arith, Option, Some, None}
use Rattle.std.specs.Prelude.{Contains, All}
use Rattle.std.proofs.lemmas.Bool.{eqb-true}
use Rattle.std.proofs.lemmas.List.Elements.{All-contains_itself, All-filter, filter_passes}
use Rattle.season_days.specs.Capacity.{capacity_of}
use Rattle.season_days.specs.declared.declaration.Declaration.{Declaration}
use Rattle.scr_reader.specs.Printed.{LineFits}
use Rattle.scr_reader.specs.declared.line.Line.{Line}
use Rattle.scr_reader.specs.declared.line.Code.{Code}
use Rattle.scr_reader.specs.declared.line.Code.TheVariants.{N, B, D, Z, A, F, C, R, L, K, H, O, U, W, X}
use Rattle.scr_reader.specs.declared.line.Item.{Item}
use Rattle.scr_reader.specs.declared.line.Item.TheVariants.{One, Pair, Query}
use Rattle.capacity_windows.specs.Windows.{Capacity, WindowsFit}
use Rattle.series_model.specs.declared.times.Times.{Times}
use Rattle.series_model.specs.Displacement.{cost_at}
use Rattle.series_model.specs.Movements.{movements_at}
use Rattle.series_model.specs.Options.{line_times, shifts_of}
use Rattle.series_model.specs.TimedLines.{line_at, line_movements}
use Rattle.holding_book.specs.declared.holding.Holding.{Holding}
use Rattle.holding_book.specs.declared.holding.State.TheVariants.{Confirmed, Offered}
use Rattle.holding_book.specs.declared.answer.Answer.TheVariants.{K as granted, KChanged as changed, Offer as offer, Held as held, W as not_processed}
use Rattle.holding_book.specs.Lines.{matches, replace_first}
use Rattle.holding_book.specs.Books.{SlotBook, BookFits, season_of, confirmed, offered, held_movements, clashes_with, fits_beside, cheaper, first_cheapest, best_times}
use Rattle.holding_book.specs.Asks.{AskOutcome, stays, offer_outcome, new_outcome, released, release_by, change_by, accept, accept_by, line_outcome, outcome, next, CanAsk}
use Rattle.holding_book.proofs.LoadLemmas.{CutCounts, MovementLoads, line_load, held_load}
use Rattle.holding_book.proofs.FitLemmas.{Gives, released_load, accepted_load, appended_fits}

-- ---- laws of the crates below

-- a line at the times of one of its shifts has the movements of these times
abbrev pub TimedMovements : Type 0
TimedMovements = (d : Declaration) (line : Line) (times : Times) → LineFits d.season line → Contains (shifts_of d line) times → line_movements d.season (line_at line times) ≡ movements_at d.season line times

-- a shift that costs nothing is none
abbrev pub FreeShift : Type 0
FreeShift = (d : Declaration) (line : Line) (times : Times) → LineFits d.season line → Contains (shifts_of d line) times → cost_at d line times ≡ 0 → line_times line ≡ times

-- ---- the cheapest is one of the options

first_all : (P : Times → Type 0) (x : Times) (xs : List Times) → All P (x ∷ xs) → P x
first_all P x xs all = all 0 x (omega arith)

rest_all : (P : Times → Type 0) (x : Times) (xs : List Times) → All P (x ∷ xs) → All P xs
rest_all P x xs all = λ k d lt. all (suc k) d (omega arith)

cheaper_is : (P : Times → Type 0) (cost : Times → ℕ) (x : Times) (best : Option Times) → P x → ((t : Times) → best ≡ Some t → P t) → P (cheaper cost x best)
cheaper_is P cost x None px later = px
cheaper_is P cost x (Some t) px later = elim (nat_le (cost x) (cost t)) as (λ b. P (cond b x t)) [ true ↦ px | false ↦ later t refl ]

pub cheapest_is : (P : Times → Type 0) (cost : Times → ℕ) (xs : List Times) → All P xs → (t : Times) → first_cheapest cost xs ≡ Some t → P t
cheapest_is P cost [] all t e = cc
cheapest_is P cost (x ∷ xs) all t e =
    let p = cheaper_is P cost x (first_cheapest cost xs) (first_all P x xs all) (cheapest_is P cost xs (rest_all P x xs all)) in
    let same : cheaper cost x (first_cheapest cost xs) ≡ t = cc in
    subst P same p

pub record IsFitting (b : SlotBook) (line : Line) (times : Times) : Type 0 where
  pub shift : Contains (shifts_of b.declaration line) times
  pub fits : fits_beside b.declaration b.holdings (movements_at (season_of b) line times) ≡ true

pub best_fits : (b : SlotBook) (line : Line) (times : Times) → best_times b line ≡ Some times → IsFitting b line times
best_fits b line times e =
    let test : Times → Bool = λ t. fits_beside b.declaration b.holdings (movements_at (season_of b) line t) in
    let shifts = shifts_of b.declaration line in
    record {
      shift = cheapest_is (λ t. Contains shifts t) (cost_at b.declaration line) (filter test shifts) (All-filter test (λ t. Contains shifts t) shifts (All-contains_itself shifts)) times e;
      fits = cheapest_is (λ t. test t ≡ true) (cost_at b.declaration line) (filter test shifts) (filter_passes test shifts) times e;
    }

-- ---- the rows

module _ (counts : CutCounts) (loads : MovementLoads) (timed : TimedMovements) (free : FreeShift) (b : SlotBook) (fits : BookFits b) where
  abbrev c : Capacity
  c = capacity_of b.declaration

  abbrev StillFits : AskOutcome → Type 0
  StillFits o = WindowsFit c (held_movements (season_of b) o.holdings)

  offer_fits : (line : Line) → LineFits (season_of b) line → (best : Option Times) → ((t : Times) → best ≡ Some t → IsFitting b line t) → StillFits (offer_outcome b line best)
  offer_fits line spelled None is = fits
  offer_fits line spelled (Some times) is =
      let found = is times refl in
      elim (cost_at b.declaration line times == 0) as (λ v. cost_at b.declaration line times == 0 ≡ v → StillFits (cond v (record { answer = granted; holdings = b.holdings ++ confirmed line ∷ [] }) (record { answer = offer (line_at line times); holdings = b.holdings ++ offered (line_at line times) ∷ [] }))) [
        | true ↦ λ e.
            let same = free b.declaration line times spelled found.shift (eqb-true (cost_at b.declaration line times) 0 e) in
            appended_fits b.declaration b.holdings (confirmed line) (movements_at (season_of b) line times) (ap (λ (t : Times). movements_at (season_of b) line t) same) found.fits
        | false ↦ λ e. appended_fits b.declaration b.holdings (offered (line_at line times)) (movements_at (season_of b) line times) (timed b.declaration line times spelled found.shift) found.fits
      ] refl

  new_fits : (line : Line) → LineFits (season_of b) line → StillFits (new_outcome b line)
  new_fits line spelled =
      elim (clashes_with (season_of b) line b.holdings) as (λ v. StillFits (cond v (stays b not_processed) (offer_outcome b line (best_times b line)))) [
        | true ↦ fits
        | false ↦ offer_fits line spelled (best_times b line) (best_fits b line)
      ]

  -- what is left loads no more
  left_fits : (given : ℕ → ℕ) (left : List Holding) → ((r : ℕ) → held_load c left r + given r ≡ held_load c b.holdings r) → WindowsFit c (held_movements (season_of b) left)
  left_fits given left loads_are r lt = omega (arith, loads_are r, fits r lt)

  release_fits : (given : ℕ → ℕ) (left : Option (List Holding)) → ((r : ℕ) → Gives counts loads c (given r) b.holdings r left) → StillFits (release_by b left)
  release_fits given None gives = fits
  release_fits given (Some left) gives = left_fits given left gives

  accept_fits : (left : Option (List Holding)) → ((r : ℕ) → Gives counts loads c 0 b.holdings r left) → StillFits (accept_by b left)
  accept_fits None gives = fits
  accept_fits (Some left) gives = left_fits (λ _. 0) left gives

  change_fits : (request : Line) (left : Option (List Holding)) → StillFits (change_by b request left)
  change_fits request None = fits
  change_fits request (Some left) =
      elim (clashes_with (season_of b) request left) as (λ v. StillFits (cond v (stays b not_processed) (cond (fits_beside b.declaration left (line_movements (season_of b) request)) (record { answer = changed; holdings = left ++ confirmed request ∷ [] }) (stays b held)))) [
        | true ↦ fits
        | false ↦ elim (fits_beside b.declaration left (line_movements (season_of b) request)) as (λ v. fits_beside b.declaration left (line_movements (season_of b) request) ≡ v → StillFits (cond v (record { answer = changed; holdings = left ++ confirmed request ∷ [] }) (stays b held))) [
          | true ↦ λ e. appended_fits b.declaration left (confirmed request) (line_movements (season_of b) request) refl e
          | false ↦ λ e. fits
        ] refl
      ]

  line_fits : (line : Line) → LineFits (season_of b) line → (code : Code) → StillFits (line_outcome b line code)
  line_fits line spelled N = new_fits line spelled
  line_fits line spelled B = new_fits line spelled
  line_fits line spelled D = release_fits (line_load c line) (released b Confirmed line) (λ r. released_load counts loads c b Confirmed line r refl spelled.ordered)
  line_fits line spelled Z = release_fits (line_load c line) (released b Offered line) (λ r. released_load counts loads c b Offered line r refl spelled.ordered)
  line_fits line spelled A = accept_fits (replace_first (matches (season_of b) Offered line) (accept b line) b.holdings) (λ r. accepted_load counts loads c b line r refl spelled.ordered)
  line_fits line spelled F = fits
  line_fits line spelled C = fits
  line_fits line spelled R = fits
  line_fits line spelled L = fits
  line_fits line spelled K = fits
  line_fits line spelled H = fits
  line_fits line spelled O = fits
  line_fits line spelled U = fits
  line_fits line spelled W = fits
  line_fits line spelled X = fits

  outcome_fits : (ask : Item) → CanAsk b.declaration ask → StillFits (outcome b ask)
  outcome_fits (One line) can = line_fits line can.spelled line.code
  outcome_fits (Pair historic request) can = change_fits request (released b Confirmed historic)
  outcome_fits (Query flight) can = fits

  pub next_fits : (ask : Item) → CanAsk b.declaration ask → BookFits (next b ask)
  unfolding next
  next_fits ask can = outcome_fits ask can
