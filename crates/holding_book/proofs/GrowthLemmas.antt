-- How many holdings a book has after a change.
use Rattle.std.proofs.Common.{◌≡◌, ℕ, suc, ◌+◌, ◌≤◌, Bool, true, false, cond, eqb, List, [], ◌∷◌, ◌++◌, length, refl, arith, length-append, Option, Some, None}
use Rattle.std.proofs.lemmas.List.{length-map}
use Rattle.std.specs.List.{cons_option}
use Rattle.season_days.specs.Term.{Term}
use Rattle.season_days.specs.Periods.{cut_of}
use Rattle.season_days.specs.declared.day.Period.{Period}
use Rattle.season_days.specs.declared.day.Cut.{Cut}
use Rattle.scr_reader.specs.declared.line.Line.{Line}
use Rattle.scr_reader.specs.declared.line.Item.{Item}
use Rattle.scr_reader.specs.declared.line.Item.TheVariants.{One, Pair, Query}
use Rattle.scr_reader.specs.declared.line.Code.{Code}
use Rattle.scr_reader.specs.declared.line.Code.TheVariants.{N, B, D, Z, A, F, C, R, L, K, H, O, U, W, X}
use Rattle.series_model.specs.declared.times.Times.{Times}
use Rattle.holding_book.specs.declared.holding.Holding.{Holding}
use Rattle.holding_book.specs.declared.holding.State.{State}
use Rattle.holding_book.specs.declared.holding.State.TheVariants.{Confirmed, Offered}
use Rattle.std.specs.Option.{option_map}
use Rattle.series_model.specs.Displacement.{cost_at}
use Rattle.series_model.specs.TimedLines.{line_at, line_movements}
use Rattle.holding_book.specs.declared.answer.Answer.TheVariants.{K as granted, KChanged as changed, Offer as offer, Held as held, W as not_processed}
use Rattle.season_days.specs.Periods.{cut_periods}
use Rattle.holding_book.specs.Lines.{in_period, cut_holding, replace_first, matches}
use Rattle.holding_book.specs.Books.{SlotBook, season_of, confirmed, offered, clashes_with, fits_beside, best_times}
use Rattle.holding_book.specs.Asks.{AskOutcome, stays, offer_outcome, new_outcome, released, release_by, change_by, accept, accept_by, line_outcome, outcome, next}

cons_length : {X : Type 0} (x : Option X) (xs : List X) → length (cons_option x xs) ≤ suc (length xs)
cons_length None xs = omega arith
cons_length (Some x) xs = omega arith

periods_length : (cut : Cut) → length (cut_periods cut) ≤ 3
periods_length cut =
    let a = cons_length cut.after [] in
    let b = cons_length cut.between (cons_option cut.after []) in
    let c = cons_length cut.before (cons_option cut.between (cons_option cut.after [])) in
    omega (arith, a, b, c)

pub cut_length : (season : Term) (period : Period) (holding : Holding) → length (cut_holding season period holding) ≤ 3
cut_length season period holding =
    let e = length-map (cut_periods (cut_of season holding.line.period period)) (in_period holding) in
    omega (arith, e, periods_length (cut_of season holding.line.period period))

abbrev pub HasAtMost : ℕ → Option (List Holding) → Type 0
HasAtMost n None = Unit {0}
HasAtMost n (Some holdings) = length holdings ≤ n

behind : (n : ℕ) (holding : Holding) (rest : Option (List Holding)) → HasAtMost n rest → HasAtMost (suc n) (option_map (λ holdings. holding ∷ holdings) rest)
behind n holding None h = tt
behind n holding (Some rest) h = omega (arith, h)

pub replaced_length : (test : Holding → Bool) (others : Holding → List Holding) (k : ℕ) → ((holding : Holding) → length (others holding) ≤ suc k) → (holdings : List Holding) → HasAtMost (length holdings + k) (replace_first test others holdings)
replaced_length test others k few [] = tt
replaced_length test others k few (holding ∷ holdings) =
    elim (test holding) as (λ b. HasAtMost (suc (length holdings) + k) (cond b (Some (others holding ++ holdings)) (option_map (λ rest. holding ∷ rest) (replace_first test others holdings)))) [
      | true ↦ omega (arith, length-append (others holding) holdings, few holding)
      | false ↦
          let n : suc (length holdings) + k ≡ suc (length holdings + k) = omega arith in
          rw n (behind (length holdings + k) holding (replace_first test others holdings) (replaced_length test others k few holdings))
    ]

-- ---- the rows of the table

abbrev IsFew : SlotBook → AskOutcome → Type 0
IsFew b o = length o.holdings ≤ length b.holdings + 3

offer_few : (b : SlotBook) (line : Line) (best : Option Times) → IsFew b (offer_outcome b line best)
offer_few b line None = omega arith
offer_few b line (Some times) =
    elim (eqb (cost_at b.declaration line times) 0) as (λ v. IsFew b (cond v (record { answer = granted; holdings = b.holdings ++ confirmed line ∷ [] }) (record { answer = offer (line_at line times); holdings = b.holdings ++ offered (line_at line times) ∷ [] }))) [
      | true ↦ omega (arith, length-append b.holdings (confirmed line ∷ []))
      | false ↦ omega (arith, length-append b.holdings (offered (line_at line times) ∷ []))
    ]

new_few : (b : SlotBook) (line : Line) → IsFew b (new_outcome b line)
new_few b line =
    elim (clashes_with (season_of b) line b.holdings) as (λ v. IsFew b (cond v (stays b not_processed) (offer_outcome b line (best_times b line)))) [
      | true ↦ omega arith
      | false ↦ offer_few b line (best_times b line)
    ]

release_few : (b : SlotBook) (left : Option (List Holding)) → HasAtMost (length b.holdings + 2) left → IsFew b (release_by b left)
release_few b None h = omega arith
release_few b (Some left) h = omega (arith, h)

change_few : (b : SlotBook) (request : Line) (left : Option (List Holding)) → HasAtMost (length b.holdings + 2) left → IsFew b (change_by b request left)
change_few b request None h = omega arith
change_few b request (Some left) h =
    elim (clashes_with (season_of b) request left) as (λ v. IsFew b (cond v (stays b not_processed) (cond (fits_beside b.declaration left (line_movements (season_of b) request)) (record { answer = changed; holdings = left ++ confirmed request ∷ [] }) (stays b held)))) [
      | true ↦ omega arith
      | false ↦ elim (fits_beside b.declaration left (line_movements (season_of b) request)) as (λ v. IsFew b (cond v (record { answer = changed; holdings = left ++ confirmed request ∷ [] }) (stays b held))) [
        | true ↦ omega (arith, length-append left (confirmed request ∷ []), h)
        | false ↦ omega arith
      ]
    ]

accept_few : (b : SlotBook) (holdings : Option (List Holding)) → HasAtMost (length b.holdings + 3) holdings → IsFew b (accept_by b holdings)
accept_few b None h = omega arith
accept_few b (Some holdings) h = h

pub released_few : (b : SlotBook) (state : State) (line : Line) → HasAtMost (length b.holdings + 2) (released b state line)
released_few b state line = replaced_length (matches (season_of b) state line) (cut_holding (season_of b) line.period) 2 (cut_length (season_of b) line.period) b.holdings

pub accepted_length : (b : SlotBook) (line : Line) (holding : Holding) → length (accept b line holding) ≤ 4
accepted_length b line holding = omega (arith, length-append (cut_holding (season_of b) line.period holding) (confirmed (in_period holding line.period).line ∷ []), cut_length (season_of b) line.period holding)

line_few : (b : SlotBook) (line : Line) (code : Code) → IsFew b (line_outcome b line code)
line_few b line N = new_few b line
line_few b line B = new_few b line
line_few b line D = release_few b (released b Confirmed line) (released_few b Confirmed line)
line_few b line Z = release_few b (released b Offered line) (released_few b Offered line)
line_few b line A = accept_few b (replace_first (matches (season_of b) Offered line) (accept b line) b.holdings) (replaced_length (matches (season_of b) Offered line) (accept b line) 3 (accepted_length b line) b.holdings)
line_few b line F = omega arith
line_few b line C = omega arith
line_few b line R = omega arith
line_few b line L = omega arith
line_few b line K = omega arith
line_few b line H = omega arith
line_few b line O = omega arith
line_few b line U = omega arith
line_few b line W = omega arith
line_few b line X = omega arith

outcome_few : (b : SlotBook) (ask : Item) → IsFew b (outcome b ask)
outcome_few b (One line) = line_few b line line.code
outcome_few b (Pair historic request) = change_few b request (released b Confirmed historic) (released_few b Confirmed historic)
outcome_few b (Query flight) = omega arith

pub next-few : (b : SlotBook) (ask : Item) → length (next b ask).holdings ≤ length b.holdings + 3
unfolding next
next-few b ask = outcome_few b ask

pub next-declaration : (b : SlotBook) (ask : Item) → (next b ask).declaration ≡ b.declaration
unfolding next
next-declaration b ask = refl
