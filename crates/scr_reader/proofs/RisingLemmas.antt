-- The lines by which messages and items are named rise.
use Rattle.std.proofs.Common.{◌≡◌, ℕ, zero, suc, ◌+◌, ◌<◌, ◌≤◌, List, [], ◌∷◌, ◌++◌, length, map, Option, Some, None, refl, sym, ap, subst, arith, inl, inr}
use Rattle.std.specs.Prelude.{All}
use Rattle.std.specs.List.Sorted.{IsStrictlyIncreasing}
use Rattle.std.proofs.lemmas.Bool.{cases_Bool}
use Rattle.std.proofs.lemmas.List.{length-drop}
use Rattle.season_days.specs.Term.{Term}
use Rattle.slot_text.specs.Lines.{lines_of}
use Rattle.slot_text.specs.Fields.{is_blank_line}
use Rattle.scr_reader.specs.Rows.{Row, AreRows}
use Rattle.scr_reader.specs.Messages.{header_length, header_of, body_of, Run, begins_in_run, onto_run, runs_of, row_item, place, items_of, IsMessage, AreMessages, runs_in, ReadsAll}
use Rattle.scr_reader.specs.Rising.{item_line, named_lines, all_named_lines}
use Rattle.scr_reader.specs.declared.line.Item.{Item}
use Rattle.scr_reader.specs.declared.message.Placed.{Placed}
use Rattle.scr_reader.specs.declared.message.Message.{Message}
use Rattle.scr_reader.proofs.RunLemmas.{runs_skip, runs_one, runs_onto}
use Rattle.scr_reader.proofs.MessageLemmas.{lengths, header_fits}

-- numbers that rise, from a low one on and below a high one
abbrev Rises : ℕ → ℕ → List ℕ → Type 0
Rises low high [] = low ≤ high
Rises low high (x ∷ xs) = (low ≤ x) × Rises (x + 1) high xs

rises_from : (a b high : ℕ) (xs : List ℕ) → a ≤ b → Rises b high xs → Rises a high xs
rises_from a b high [] le rises = omega (arith, le, rises)
rises_from a b high (x ∷ xs) le rises = (omega (arith, le, rises.0), rises.1)

rises_append : (a b c : ℕ) (xs ys : List ℕ) → Rises a b xs → Rises b c ys → Rises a c (xs ++ ys)
rises_append a b c [] ys x y = rises_from a b c ys x y
rises_append a b c (k ∷ xs) ys x y = (x.0, rises_append (k + 1) b c xs ys x.1 y)

rises_within : (a b : ℕ) (xs : List ℕ) → Rises a b xs → a ≤ b
rises_within a b [] x = x
rises_within a b (k ∷ xs) x = omega (arith, x.0, rises_within (k + 1) b xs x.1)

-- ---- the items of a message

rows_length : (season : Term) (lines : List (List ℕ)) (rows : List (Option Row)) → AreRows season lines rows → length rows ≡ length lines
rows_length season [] [] are = refl
rows_length season [] (row ∷ rows) are = absurd are
rows_length season (line ∷ lines) [] are = absurd are
rows_length season (line ∷ lines) (row ∷ rows) are = ap (λ (n : ℕ). suc n) (rows_length season lines rows are.1)

place_rises : (number high : ℕ) (item : Option Item) (items : List Placed) → Rises (number + 1) high (map item_line items) → Rises number high (map item_line (place number item items))
place_rises number high None items rises = rises_from number (number + 1) high (map item_line items) (omega arith) rises
place_rises number high (Some item) items rises = (omega arith, rises)

items_rise : (number : ℕ) (rows : List (Option Row)) → Rises number (number + length rows) (map item_line (items_of number rows))
unfolding items_of
items_rise number [] = omega arith
items_rise number (row ∷ rows) =
    let count : number + 1 + length rows ≡ number + length (row ∷ rows) = omega arith in
    let rest : Rises (number + 1) (number + length (row ∷ rows)) (map item_line (items_of (number + 1) rows)) =
    subst (λ (high : ℕ). Rises (number + 1) high (map item_line (items_of (number + 1) rows))) count (items_rise (number + 1) rows) in
    place_rises number (number + length (row ∷ rows)) (row_item row rows) (items_of (number + 1) rows) rest

message_rises : (run : Run) (message : Message) → IsMessage run message → Rises run.number (run.number + length run.lines) (named_lines message)
message_rises run message is =
    let head = header_length run.lines in
    let body : length is.rows ≡ length (body_of run.lines) = rows_length message.season (body_of run.lines) is.rows is.read in
    let high : run.number + head + length is.rows ≡ run.number + length run.lines = omega (arith, body, length-drop head run.lines, header_fits run.lines (header_of message) is.header) in
    let items : Rises (run.number + head) (run.number + head + length is.rows) (map item_line message.items) =
    subst (λ (l : List Placed). Rises (run.number + head) (run.number + head + length is.rows) (map item_line l)) (sym is.items) (items_rise (run.number + head) is.rows) in
    let below : Rises (run.number + head) (run.number + length run.lines) (map item_line message.items) =
    subst (λ (h : ℕ). Rises (run.number + head) h (map item_line message.items)) high items in
    (omega (arith, is.line), rises_from (message.line + 1) (run.number + head) (run.number + length run.lines) (map item_line message.items) (omega (arith, is.line, lengths run.lines)) below)

-- ---- runs

abbrev RunsRise : ℕ → ℕ → List Run → Type 0
RunsRise low high [] = low ≤ high
RunsRise low high (run ∷ runs) = (low ≤ run.number) × RunsRise (run.number + length run.lines) high runs

runs_from : (a b high : ℕ) (runs : List Run) → a ≤ b → RunsRise b high runs → RunsRise a high runs
runs_from a b high [] le rises = omega (arith, le, rises)
runs_from a b high (run ∷ runs) le rises = (omega (arith, le, rises.0), rises.1)

onto_rises : (number high : ℕ) (line : List ℕ) (runs : List Run) → RunsRise (number + 1) high runs → RunsRise number high (onto_run number line runs)
onto_rises number high line [] rises = (omega arith, omega (arith, rises))
onto_rises number high line (run ∷ runs) rises = (omega arith, runs_from (number + length (line ∷ run.lines)) (run.number + length run.lines) high runs (omega (arith, rises.0)) rises.1)

runs_rise : (number : ℕ) (lines : List (List ℕ)) → RunsRise number (number + length lines) (runs_of number lines)
unfolding runs_of
runs_rise number [] = omega arith
runs_rise number (line ∷ lines) =
    let high = number + length (line ∷ lines) in
    let count : number + 1 + length lines ≡ high = omega arith in
    let rest : RunsRise (number + 1) high (runs_of (number + 1) lines) = subst (λ (h : ℕ). RunsRise (number + 1) h (runs_of (number + 1) lines)) count (runs_rise (number + 1) lines) in
    elim (cases_Bool (is_blank_line line)) [
      | inl empty ↦ subst (λ (r : List Run). RunsRise number high r) (sym (runs_skip number line lines empty)) (runs_from number (number + 1) high (runs_of (number + 1) lines) (omega arith) rest)
      | inr full ↦ elim (cases_Bool (begins_in_run lines)) [
        | inl goes_on ↦ subst (λ (r : List Run). RunsRise number high r) (sym (runs_onto number line lines full goes_on)) (onto_rises number high line (runs_of (number + 1) lines) rest)
        | inr ends ↦ subst (λ (r : List Run). RunsRise number high r) (sym (runs_one number line lines full ends)) (omega arith, rest)
      ]
    ]

messages_rise : (low high : ℕ) (runs : List Run) (messages : List Message) → RunsRise low high runs → AreMessages runs messages → Rises low high (all_named_lines messages)
messages_rise low high [] [] rises are = rises
messages_rise low high [] (message ∷ messages) rises are = absurd are
messages_rise low high (run ∷ runs) [] rises are = absurd are
messages_rise low high (run ∷ runs) (message ∷ messages) rises are =
    let here = rises_from low run.number (run.number + length run.lines) (named_lines message) rises.0 (message_rises run message are.0) in
    rises_append low (run.number + length run.lines) high (named_lines message) (all_named_lines messages) here (messages_rise (run.number + length run.lines) high runs messages rises.1 are.1)

-- ---- in std's words

rising_step : (x y : ℕ) (xs : List ℕ) → x < y → IsStrictlyIncreasing (y ∷ xs) → IsStrictlyIncreasing (x ∷ y ∷ xs)
rising_step x y xs lt rest zero within = lt
rising_step x y xs lt rest (suc k) within =
    let next : suc k + 1 ≡ suc (k + 1) = omega arith in
    rw next (rest k (omega (arith, within)))

between_step : (low high x : ℕ) (xs : List ℕ) → (low ≤ x) × (x ≤ high) → All (λ y. (x + 1 ≤ y) × (y ≤ high)) xs → All (λ y. (low ≤ y) × (y ≤ high)) (x ∷ xs)
between_step low high x xs here rest zero d lt = here
between_step low high x xs here rest (suc k) d lt = let at = rest k d (omega (arith, lt)) in (omega (arith, here.0, at.0), at.1)

increasing : (low high : ℕ) (xs : List ℕ) → Rises low high xs → IsStrictlyIncreasing xs
increasing low high [] rises = λ k lt. absurd (omega (arith, lt))
increasing low high (x ∷ []) rises = λ k lt. absurd (omega (arith, lt))
increasing low high (x ∷ y ∷ xs) rises = rising_step x y xs (omega (arith, rises.1.0)) (increasing (x + 1) high (y ∷ xs) rises.1)

all_between : (low high : ℕ) (xs : List ℕ) → Rises low (1 + high) xs → All (λ x. (low ≤ x) × (x ≤ high)) xs
all_between low high [] rises = λ k d lt. absurd (omega (arith, lt))
all_between low high (x ∷ xs) rises = between_step low high x xs (rises.0, omega (arith, rises_within (x + 1) (1 + high) xs rises.1)) (all_between (x + 1) high xs rises.1)

pub text_rises : (bytes : List ℕ) (messages : List Message) → ReadsAll bytes messages → IsStrictlyIncreasing (all_named_lines messages)
text_rises bytes messages are =
    let lines = lines_of bytes in
    increasing 1 (1 + length lines) (all_named_lines messages) (messages_rise 1 (1 + length lines) (runs_in bytes) messages (runs_rise 1 lines) are)

pub text_between : (bytes : List ℕ) (messages : List Message) → ReadsAll bytes messages → All (λ line. (1 ≤ line) × (line ≤ length (lines_of bytes))) (all_named_lines messages)
text_between bytes messages are =
    let lines = lines_of bytes in
    all_between 1 (length lines) (all_named_lines messages) (messages_rise 1 (1 + length lines) (runs_in bytes) messages (runs_rise 1 lines) are)
