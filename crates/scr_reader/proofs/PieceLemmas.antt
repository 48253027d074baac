-- Pieces of a text, one run after the other.
use Rattle.std.proofs.Common.{◌≡◌, ◌≢◌, ℕ, ◌+◌, ◌-◌, ◌<◌, ◌≤◌, true, false, List, [], ◌∷◌, ◌++◌, length, take, drop, refl, sym, ap, subst, ◌∙◌, arith, inl, inr, append_assoc, length-drop}
use Rattle.std.proofs.lemmas.Bool.{cases_Bool}
use Rattle.std.proofs.lemmas.List.{length-take-le, append-nil, drop_all}
use Rattle.std.specs.Prelude.{slice_range}
use Rattle.slot_text.specs.Lines.{first_line, after_line, lines_of}
use Rattle.slot_text.specs.Fields.{is_blank_line}
use Rattle.scr_reader.specs.Messages.{Run, run_from, runs_of, runs_in, front_length}
use Rattle.scr_reader.specs.Places.{after_lines, StandsAt, StandAt}
use Rattle.scr_reader.specs.declared.message.Piece.{Piece}
use Rattle.scr_reader.proofs.RunLemmas.{front_none, front_full, front_empty, runs_skip}
use Rattle.scr_reader.proofs.TextLemmas.{first_run, no_runs}
use Rattle.scr_reader.proofs.PlaceLemmas.{drop_on, after_at, one_more_line, more_lines, lines_after, lines_before, lines_split, after_zero}

-- ---- the run in front of a text

-- so many lines and bytes have been looked at, none of them empty, and this follows
pub record InFront (text : List ℕ) (lines bytes : ℕ) (rest : List ℕ) : Type 0 where
  pub few : lines ≤ bytes
  pub placed : bytes + length rest ≡ length text
  pub at : rest ≡ drop bytes text
  pub behind : rest ≡ after_lines lines text
  pub full : front_length (lines_of text) ≡ lines + front_length (lines_of rest)

pub front_start : (text rest : List ℕ) → rest ≡ text → InFront text 0 0 rest
front_start text rest e = rw e (record { few = omega arith; placed = omega arith; at = refl; behind = sym (after_zero text); full = omega arith })

pub front_line : (text rest more line : List ℕ) (lines bytes : ℕ) → more ≡ after_line rest → length more < length rest → lines_of rest ≡ line ∷ lines_of more → is_blank_line line ≡ false → InFront text lines bytes rest
    → InFront text (lines + 1) (length text - length more) more
front_line text rest more line lines bytes after less split full front =
    let count : bytes + (length rest - length more) ≡ length text - length more = omega (arith, less, front.placed) in
    record {
      few = omega (arith, front.few, front.placed, less);
      placed = omega (arith, front.placed, less);
      at = after_at rest more after ∙ ap (λ (l : List ℕ). drop (length rest - length more) l) front.at ∙ drop_on text bytes (length rest - length more) ∙ ap (λ (k : ℕ). drop k text) count;
      behind = after ∙ ap after_line front.behind ∙ sym (one_more_line lines text);
      full = omega (arith, front.full, ap front_length split, front_full line (lines_of more) full);
    }

pub front_done : (text rest line : List ℕ) (more : List (List ℕ)) (lines bytes : ℕ) → lines_of rest ≡ line ∷ more → is_blank_line line ≡ true → InFront text lines bytes rest → lines ≡ front_length (lines_of text)
front_done text rest line more lines bytes split empty front = omega (arith, front.full, ap front_length split, front_empty line more empty)

pub front_ends : (text rest : List ℕ) (lines bytes : ℕ) → rest ≡ [] → InFront text lines bytes rest → lines ≡ front_length (lines_of text)
unfolding lines_of
front_ends text rest lines bytes none front =
    let nothing : front_length (lines_of rest) ≡ 0 = ap (λ (l : List ℕ). front_length (lines_of l)) none ∙ front_none in
    omega (arith, front.full, nothing)

-- ---- pieces

-- the pieces of the runs before a place, where a line of the number begins
pub record IsCut (bytes : List ℕ) (pieces : List Piece) (line from : ℕ) : Type 0 where
  pub some : 1 ≤ line
  pub few : line ≤ from + 1
  pub within : from ≤ length bytes
  pub at : drop from bytes ≡ after_lines (line - 1) bytes
  pub runs : List Run
  pub stand : StandAt bytes runs pieces
  pub so_far : runs_in bytes ≡ runs ++ runs_of line (lines_of (drop from bytes))

pub cut_start : (bytes : List ℕ) (pieces : List Piece) → pieces ≡ [] → IsCut bytes pieces 1 0
cut_start bytes pieces none = rw none (record { some = omega arith; few = omega arith; within = omega arith; at = sym (after_zero bytes); runs = []; stand = tt; so_far = refl })

stand_more : (bytes : List ℕ) (runs : List Run) (pieces : List Piece) (run : Run) (piece : Piece) → StandAt bytes runs pieces → StandsAt bytes run piece → StandAt bytes (runs ++ run ∷ []) (pieces ++ piece ∷ [])
stand_more bytes [] [] run piece stand is = (is, tt)
stand_more bytes [] (p ∷ pieces) run piece stand is = absurd stand
stand_more bytes (r ∷ runs) [] run piece stand is = absurd stand
stand_more bytes (r ∷ runs) (p ∷ pieces) run piece stand is = (stand.0, stand_more bytes runs pieces run piece stand.1 is)

front_within : (lines : List (List ℕ)) → front_length lines ≤ length lines
front_within [] = omega (arith, front_none)
front_within (line ∷ lines) =
    elim (cases_Bool (is_blank_line line)) [
      | inl empty ↦ omega (arith, front_empty line lines empty)
      | inr full ↦ omega (arith, front_full line lines full, front_within lines)
    ]

-- a run more
pub cut_run_more : (bytes rest : List ℕ) (pieces : List Piece) (line from count size : ℕ) → rest ≡ drop from bytes → count ≢ 0 → count ≡ front_length (lines_of rest) → count ≤ size → size ≤ length rest → drop size rest ≡ after_lines count rest
    → IsCut bytes pieces line from → IsCut bytes (pieces ++ record { line = line; from = from; to = from + size } ∷ []) (line + count) (from + size)
cut_run_more bytes rest pieces line from count size e some front few within behind cut =
    let lines = lines_of rest in
    let run = run_from line (take count lines) in
    let size_of = length-drop from bytes in
    let moved : drop (from + size) bytes ≡ after_lines count rest = sym (drop_on bytes from size) ∙ ap (λ (l : List ℕ). drop size l) (sym e) ∙ behind in
    let places : line - 1 + count ≡ line + count - 1 = omega (arith, cut.some) in
    let here : rest ≡ after_lines (line - 1) bytes = e ∙ cut.at in
    let after : drop (from + size) bytes ≡ after_lines (line - 1 + count) bytes = moved ∙ ap (after_lines count) here ∙ sym (more_lines (line - 1) count bytes) in
    let counted : length (take count lines) ≡ count = length-take-le count lines (omega (arith, front, front_within lines)) in
    let ends : drop (from + size) bytes ≡ after_lines (line - 1 + length (take count lines)) bytes = after ∙ ap (λ (n : ℕ). after_lines (line - 1 + n) bytes) (sym counted) in
    let width : from + size - from ≡ size = omega arith in
    let part : slice_range bytes from (from + size) ≡ take size rest = ap (λ (n : ℕ). take n (drop from bytes)) width ∙ ap (λ (l : List ℕ). take size l) (sym e) in
    let inside : from + size ≤ length bytes = omega (arith, within, ap (λ (l : List ℕ). length l) e, size_of, cut.within) in
    let stands : StandsAt bytes run (record { line = line; from = from; to = from + size }) =
    record { line = refl; ordered = omega arith; within = inside; begins = cut.at; ends = ends; lines = ap lines_of part ∙ lines_before count size rest within behind } in
    let first : runs_of line lines ≡ run ∷ runs_of (line + count) (drop count lines) =
    subst (λ (n : ℕ). runs_of line lines ≡ run_from line (take n lines) ∷ runs_of (line + n) (drop n lines)) (sym front) (first_run line lines (omega (arith, some, front))) in
    let rest_is : drop count lines ≡ lines_of (drop (from + size) bytes) = sym (lines_after count rest) ∙ ap lines_of (sym moved) in
    record {
      some = omega (arith, cut.some);
      few = omega (arith, cut.few, few);
      within = inside;
      at = after ∙ ap (λ (n : ℕ). after_lines n bytes) places;
      runs = cut.runs ++ run ∷ [];
      stand = stand_more bytes cut.runs pieces run (record { line = line; from = from; to = from + size }) cut.stand stands;
      so_far =
          cut.so_far ∙ ap (λ (l : List ℕ). cut.runs ++ runs_of line (lines_of l)) (sym e) ∙ ap (λ (r : List Run). cut.runs ++ r) first ∙ sym (append_assoc cut.runs (run ∷ []) (runs_of (line + count) (drop count lines)))
          ∙ ap (λ (l : List (List ℕ)). (cut.runs ++ run ∷ []) ++ runs_of (line + count) l) rest_is;
    }

skip_line : (line : ℕ) (rest : List ℕ) → 0 < length rest → 0 ≡ front_length (lines_of rest) → runs_of line (lines_of rest) ≡ runs_of (line + 1) (lines_of (after_line rest))
skip_line line [] some front = absurd (omega (arith, some))
skip_line line (b ∷ bytes) some front =
    let first = first_line (b ∷ bytes) in
    let more = lines_of (after_line (b ∷ bytes)) in
    let split : lines_of (b ∷ bytes) ≡ first ∷ more = lines_split b bytes in
    elim (cases_Bool (is_blank_line first)) [
      | inl empty ↦ ap (runs_of line) split ∙ runs_skip line first more empty
      | inr full ↦ absurd (omega (arith, front, ap front_length split, front_full first more full))
    ]

-- an empty line more
pub cut_line_more : (bytes rest : List ℕ) (pieces : List Piece) (line from size : ℕ) → rest ≡ drop from bytes → 0 < length rest → 0 ≡ front_length (lines_of rest) → 1 ≤ size → size ≤ length rest → drop size rest ≡ after_line rest
    → IsCut bytes pieces line from → IsCut bytes pieces (line + 1) (from + size)
cut_line_more bytes rest pieces line from size e some front long within behind cut =
    let moved : drop (from + size) bytes ≡ after_line rest = sym (drop_on bytes from size) ∙ ap (λ (l : List ℕ). drop size l) (sym e) ∙ behind in
    let here : rest ≡ after_lines (line - 1) bytes = e ∙ cut.at in
    let places : line - 1 + 1 ≡ line + 1 - 1 = omega (arith, cut.some) in
    let skipped : runs_of line (lines_of rest) ≡ runs_of (line + 1) (lines_of (after_line rest)) = skip_line line rest some front in
    record {
      some = omega arith;
      few = omega (arith, cut.few, long);
      within = omega (arith, within, ap (λ (l : List ℕ). length l) e, length-drop from bytes, cut.within);
      at = moved ∙ ap after_line here ∙ sym (one_more_line (line - 1) bytes) ∙ ap (λ (n : ℕ). after_lines n bytes) places;
      runs = cut.runs;
      stand = cut.stand;
      so_far = cut.so_far ∙ ap (λ (l : List ℕ). cut.runs ++ runs_of line (lines_of l)) (sym e) ∙ ap (λ (r : List Run). cut.runs ++ r) skipped ∙ ap (λ (l : List ℕ). cut.runs ++ runs_of (line + 1) (lines_of l)) (sym moved);
    }

pub cut_end : (bytes : List ℕ) (pieces : List Piece) (line from : ℕ) → length bytes ≤ from → IsCut bytes pieces line from → StandAt bytes (runs_in bytes) pieces
unfolding lines_of
cut_end bytes pieces line from past cut =
    let none : drop from bytes ≡ [] = drop_all from bytes past in
    let whole : runs_in bytes ≡ cut.runs = cut.so_far ∙ ap (λ (l : List ℕ). cut.runs ++ runs_of line (lines_of l)) none ∙ ap (λ (r : List Run). cut.runs ++ r) (no_runs line) ∙ append-nil cut.runs in
    subst (λ (r : List Run). StandAt bytes r pieces) (sym whole) cut.stand
