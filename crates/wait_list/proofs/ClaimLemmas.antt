-- What the waiting stage proves.
use Rattle.std.proofs.Common.{◌≡◌, ℕ, ◌+◌, ◌-◌, ◌≤◌, refl, ap, subst, arith, List, [], ◌∷◌, ◌++◌, map}
use Rattle.std.specs.Prelude.{Contains}
use Rattle.std.proofs.lemmas.List.Sums.{sum_by-append}
use Rattle.std.proofs.lemmas.List.Elements.{Contains-push}
use Rattle.season_days.specs.Term.{Term}
use Rattle.season_days.specs.Capacity.{Capacity, capacity_of}
use Rattle.season_days.specs.declared.declaration.Declaration.{Declaration}
use Rattle.scr_reader.specs.declared.line.Line.{Line}
use Rattle.capacity_windows.specs.Windows.{window_load, window_limit}
use Rattle.capacity_windows.specs.declared.movement.Movement.{Movement}
use Rattle.series_model.specs.declared.times.Times.{Times}
use Rattle.series_model.specs.declared.times.Times.TheVariants.{Refused}
use Rattle.series_model.specs.Options.{options_of, shifts_of}
use Rattle.series_model.specs.Allotments.{AreAlternatives, allotted_movements, allotted_load}
use Rattle.cert_format.specs.declared.cert.StageCert.{StageCert}
use Rattle.cert_format.specs.declared.cert.Mark.{Mark}
use Rattle.cert_format.specs.declared.cert.Mark.TheVariants.{Infeasible}
use Rattle.wasg_stages.specs.Valid.{MarkClaims}
use Rattle.holding_book.specs.Books.{SlotBook, BookFits, season_of, book_movements}
use Rattle.holding_book.specs.Left.{left_of}
use Rattle.wait_list.specs.Waiting.{waiting_unit, waiting_units, waiting_terms}
use Rattle.wait_list.specs.Claims.{IsWaitingAllotment, FitsBesideBook, WaitingMarkHolds}

-- ---- beside the book

load-append : (c : Capacity) (one other : List Movement) (r : ℕ) → window_load c (one ++ other) r ≡ window_load c one r + window_load c other r
load-append c one other r = sum_by-append _ one other

pub beside-book : (b : SlotBook) (lines : List Line) (times : List Times) → BookFits b → IsWaitingAllotment b lines times → FitsBesideBook b lines times
beside-book b lines times fits allotment r lt =
    let c = capacity_of b.declaration in
    let allotted = allotted_movements (season_of b) (waiting_units lines) times in
    let own : window_load c allotted r ≤ window_limit c r - window_load c (book_movements b) r = allotment.fits r lt in
    omega (arith, fits r lt, own, load-append c (book_movements b) allotted r)

-- ---- all refused

refused-there : (d : Declaration) (line : Line) → Contains (options_of (waiting_terms d) (waiting_unit line)) Refused
refused-there d line = Contains-push (shifts_of (waiting_terms d) line) Refused

pub refused-options : (d : Declaration) (lines : List Line) → AreAlternatives (waiting_terms d) (waiting_units lines) (map (λ (line : Line). Refused) lines)
refused-options d [] = tt
refused-options d (line ∷ lines) = (refused-there d line, refused-options d lines)

refused-none : (season : Term) (lines : List Line) → allotted_movements season (waiting_units lines) (map (λ (line : Line). Refused) lines) ≡ []
refused-none season [] = refl
refused-none season (line ∷ lines) = refused-none season lines

pub refused-load : (d : Declaration) (lines : List Line) (r n : ℕ) → allotted_load (waiting_terms d) (waiting_units lines) (map (λ (line : Line). Refused) lines) r ≤ n
refused-load d lines r n =
    let none : allotted_load (waiting_terms d) (waiting_units lines) (map (λ (line : Line). Refused) lines) r ≡ 0 =
    ap (λ (list : List Movement). window_load (capacity_of d) list r) (refused-none d.season lines) in
    omega (arith, none)

pub refused-all : (b : SlotBook) (lines : List Line) → IsWaitingAllotment b lines (map (λ (line : Line). Refused) lines)
refused-all b lines = record {
  alternatives = refused-options b.declaration lines;
  fits = λ r lt. refused-load b.declaration lines r (left_of b r);
}

pub never-infeasible : (b : SlotBook) (lines : List Line) (c : StageCert) → WaitingMarkHolds b lines c → c.mark ≡ Infeasible → ⊥
never-infeasible b lines c holds is =
    let none : MarkClaims (waiting_terms b.declaration) (waiting_units lines) (left_of b) c Infeasible =
    subst (λ (mark : Mark). MarkClaims (waiting_terms b.declaration) (waiting_units lines) (left_of b) c mark) is holds in
    none (map (λ (line : Line). Refused) lines) (refused-all b lines)
