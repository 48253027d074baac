-- Pieces of a text, appended one after another, and how many movements a unit has.
use Rattle.std.proofs.Common.{◌≡◌, ◌≤◌, ◌*◌, ℕ, Bool, true, false, List, [], ◌∷◌, ◌++◌, length, append_assoc, ◌∙◌, ap, arith, Option, None, Some, ◌+◌}
use Rattle.std.specs.Prelude.{nat_lt, if◌then◌else◌}
use Rattle.std.specs.List.{flat_map}
use Rattle.std.specs.Fmt.{decimal}
use Rattle.std.proofs.lemmas.List.{length-append}
use Rattle.std.proofs.lemmas.List.Concat.{flat_map-cons}
use Rattle.season_days.specs.Term.{Term}
use Rattle.season_days.specs.Seasons.{date_count, dates_of}
use Rattle.season_days.specs.declared.declaration.Kind.{Kind}
use Rattle.season_days.specs.declared.declaration.Kind.TheVariants.{Arr, Dep}
use Rattle.scr_reader.specs.declared.line.Line.{Line}
use Rattle.scr_reader.specs.declared.line.Stop.{Stop}
use Rattle.capacity_windows.specs.declared.movement.Movement.{Movement}
use Rattle.series_model.specs.Movements.{movement_after, stop_on, movements_on, movements_at}
use Rattle.series_model.specs.Options.{line_times}

-- a piece, and what comes behind it
pub step : (s t u a b : List ℕ) → t ≡ s ++ a → u ≡ t ++ b → u ≡ s ++ (a ++ b)
step s t u a b one rest = rest ∙ ap (λ (l : List ℕ). l ++ b) one ∙ append_assoc s a b

-- the same, where the piece is known by another name
pub step_as : (s t u a b other : List ℕ) → a ≡ other → t ≡ s ++ a → u ≡ t ++ b → u ≡ s ++ (other ++ b)
step_as s t u a b other same one rest = step s t u a b one rest ∙ ap (λ (l : List ℕ). s ++ (l ++ b)) same

-- words and a number
pub step_number : (s t u a b : List ℕ) (n m : ℕ) → n ≡ m → t ≡ s ++ (a ++ decimal n) → u ≡ t ++ b → u ≡ s ++ (a ++ (decimal m ++ b))
step_number s t u a b n m same one rest =
    step s t u (a ++ decimal n) b one rest ∙ ap (λ (l : List ℕ). s ++ l) (append_assoc a (decimal n) b) ∙ ap (λ (k : ℕ). s ++ (a ++ (decimal k ++ b))) same

-- ---- at most two movements on a date

one_if : (b : Bool) (m : Movement) → length (if b then m ∷ [] else []) ≤ 1
one_if true m = omega arith
one_if false m = omega arith

one_stop : (season : Term) (kind : Kind) (stop : Option Stop) (minute date : ℕ) → length (stop_on season kind stop minute date) ≤ 1
one_stop season kind None minute date = omega arith
one_stop season kind (Some stop) minute date =
    let m : Movement = movement_after kind date minute in
    one_if (nat_lt m.day (date_count season)) m

two_on : (season : Term) (line : Line) (arrival departure date : ℕ) → length (movements_on season line arrival departure date) ≤ 2
two_on season line arrival departure date =
    let one : List Movement = stop_on season Arr line.arrival arrival date in
    let two : List Movement = stop_on season Dep line.departure departure date in
    let both : length (one ++ two) ≡ length one + length two = length-append one two in
    omega (arith, both, one_stop season Arr line.arrival arrival date, one_stop season Dep line.departure departure date)

two_each : (season : Term) (line : Line) (arrival departure : ℕ) (dates : List ℕ) → length (flat_map (movements_on season line arrival departure) dates) ≤ 2 * length dates
two_each season line arrival departure [] = omega arith
two_each season line arrival departure (date ∷ dates) =
    let on : ℕ → List Movement = movements_on season line arrival departure in
    let front : length (flat_map on (date ∷ dates)) ≡ length (on date ++ flat_map on dates) = ap (λ (ms : List Movement). length ms) (flat_map-cons on date dates) in
    let both : length (on date ++ flat_map on dates) ≡ length (on date) + length (flat_map on dates) = length-append (on date) (flat_map on dates) in
    omega (arith, front, both, two_on season line arrival departure date, two_each season line arrival departure dates)

pub few_movements : (season : Term) (line : Line) → length (movements_at season line (line_times line)) ≤ 2 * length (dates_of season line.period)
few_movements season line = two_each season line _ _ (dates_of season line.period)
