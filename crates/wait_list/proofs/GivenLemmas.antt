-- What lines are given, one line after the other.
use Rattle.std.proofs.Common.{◌≡◌, ℕ, zero, suc, ◌+◌, ◌<◌, ◌≤◌, refl, sym, ◌∙◌, ap, arith, List, [], ◌∷◌, ◌++◌, length, get_or, drop, drop-cons, append_assoc, Bor}
use Rattle.std.proofs.Math.Dec.{ltb}
use Rattle.std.proofs.lemmas.Bool.{ltb-true, ltb-false}
use Rattle.std.proofs.lemmas.Option.{slice_get_past, slice_get_read}
use Rattle.std.specs.Prelude.{Option, Some, None, slice_get, is_some, IfSome, option_copied}
use Rattle.std.specs.Option.{unwrap_or}
use Rattle.std.proofs.Math.ListN.{drop_of_length-le}
use Rattle.std.proofs.lemmas.List.{append-nil}
use Rattle.season_days.specs.declared.declaration.Declaration.{Declaration}
use Rattle.scr_reader.specs.declared.line.Line.{Line}
use Rattle.series_model.specs.declared.unit.Unit.{Unit as SlotUnit}
use Rattle.series_model.specs.declared.times.Times.{Times}
use Rattle.series_model.specs.declared.times.Times.TheVariants.{Refused}
use Rattle.series_model.specs.declared.state.UnitState.{UnitState}
use Rattle.series_model.specs.Options.{options_of}
use Rattle.wait_list.specs.Waiting.{waiting_unit, given_state, given_states}

-- the element that a call of `get` copied, if there is one
pub got : (numbers : List ℕ) (n : ℕ) (o : Option (Bor ℕ)) → is_some o ≡ ltb n (length numbers) → IfSome o (λ (x : Bor ℕ). x.now ≡ get_or numbers n x.now) → option_copied o ≡ slice_get numbers n
got numbers n None some is = sym (slice_get_past numbers n (ltb-false n (length numbers) (sym some)))
got numbers n (Some x) some is = sym (slice_get_read numbers (length numbers) n x.now refl (ltb-true n (length numbers) (sym some)) is)

get-drop : (numbers : List ℕ) (n : ℕ) → slice_get (drop n numbers) 0 ≡ slice_get numbers n
get-drop numbers zero = refl
get-drop [] (suc n) = refl
get-drop (x ∷ numbers) (suc n) = get-drop numbers n

drop-one : (numbers : List ℕ) (n : ℕ) → drop 1 (drop n numbers) ≡ drop (suc n) numbers
drop-one numbers zero = refl
drop-one [] (suc n) = refl
drop-one (x ∷ numbers) (suc n) = drop-one numbers n

pub given-next : (d : Declaration) (lines : List Line) (numbers : List ℕ) (n : ℕ) (line : Line) (before : List UnitState) (state : UnitState) → n < length lines →
    state ≡ given_state d (get_or lines n line) (slice_get numbers n) →
    (before ++ state ∷ []) ++ given_states d (drop (n + 1) lines) (drop (n + 1) numbers) ≡ before ++ given_states d (drop n lines) (drop n numbers)
given-next d lines numbers n line before state lt is =
    let next : suc n ≡ n + 1 = omega arith in
    let first : drop n lines ≡ get_or lines n line ∷ drop (n + 1) lines = drop-cons lines n line lt ∙ ap (λ (k : ℕ). get_or lines n line ∷ drop k lines) next in
    let here : state ≡ given_state d (get_or lines n line) (slice_get (drop n numbers) 0) = is ∙ ap (given_state d (get_or lines n line)) (sym (get-drop numbers n)) in
    let rest : given_states d (drop (n + 1) lines) (drop (n + 1) numbers) ≡ given_states d (drop (n + 1) lines) (drop 1 (drop n numbers)) = ap (given_states d (drop (n + 1) lines)) (sym (drop-one numbers n ∙ ap (λ (k : ℕ). drop k numbers) next)) in
    let whole : state ∷ given_states d (drop (n + 1) lines) (drop (n + 1) numbers) ≡ given_states d (drop n lines) (drop n numbers) =
    ap (λ (s : UnitState). s ∷ given_states d (drop (n + 1) lines) (drop (n + 1) numbers)) here
    ∙ ap (λ (ss : List UnitState). given_state d (get_or lines n line) (slice_get (drop n numbers) 0) ∷ ss) rest
    ∙ ap (λ (ls : List Line). given_states d ls (drop n numbers)) (sym first) in
    append_assoc before (state ∷ []) (given_states d (drop (n + 1) lines) (drop (n + 1) numbers)) ∙ ap (λ (ss : List UnitState). before ++ ss) whole

pub given-end : (d : Declaration) (lines : List Line) (numbers : List ℕ) (n : ℕ) (states : List UnitState) → length lines ≤ n → states ++ given_states d (drop n lines) (drop n numbers) ≡ states
given-end d lines numbers n states past =
    ap (λ (ls : List Line). states ++ given_states d ls (drop n numbers)) (drop_of_length-le lines past) ∙ append-nil states

-- ---- what one line is given

or-is : (xs : List Times) (n : ℕ) → unwrap_or (slice_get xs n) Refused ≡ get_or xs n Refused
or-is [] n = refl
or-is (x ∷ xs) zero = refl
or-is (x ∷ xs) (suc n) = or-is xs n

pub state-is : (d : Declaration) (line : Line) (number : Option ℕ) (n : ℕ) (unit : SlotUnit) (found : Option Times) (times : Times) → number ≡ Some n → unit ≡ waiting_unit line → found ≡ slice_get (options_of d unit) n →
    times ≡ unwrap_or found Refused → record { unit = unit; given = Some times } ≡ given_state d line number
state-is d line number n unit found times number-is unit-is found-is times-is =
    let there : times ≡ get_or (options_of d (waiting_unit line)) n Refused =
    times-is ∙ (ap (λ (o : Option Times). unwrap_or o Refused) found-is ∙ (or-is (options_of d unit) n ∙ ap (λ (u : SlotUnit). get_or (options_of d u) n Refused) unit-is)) in
    ap (λ (u : SlotUnit). record { unit = u; given = Some times }) unit-is
    ∙ (ap (λ (t : Times). record { unit = waiting_unit line; given = Some t }) there ∙ ap (given_state d line) (sym number-is))
