-- A field that is there, and a reader of it.
use Rattle.std.proofs.Common.{◌≡◌, ℕ, ◌-◌, List, [], ◌∷◌, length, take, drop, get_or, Some, None, Result, Ok, Err, Bor, sym, subst, ap, ◌∙◌, arith}
use Rattle.std.proofs.Math.Seq.{take-length}
use Rattle.scr_reader.specs.declared.line.Code.{Code}
use Rattle.scr_reader.specs.declared.line.Flight.{Flight}
use Rattle.scr_reader.specs.Parts.{code_of, IsFlight}
use Rattle.scr_reader.specs.Shapes.{IsCodeAndFlight}
use Rattle.std.specs.Prelude.{Option, IsSomeAnd, IsOkAnd}
use Rattle.std.specs.Option.{ok_or, option_copied}

pub at_field : (r : Option (Bor (List ℕ))) (b : Bor (List ℕ)) (n : ℕ) (found : Option (List ℕ)) (Has : List ℕ → Type 0) → Ok b ≡ ok_or r n → option_copied r ≡ found → IsSomeAnd found Has → Has b.now
at_field None b n found Has is copied has = absurd cc
at_field (Some x) b n None Has is copied has = absurd has
at_field (Some x) b n (Some text) Has is copied has =
    let same : b ≡ x = cc in
    let now : x.now ≡ text = cc in
    subst Has (sym (ap (λ (y : Bor (List ℕ)). y.now) same ∙ now)) has

pub ok_after : {T : Type 0} (r : Option T) (n : ℕ) (out : Result T ℕ) (P : T → Type 0) → out ≡ ok_or r n → IsSomeAnd r P → IsOkAnd out P
ok_after None n out P is has = absurd has
ok_after (Some x) n (Ok y) P is has = let same : y ≡ x = cc in subst P (sym same) has
ok_after (Some x) n (Err e) P is has = absurd cc

pub code_and_rest : (text : List ℕ) (code : Code) (flight : Flight) → IsCodeAndFlight text code flight → (code_of (get_or text 0 0) ≡ Some code) × IsFlight (take (length text - 1) (drop 1 text)) flight
code_and_rest [] code flight is = absurd is
code_and_rest (b ∷ text) code flight is =
    let n : length (b ∷ text) - 1 ≡ length text = omega arith in
    let same : take (length (b ∷ text) - 1) text ≡ text = rw n (take-length text) in
    (is.0, subst (λ (t : List ℕ). IsFlight t flight) (sym same) is.1)
