-- What a reader answers, unless memory ran out.
use Rattle.std.specs.Prelude.{◌≡◌, ◌⊎◌, Result, Ok, Err}

-- the call answered this, or that memory ran out
abbrev pub GivesOr : {X E : Type 0} → E → Result X E → Result X E → Type 0
GivesOr memory result answer = (result ≡ answer) ⊎ (result ≡ Err memory)

-- the call answered a value that the text spells, a fault that the text has, or that memory ran out
abbrev pub AnswersBy : {X E : Type 0} → E → (X → Type 0) → (E → Type 0) → Result X E → Type 0
AnswersBy memory Spells IsFault (Ok x) = Spells x
AnswersBy memory Spells IsFault (Err e) = IsFault e ⊎ (e ≡ memory)
