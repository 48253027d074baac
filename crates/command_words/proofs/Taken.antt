-- The uses that a command takes.
use Rattle.std.specs.Prelude.{◌≡◌, true, List, [], ◌∷◌, Some, None}
use Rattle.command_words.specs.Words.{Word}
use Rattle.command_words.specs.Uses.{Use, given, named, is_known, uses_of, once_after}

-- each option that is given is the command's
abbrev pub AreKnown : List Word → List Use → Type 0
AreKnown known [] = Unit {0}
AreKnown known (given name value ∷ uses) = (is_known known name ≡ true) × AreKnown known uses
AreKnown known (named w ∷ uses) = AreKnown known uses

-- the words are these uses of a command with these options, and no option stands twice
pub record AreTaken (known : List Word) (ws : List Word) (us : List Use) : Type 0 where
  pub uses : uses_of known None ws ≡ Some us
  pub once : once_after [] us ≡ true
