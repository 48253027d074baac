-- A list cut behind the last of its elements that passes a test.
use Rattle.std.specs.Prelude.{Bool, false, ◌||◌, if◌then◌else◌, List, [], ◌∷◌}

module _ {X : Type 0} (passes : X → Bool) where
  abbrev pub some_passes : List X → Bool
  some_passes [] = false
  some_passes (x ∷ xs) = passes x || some_passes xs

  -- up to that element, and what follows it; where none passes, nothing and all
  unfoldable pub up_to_last : List X → List X
  up_to_last [] = []
  up_to_last (x ∷ xs) = if passes x || some_passes xs then x ∷ up_to_last xs else []

  unfoldable pub after_last : List X → List X
  after_last [] = []
  after_last (x ∷ xs) =
      if some_passes xs then after_last xs else (if passes x then xs else x ∷ xs)
