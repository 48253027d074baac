-- What each step on the turn tells the seat that makes it.
use Rattle.std.specs.Prelude.{◌≡◌, ◌≢◌, ℕ, true, false, List, [], ◌∷◌, map, Option, Some}
use Rattle.std.specs.List.{AllByRecursion}
use Rattle.atomic_table.specs.Table.{Me, Step, rest}
use Rattle.turn_lock.specs.declared.view.View.{View}
use Rattle.turn_lock.specs.History.{StartsWith, own}
use Rattle.turn_lock.specs.Views.{after_seeing}

module _ {T O E : Type 0} (origin : T → O) (entries : T → List E) (caller : E → ℕ) where
  -- the seat has the turn and the value, whose history begins with all that the seat had seen and
  -- has no more entries of its own
  pub record Won (m m' : Me (Option T) (View O E)) : Type 0 where
    pub value : T
    pub slot : m'.1 ≡ (0, Some value) ∷ m.1
    pub origin_is : m.0.origin ≡ Some (origin value)
    pub view : m'.0 ≡ record {
      origin = m.0.origin;
      callers = map (after_seeing caller (entries value)) m.0.callers;
      holds = true;
    }
    pub longer : AllByRecursion (λ c. StartsWith (entries value) c.seen
        × (own caller c.number (entries value) ≡ c.own)) m.0.callers

  -- where the turn was free it is won, and else nothing has changed
  abbrev pub win_play : Step (Option T) → Me (Option T) (View O E) → ℕ → Me (Option T) (View O E)
      → Type 0
  win_play step m found m' = (found ≡ 0 → Won m m') × (found ≢ 0 → m' ≡ m)

  -- the seat has seen the history of the value that it holds
  abbrev pub decide_play : Step (Option T) → Me (Option T) (View O E) → ℕ → Me (Option T) (View O E)
      → Type 0
  decide_play step m found m' = (m'.1 ≡ m.1)
      × ((y : T) → m.1 ≡ (0, Some y) ∷ []
      → m'.0 ≡ record m.0 { callers = map (after_seeing caller (entries y)) m.0.callers })

module _ {T O E : Type 0} where
  -- the seat has given the slot back, and has the turn no more
  abbrev pub give_play : Step (Option T) → Me (Option T) (View O E) → ℕ → Me (Option T) (View O E)
      → Type 0
  give_play step m found m' = (m'.1 ≡ rest m.1) × (m'.0 ≡ record m.0 { holds = false })
