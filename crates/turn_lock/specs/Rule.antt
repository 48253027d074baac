-- The rule of a turn's table, which holds between any two steps. The words are the turn, which is 1
-- while a seat has it and else 0, and the number of entries of the history. The one slot has the
-- value while no seat has the turn.
use Rattle.std.specs.Prelude.{◌≡◌, ℕ, ◌<◌, ◌≤◌, true, List, [], ◌∷◌, length, sum_by, count_by}
use Rattle.std.specs.Prelude.{Option, Some}
use Rattle.std.specs.List.{AllByRecursion}
use mathlib.Core.Option.{Option as Maybe, some, none}
use lib.ListN.{get_elem?}
use Rattle.atomic_table.specs.Table.{State}
use Rattle.turn_lock.specs.declared.view.Caller.{Caller}
use Rattle.turn_lock.specs.declared.view.View.{View}
use Rattle.turn_lock.specs.History.{StartsWith, own}
use Rattle.turn_lock.specs.Views.{number_count, seen_count}

-- what a caller knows is true: it has seen a beginning of the history, in which all its own entries
-- stand
pub record Knows {E : Type 0} (caller : E → ℕ) (history : List E) (callers : ℕ)
    (c : Caller E) : Type 0 where
  pub seen_is : StartsWith history c.seen
  pub own_is : c.own ≡ own caller c.number history
  pub own_seen : c.own ≡ own caller c.number c.seen
  pub number_is : c.number < callers

-- what a seat knows is true, and a seat that has the turn has a caller and has seen the whole
-- history
pub record ViewHolds {O E : Type 0} (caller : E → ℕ) (history : List E) (origin : O)
    (callers : ℕ) (v : View O E)
    : Type 0 where
  pub knows : AllByRecursion (Knows caller history callers) v.callers
  pub origin_is : 0 < length v.callers → v.origin ≡ Some origin
  pub holds_is : v.holds ≡ true → (0 < length v.callers)
      × AllByRecursion (λ c. c.seen ≡ history) v.callers

module _ {T O E : Type 0} (origin : T → O) (entries : T → List E) (caller : E → ℕ) where
  -- There is one history. A value that is at home has it, every seat has seen a beginning of it,
  -- and some caller has seen all of it.
  pub record Stands (start : T) (callers turn : ℕ) (history : List E)
      (homes : List (Maybe (Option T))) (views : List (View O E)) : Type 0 where
    pub entries_are : AllByRecursion (λ e. caller e < callers) history
    pub turn_is : turn ≡ count_by (λ v. v.holds) views
    pub one_holds : turn ≤ 1
    pub each_number : (n : ℕ) → n < callers → sum_by (λ v. number_count n v.callers) views ≡ 1
    pub all_callers : sum_by (λ v. length v.callers) views ≡ callers
    pub whole : 0 < sum_by (λ v. seen_count (length history) v.callers) views
    pub views_hold : (i : ℕ) (v : View O E) → get_elem? views i ≡ some v
        → ViewHolds caller history (origin start) callers v
    pub at_home : turn ≡ 0 → (y : T) × (homes ≡ some (Some y) ∷ []) × (entries y ≡ history)
        × (origin y ≡ origin start)
    pub out : turn ≡ 1 → homes ≡ none ∷ []

  pub record IsKept (start : T) (callers : ℕ) (s : State (Option T) (View O E)) : Type 0 where
    pub turn : ℕ
    pub history : List E
    pub words : s.words ≡ turn ∷ length history ∷ []
    pub stands : Stands start callers turn history s.homes s.views
