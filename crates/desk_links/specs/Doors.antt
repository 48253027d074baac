-- What contracts see of a door, and what its calls do.
use Rattle.std.specs.Prelude.{◌≡◌, ℕ, ◌+◌, ◌<◌, length, List, [], ◌∷◌, ◌++◌, Option, Some, None}
use Rattle.std.specs.Prelude.{Result, Ok, Err}
use Rattle.desk_links.specs.Links.{LinkView, IsFresh}

-- The inputs of the links that are still to come, where they are told; how many links were handed
-- out; the links that were kept, as they were when they were handed back; how often a call failed;
-- and how many links there is room for.
pub record DoorView : Type 0 where
  pub coming : Option (List (List ℕ))
  pub admitted : ℕ
  pub kept : List LinkView
  pub faults : ℕ
  pub room : ℕ

-- the link has the next input, where it is told, and was given nothing yet
abbrev pub IsNextLink : Option (List (List ℕ)) → LinkView → Option (List (List ℕ)) → Type 0
IsNextLink None v after = after ≡ None
IsNextLink (Some []) v after = ⊥
IsNextLink (Some (input ∷ inputs)) v after =
    (v.told ≡ Some (record { input = input; sent = [] })) × (after ≡ Some inputs)

-- no link comes any more; a door that does not tell what comes never says so
abbrev pub NoneComes : Option (List (List ℕ)) → Type 0
NoneComes None = ⊥
NoneComes (Some []) = Unit {0}
NoneComes (Some (input ∷ inputs)) = ⊥

-- a link was handed out, for which there is room, and was counted
pub record HasAdmitted (d : DoorView) (link : LinkView) (e : DoorView) : Type 0 where
  pub fresh : IsFresh link
  pub next : IsNextLink d.coming link e.coming
  pub admitted : e.admitted ≡ d.admitted + 1
  pub kept : e.kept ≡ d.kept
  pub room : e.room ≡ d.room
  pub place : length d.kept < d.room

-- what an accept answers and leaves
abbrev pub Admits : {L E : Type 0} → (L → LinkView) → DoorView → Result (Option L) E → DoorView
    → Type 0
Admits view d (Ok (Some link)) e = HasAdmitted d (view link) e
Admits view d (Ok None) e = NoneComes d.coming × (e ≡ d)
Admits view d (Err fault) e = (e.coming ≡ d.coming) × (e.kept ≡ d.kept) × (e.room ≡ d.room)
    × (e.admitted ≡ d.admitted)

-- the door with one link more among those that it kept
abbrev pub with_kept : DoorView → LinkView → DoorView
with_kept d link = record d { kept = d.kept ++ link ∷ [] }
