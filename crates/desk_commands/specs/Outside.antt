-- What is outside beside the cabinet and the output, before a command and after it.
use Rattle.std.specs.Prelude.{◌≡◌, ◌⊎◌, ℕ, List, [], ◌∷◌, map, Option, Some, None, option_map}
use Rattle.desk_outside.specs.Cause.{Rose}
use Rattle.desk_links.specs.Doors.{DoorView}
use Rattle.desk_disk.specs.Disks.{DiskView}

-- the doors at which clients come, and the disk of a journal, if there is one
pub record Outside : Type 0 where
  pub doors : List DoorView
  pub disk : Option DiskView

pub record OutsideChange : Type 0 where
  pub before : Outside
  pub after : Outside

-- nothing of it changed
abbrev pub still : Outside → OutsideChange
still o = record { before = o; after = o }

abbrev pub IsStill : OutsideChange → Type 0
IsStill change = change.after ≡ change.before

-- ---- from what doors and a disk show

abbrev pub outside_of : {D K : Type 0} → (D → DoorView) → (K → DiskView) → List D → Option K
    → Outside
outside_of view show doors disk = record { doors = map view doors; disk = option_map show disk }

abbrev pub outside_change : {D K : Type 0} → (D → DoorView) → (K → DiskView) → List D → Option K
    → List D → Option K → OutsideChange
outside_change view show doors disk doors_after disk_after = record {
  before = outside_of view show doors disk;
  after = outside_of view show doors_after disk_after;
}

-- doors were used, and the disk is as it was
abbrev pub doors_change : {D : Type 0} → (D → DoorView) → List D → List D → Option DiskView
    → OutsideChange
doors_change view doors doors_after disk = record {
  before = record { doors = map view doors; disk = disk };
  after = record { doors = map view doors_after; disk = disk };
}

-- ---- faults of doors, and of the disk

abbrev pub door_faults : Outside → List ℕ
door_faults o = map (λ (d : DoorView). d.faults) o.doors

-- the count of some door rose
abbrev pub SomeRose : List DoorView → List DoorView → Type 0
SomeRose [] es = ⊥
SomeRose (d ∷ ds) [] = ⊥
SomeRose (d ∷ ds) (e ∷ es) = Rose d.faults e.faults ⊎ SomeRose ds es

abbrev pub disk_faults : Outside → Option ℕ
disk_faults o = option_map (λ (d : DiskView). d.faults) o.disk

-- the count of the disk rose
abbrev pub DiskRose : Option DiskView → Option DiskView → Type 0
DiskRose None after = ⊥
DiskRose (Some d) None = ⊥
DiskRose (Some d) (Some e) = Rose d.faults e.faults
