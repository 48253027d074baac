-- A declaration, and what each of its resources has left.
use Rattle.std.specs.Prelude.{◌≡◌, ℕ, ◌+◌, ◌<◌, nat_le, Bool, true, false, ◌||◌, is_some, List, length, slice_index, filter, Option}
use Rattle.std.specs.List.{list_all, list_any}
use Rattle.season_days.specs.Capacity.{Capacity, capacity_of, declared_resources, IsDeclaration}
use Rattle.season_days.specs.declared.declaration.Declaration.{Declaration}
use Rattle.season_days.specs.declared.declaration.Kind.{Kind}
use Rattle.season_days.specs.declared.declaration.Kind.TheVariants.{Arr, Dep, Tot}
use Rattle.season_days.specs.declared.declaration.Rule.{Rule}
use Rattle.scr_reader.specs.declared.line.Line.{Line}
use Rattle.capacity_windows.specs.Counts.{numbers_below}
use Rattle.capacity_windows.specs.Windows.{window_load, window_limit}
use Rattle.capacity_windows.specs.declared.movement.Movement.{Movement}
use Rattle.series_model.specs.declared.times.Times.{Times}
use Rattle.series_model.specs.Options.{shifts_of}
use Rattle.series_model.specs.Displacement.{cost_at}
use Rattle.series_model.specs.Movements.{movements_at}
use Rattle.holding_book.specs.Books.{first_cheapest}

pub record LoadsView : Type 0 where
  pub declaration : Declaration
  pub left : List ℕ

-- what is left of each resource: its limit less the load of the movements, which is at most the
-- limit
pub record AreLeft (c : Capacity) (list : List Movement) (left : List ℕ) : Type 0 where
  pub count : length left ≡ declared_resources c
  pub each : (r : ℕ) → r < declared_resources c →
      slice_index left r + window_load c list r ≡ window_limit c r

-- what is kept beside a declaration: its windows, and one number for each resource
pub record IsLoads (d : Declaration) (c : Capacity) (left : List ℕ) : Type 0 where
  pub keeps : IsDeclaration d
  pub declared : c ≡ capacity_of d
  pub count : length left ≡ declared_resources c

-- ---- resources that an arrival and a departure may share

abbrev pub is_tot : Kind → Bool
is_tot Arr = false
is_tot Dep = false
is_tot Tot = true

-- the night quota, or the windows of a capacity line for both kinds
abbrev pub can_share : Capacity → Bool
can_share c = is_some c.night || list_any (λ (rule : Rule). is_tot rule.kind) c.rules

-- ---- a search by what is left

-- each resource has left the load of the movements
unfoldable pub movements_left : Capacity → List ℕ → List Movement → Bool
movements_left c left list =
    list_all (λ r. nat_le (window_load c list r) (slice_index left r))
    (numbers_below (declared_resources c))

-- each has left that of a line's movements at some times
abbrev pub fits_left : LoadsView → Line → Times → Bool
fits_left loads line times =
    movements_left (capacity_of loads.declaration) loads.left
    (movements_at loads.declaration.season line times)

-- the cheapest shift that fits, the first of several
abbrev pub best_left : LoadsView → Line → Option Times
best_left loads line =
    first_cheapest (cost_at loads.declaration line)
    (filter (fits_left loads line) (shifts_of loads.declaration line))
