-- The rule of a board's table. The words are the count of claimed pieces, the count of taken
-- numbers, and the least cost, where 2^64 - 1 stands for none.
use Rattle.std.specs.Prelude.{◌≡◌, ◌≢◌, ◌⊎◌, ℕ, ◌+◌, ◌^◌, ◌<◌, ◌≤◌, ◌==◌, if◌then◌else◌, max, true}
use Rattle.std.specs.Prelude.{List, [], ◌∷◌, ◌++◌, Option, Some, None}
use Rattle.std.specs.List.{All, sum_by}
use mathlib.Core.Option.{some}
use lib.ListN.{get_elem?}
use Rattle.atomic_table.specs.Table.{State}
use Rattle.incumbent_word.specs.declared.board.TheConstants.{NO_COST}
use Rattle.incumbent_word.specs.declared.view.Terms.{Terms}
use Rattle.incumbent_word.specs.declared.view.Worker.{Worker}
use Rattle.incumbent_word.specs.declared.view.Event.{Event}
use Rattle.incumbent_word.specs.declared.view.Guest.{Guest}
use Rattle.incumbent_word.specs.declared.view.SeatState.{SeatState}
use Rattle.incumbent_word.specs.Core.{Core, opening, maker, worker_at, Has, Runs}

-- the cost that the third word stands for
abbrev pub cost_in_word : ℕ → Option ℕ
cost_in_word n = if n == NO_COST then None else Some n

-- the events begin with those known, and the rest is by other workers than the one of this number
abbrev pub IsKnown : ℕ → List Event → List Event → Type 0
IsKnown number known events = (rest : List Event) × (known ++ rest ≡ events)
    × All (λ e. maker e ≢ number) rest

-- how many workers stand at this place of the list
abbrev pub presence : Option Worker → ℕ
presence None = 0
presence (Some w) = 1

abbrev pub guest_count : Option Guest → ℕ → ℕ
guest_count None n = 0
guest_count (Some g) n = if g.number == n then 1 else 0

-- how often the seat has the worker of this number: a spent seat has none
abbrev pub seat_count : ℕ → SeatState → ℕ
seat_count n v =
    if v.view.share == 0 then 0
    else ((if v.view.number == n then 1 else 0) + guest_count v.guest n)

-- the shares of the seats that may still raise the word
abbrev pub claiming : SeatState → ℕ
claiming v = if v.view.no_piece_left then 0 else v.view.share

abbrev pub taking : SeatState → ℕ
taking v = if v.view.no_number_left then 0 else v.view.share

pub record GuestHolds (log : List Event) (s : Core) (g : Guest) : Type 0 where
  pub there : Has s g.number g.worker
  pub known : IsKnown g.number g.log log

-- the view of a seat that is not spent agrees with the state that the events led to
pub record ViewHolds (t : Terms) (log : List Event) (s : Core) (v : SeatState) : Type 0 where
  pub terms : v.view.terms ≡ t
  pub there : Has s v.view.number v.view.worker
  pub known : IsKnown v.view.number v.view.log log
  pub guest : (g : Guest) → v.guest ≡ Some g → GuestHolds log s g
  pub no_piece : v.view.no_piece_left ≡ true → t.pieces ≤ s.claimed
  pub no_number : v.view.no_number_left ≡ true → t.budget ≤ s.taken

-- the seat, or its guest, knows all events
abbrev pub KnowsAll : List Event → SeatState → Type 0
KnowsAll log v = (v.view.log ≡ log) ⊎ ((g : Guest) × (v.guest ≡ Some g) × (g.log ≡ log))

-- The board's events led to the state. Each worker that is there has one seat, each seat agrees
-- with the state, and some seat knows all events. The shares count the seats, and bound how often a
-- word can rise.
pub record Stands (t : Terms) (log : List Event) (s : Core) (views : List SeatState) : Type 0 where
  pub few_pieces : t.pieces < 2 ^ 32
  pub few_numbers : t.budget < 2 ^ 32
  pub reached : Runs t (opening t) log s
  pub holds : (i : ℕ) (v : SeatState) → get_elem? views i ≡ some v → 1 ≤ v.view.share
      → ViewHolds t log s v
  pub one_seat : (n : ℕ) → sum_by (seat_count n) views ≡ presence (worker_at s.workers n)
  pub whole : (i : ℕ) × (v : SeatState) × (get_elem? views i ≡ some v) × (1 ≤ v.view.share)
      × KnowsAll log v
  pub shares : sum_by (λ v. v.view.share) views ≡ 2 ^ 32
  pub claims : max s.claimed t.pieces + sum_by claiming views ≤ t.pieces + 2 ^ 32
  pub takes : max s.taken t.budget + sum_by taking views ≤ t.budget + 2 ^ 32

-- the rule: there is one list of events, and the words are of the state that it led to
pub record IsKept {S : Type 0} (t : Terms) (s : State S SeatState) : Type 0 where
  pub log : List Event
  pub core : Core
  pub least : ℕ
  pub words : s.words ≡ core.claimed ∷ core.taken ∷ least ∷ []
  pub least_is : core.least ≡ cost_in_word least
  pub stands : Stands t log core s.views
