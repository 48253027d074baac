-- What contracts see of a board and of a seat, and what each call on a seat does.
use Rattle.std.specs.Prelude.{◌≡◌, ℕ, ◌≤◌, ◌<◌, min, true, false, Option, Some, None}
use Rattle.atomic_table.specs.Seated.{TableId}
use Rattle.incumbent_word.specs.declared.view.Terms.{Terms}
use Rattle.incumbent_word.specs.declared.view.Worker.{Worker}
use Rattle.incumbent_word.specs.declared.view.View.{View}
use Rattle.incumbent_word.specs.Core.{Core, opening, Has, Runs}
use Rattle.incumbent_word.specs.Calls.{Claimed, Took}

-- which board it is, and what it was made with
pub record BoardView : Type 0 where
  pub id : TableId
  pub terms : Terms

-- the board that a seat is of, and what the seat knows
pub record SeatView : Type 0 where
  pub board : TableId
  pub view : View

-- the seat is of this board: of the same table, and made with the same terms
abbrev pub IsSeatOf : BoardView → SeatView → Type 0
IsSeatOf b s = (s.board ≡ b.id) × (s.view.terms ≡ b.terms)

-- the seat has the worker that it had, and the same share
abbrev pub IsSameSeat : View → View → Type 0
IsSameSeat v w = (w.number ≡ v.number) × (w.share ≡ v.share)

-- A seat that is marked makes no step and stays as it is. Any other makes one, and has the piece,
-- or is marked.
abbrev pub IsClaim : View → Option ℕ → View → Type 0
IsClaim v r w =
    (v.no_piece_left ≡ true → (r ≡ None) × (w ≡ v))
    × (v.no_piece_left ≡ false → (n : ℕ) × Claimed v n w
    × (n < v.terms.pieces → r ≡ Some n) × (v.terms.pieces ≤ n → r ≡ None))

abbrev pub IsTake : View → Option ℕ → View → Type 0
IsTake v r w =
    (v.no_number_left ≡ true → (r ≡ None) × (w ≡ v))
    × (v.no_number_left ≡ false → (n : ℕ) × Took v n w
    × (n < v.terms.budget → r ≡ Some n) × (v.terms.budget ≤ n → r ≡ None))

-- The last seat knows all events of the board. They led to a state whose one worker is the seat's,
-- and whose counts, cut at their bounds, and least cost these are.
pub record EndsAs (t : Terms) (v : View) (claimed taken : ℕ) (least : Option ℕ) : Type 0 where
  pub final : Core
  pub reached : Runs t (opening t) v.log final
  pub last : Has final v.number v.worker
  pub alone : (i : ℕ) (w : Worker) → Has final i w → i ≡ v.number
  pub claimed_is : claimed ≡ min final.claimed t.pieces
  pub taken_is : taken ≡ min final.taken t.budget
  pub least_is : least ≡ final.least
