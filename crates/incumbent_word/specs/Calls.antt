-- What each step on the board tells the seat that makes it.
use Rattle.std.specs.Prelude.{◌≡◌, ◌≢◌, ℕ, ◌+◌, ◌-◌, ◌/◌, ◌^◌, ◌<◌, ◌≤◌, ◌==◌, ◌||◌, true, false}
use Rattle.std.specs.Prelude.{List, [], ◌∷◌, ◌++◌, Option, Some, None}
use Rattle.std.specs.List.{All, count_by}
use Rattle.atomic_table.specs.Table.{Me, Step}
use Rattle.incumbent_word.specs.declared.view.Terms.{Terms}
use Rattle.incumbent_word.specs.declared.view.Worker.{Worker}
use Rattle.incumbent_word.specs.declared.view.View.{View}
use Rattle.incumbent_word.specs.declared.view.Event.{Event}
use Rattle.incumbent_word.specs.declared.view.Event.TheVariants.{Claim, Take, Post, Read, Split}
use Rattle.incumbent_word.specs.declared.view.Event.TheVariants.{Join}
use Rattle.incumbent_word.specs.declared.view.Guest.{Guest}
use Rattle.incumbent_word.specs.declared.view.SeatState.{SeatState}
use Rattle.incumbent_word.specs.Core.{Core, opening, maker, newcomer, joined, after_post, Has}
use Rattle.incumbent_word.specs.Core.{Steps, Runs, AtMost, piece_holders, number_holders}
use Rattle.incumbent_word.specs.Rule.{cost_in_word}

-- The board's list of events, as far as it goes after the call: what the seat knew, then events of
-- other workers alone, then the one event of this call, which leads from a state where `at` holds
-- to `after`
pub record Made (t : Terms) (v : View) (event : Event) (at : Core → Type 0) (after : Core)
    (log : List Event) : Type 0 where
  pub between : List Event
  pub others : All (λ e. maker e ≢ v.number) between
  pub log_is : log ≡ (v.log ++ between) ++ event ∷ []
  pub before : Core
  pub reached : Runs t (opening t) (v.log ++ between) before
  pub was : Has before v.number v.worker
  pub step : Steps t before event after
  pub moment : at before

-- the call made the event, which left its worker as w shows it
abbrev pub MadeBy : View → (ℕ → Event) → (Core → Type 0) → View → Type 0
MadeBy v event at w = (after : Core) × Has after v.number w.worker
    × Made v.terms v (event v.number) at after w.log

abbrev pub with_piece : View → ℕ → List Event → View
with_piece v n log =
    record v { worker = record v.worker { pieces = v.worker.pieces ++ n ∷ [] }; log = log }

abbrev pub with_number : View → ℕ → List Event → View
with_number v n log =
    record v { worker = record v.worker { numbers = v.worker.numbers ++ n ∷ [] }; log = log }

-- the seat's claim found the count n; no worker had the piece n
pub record Claimed (v : View) (n : ℕ) (w : View) : Type 0 where
  pub piece : n < v.terms.pieces → w ≡ with_piece v n w.log
  pub none_left : v.terms.pieces ≤ n → w ≡ record v { no_piece_left = true; log = w.log }
  pub rising : (x : ℕ) → n ≤ x → count_by (λ y. y == x) v.worker.pieces ≡ 0
  pub event : MadeBy v Claim (λ s. (s.claimed ≡ n) × (piece_holders s n ≡ 0)) w

-- the seat's take found the count n; no worker had the number n
pub record Took (v : View) (n : ℕ) (w : View) : Type 0 where
  pub number : n < v.terms.budget → w ≡ with_number v n w.log
  pub none_left : v.terms.budget ≤ n → w ≡ record v { no_number_left = true; log = w.log }
  pub rising : (x : ℕ) → n ≤ x → count_by (λ y. y == x) v.worker.numbers ≡ 0
  pub event : MadeBy v Take (λ s. (s.taken ≡ n) × (number_holders s n ≡ 0)) w

-- the seat posted the cost c where the least cost was `least`
pub record Posted (v : View) (c : ℕ) (w : View) : Type 0 where
  pub least : Option ℕ
  pub now : w ≡ record v { worker = after_post least c v.worker; log = w.log }
  pub no_rise : AtMost w.worker.seen v.worker.seen
  pub event : MadeBy v (λ i. Post i c) (λ s. s.least ≡ least) w

-- the seat read the least cost
pub record Looked (v : View) (least : Option ℕ) (w : View) : Type 0 where
  pub now : w ≡ record v { worker = record v.worker { seen = least }; log = w.log }
  pub no_rise : AtMost w.worker.seen v.worker.seen
  pub within_start : AtMost least v.terms.start
  pub event : MadeBy v Read (λ s. s.least ≡ least) w

-- the seat with a part of its share given away
abbrev pub left_half : View → List Event → View
left_half v log = record v { share = v.share - v.share / 2; log = log }

-- the new seat, of the worker of this number
abbrev pub right_half : View → ℕ → List Event → View
right_half v number log =
    record v { number = number; worker = newcomer v.worker.seen; share = v.share / 2; log = log }

-- the worker of this number is new: it was split off from that of v, and has only seen what that
-- one has
pub record Parted (v : View) (number : ℕ) (log : List Event) : Type 0 where
  pub after : Core
  pub left : Has after v.number v.worker
  pub right : Has after number (newcomer v.worker.seen)
  pub event : Made v.terms v (Split v.number) (λ s. (w : Worker) → Has s number w → ⊥) after log

-- both in one seat
abbrev pub both_views : View → View → List Event → View
both_views v u log = record v {
  worker = joined v.worker u.worker;
  share = v.share + u.share;
  no_piece_left = v.no_piece_left || u.no_piece_left;
  no_number_left = v.no_number_left || u.no_number_left;
  log = log;
}

-- the worker of this number, which knew these events, was joined into that of v and is there no
-- more
pub record United (v : View) (number : ℕ) (worker : Worker) (known log : List Event) : Type 0 where
  pub after : Core
  pub is : Has after v.number (joined v.worker worker)
  pub gone : (w : Worker) → Has after number w → ⊥
  pub event : Made v.terms v (Join v.number number) (λ s. Has s number worker) after log
  pub both_known : (rest : List Event) × (log ≡ (known ++ rest) ++ Join v.number number ∷ [])
      × All (λ e. maker e ≢ number) rest

module _ {S : Type 0} where
  -- the seat keeps the slots and the guest that it has
  abbrev pub Alone : Me S SeatState → Me S SeatState → Type 0
  Alone m m' = (m'.1 ≡ m.1) × (m'.0.guest ≡ m.0.guest)

  abbrev pub claim_play : Step S → Me S SeatState → ℕ → Me S SeatState → Type 0
  claim_play st m n m' = Alone m m' × Claimed m.0.view n m'.0.view

  abbrev pub take_play : Step S → Me S SeatState → ℕ → Me S SeatState → Type 0
  take_play st m n m' = Alone m m' × Took m.0.view n m'.0.view

  abbrev pub post_play : Step S → Me S SeatState → ℕ → Me S SeatState → Type 0
  post_play st m n m' = Alone m m' × Posted m.0.view st.first m'.0.view

  abbrev pub read_play : Step S → Me S SeatState → ℕ → Me S SeatState → Type 0
  read_play st m n m' = Alone m m' × Looked m.0.view (cost_in_word n) m'.0.view

  -- a new worker is there, and is this seat's guest
  abbrev pub split_play : Step S → Me S SeatState → ℕ → Me S SeatState → Type 0
  split_play st m n m' = (m'.1 ≡ m.1) × ((number : ℕ) × (log : List Event)
      × (m'.0 ≡ record {
        view = record m.0.view { log = log };
        guest = Some (record {
          number = number;
          worker = newcomer m.0.view.worker.seen;
          log = log;
        });
      })
      × Parted m.0.view number log)

  -- the guest is joined into the seat's worker
  abbrev pub join_play : Step S → Me S SeatState → ℕ → Me S SeatState → Type 0
  join_play st m n m' = (m'.1 ≡ m.1) × (m'.0.guest ≡ None) × ((g : Guest) → m.0.guest ≡ Some g
      → (m'.0.view ≡ record m.0.view {
        worker = joined m.0.view.worker g.worker;
        log = m'.0.view.log;
      }) × United m.0.view g.number g.worker g.log m'.0.view.log)

-- the seat without its guest, and with one half of its share
abbrev pub host_state : SeatState → SeatState
host_state v =
    record { view = record v.view { share = v.view.share - v.view.share / 2 }; guest = None }

abbrev pub guest_state_of : View → Option Guest → SeatState
guest_state_of v None = record { view = record v { share = v.share / 2 }; guest = None }
guest_state_of v (Some g) =
    record {
      view = record v {
        number = g.number;
        worker = g.worker;
        log = g.log;
        share = v.share / 2;
      };
      guest = None;
    }

-- the guest at a seat of its own, with the other half
abbrev pub guest_state : SeatState → SeatState
guest_state v = guest_state_of v.view v.guest

-- the first seat with the worker of the second as its guest, and with both shares
abbrev pub hosting_state : SeatState → SeatState → SeatState
hosting_state v u = record {
  view = record v.view {
    share = v.view.share + u.view.share;
    no_piece_left = v.view.no_piece_left || u.view.no_piece_left;
    no_number_left = v.view.no_number_left || u.view.no_number_left;
  };
  guest = Some (record { number = u.view.number; worker = u.view.worker; log = u.view.log });
}

abbrev pub first_view : Terms → View
first_view t = record {
  terms = t;
  number = 0;
  worker = newcomer t.start;
  log = [];
  share = 2 ^ 32;
  no_piece_left = false;
  no_number_left = false;
}

abbrev pub first_state : Terms → SeatState
first_state t = record { view = first_view t; guest = None }

abbrev pub spent_state : SeatState
spent_state = record {
  view = record (first_view (record { pieces = 0; budget = 0; start = None })) { share = 0 };
  guest = None;
}
