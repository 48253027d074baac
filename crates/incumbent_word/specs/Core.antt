-- A search by several workers, with no threads: its state, its events, and what each event does.
use Rattle.std.specs.Prelude.{◌≡◌, ◌≢◌, ℕ, ◌+◌, ◌<◌, ◌≤◌, ◌==◌, zero, suc, min, List, [], ◌∷◌, ◌++◌}
use Rattle.std.specs.Prelude.{slice_set, Option, Some, None}
use Rattle.std.specs.List.{sum_by, count_by}
use Rattle.incumbent_word.specs.declared.view.Terms.{Terms}
use Rattle.incumbent_word.specs.declared.view.Worker.{Worker}
use Rattle.incumbent_word.specs.declared.view.Event.{Event}
use Rattle.incumbent_word.specs.declared.view.Event.TheVariants.{Claim, Take, Post, Read, Split}
use Rattle.incumbent_word.specs.declared.view.Event.TheVariants.{Join}

-- the smaller of two costs, where no cost counts as greater than every cost
abbrev pub lesser : Option ℕ → Option ℕ → Option ℕ
lesser None b = b
lesser (Some a) None = Some a
lesser (Some a) (Some b) = Some (min a b)

abbrev pub AtMost : Option ℕ → Option ℕ → Type 0
AtMost None None = Unit {0}
AtMost (Some a) None = Unit {0}
AtMost None (Some b) = ⊥
AtMost (Some a) (Some b) = a ≤ b

-- the workers by their numbers, with None for one that was joined into another
pub record Core : Type 0 where
  pub claimed : ℕ
  pub taken : ℕ
  pub least : Option ℕ
  pub workers : List (Option Worker)

-- the worker that makes the event
abbrev pub maker : Event → ℕ
maker (Claim i) = i
maker (Take i) = i
maker (Post i c) = i
maker (Read i) = i
maker (Split i) = i
maker (Join i j) = i

-- a worker that has only seen a cost
abbrev pub newcomer : Option ℕ → Worker
newcomer seen = record { pieces = []; numbers = []; best = None; seen = seen }

abbrev pub opening : Terms → Core
opening t = record {
  claimed = 0;
  taken = 0;
  least = t.start;
  workers = Some (newcomer t.start) ∷ [];
}

abbrev pub worker_at : List (Option Worker) → ℕ → Option Worker
worker_at [] i = None
worker_at (o ∷ os) zero = o
worker_at (o ∷ os) (suc i) = worker_at os i

-- the worker i is there, and is w
abbrev pub Has : Core → ℕ → Worker → Type 0
Has s i w = worker_at s.workers i ≡ Some w

-- w becomes v where the count of claimed pieces was n
abbrev pub Claims : Terms → ℕ → Worker → Worker → Type 0
Claims t n w v = (n < t.pieces → v ≡ record w { pieces = w.pieces ++ n ∷ [] })
    × (t.pieces ≤ n → v ≡ w)

-- w becomes v where the count of taken numbers was n
abbrev pub Takes : Terms → ℕ → Worker → Worker → Type 0
Takes t n w v = (n < t.budget → v ≡ record w { numbers = w.numbers ++ n ∷ [] })
    × (t.budget ≤ n → v ≡ w)

-- w after it posted the cost c, where the least cost was `least`
abbrev pub after_post : Option ℕ → ℕ → Worker → Worker
after_post least c w = record w { best = lesser w.best (Some c); seen = lesser least (Some c) }

-- w after v was joined into it
abbrev pub joined : Worker → Worker → Worker
joined w v = record {
  pieces = w.pieces ++ v.pieces;
  numbers = w.numbers ++ v.numbers;
  best = lesser w.best v.best;
  seen = lesser w.seen v.seen;
}

abbrev pub with_worker : Core → ℕ → Option Worker → Core
with_worker s i o = record s { workers = slice_set s.workers i o }

-- the event leads from the state s to the state r
abbrev pub Steps : Terms → Core → Event → Core → Type 0
Steps t s (Claim i) r = (w v : Worker) × Has s i w × Claims t s.claimed w v
    × (r ≡ with_worker (record s { claimed = s.claimed + 1 }) i (Some v))
Steps t s (Take i) r = (w v : Worker) × Has s i w × Takes t s.taken w v
    × (r ≡ with_worker (record s { taken = s.taken + 1 }) i (Some v))
Steps t s (Post i c) r = (w : Worker) × Has s i w
    × (r ≡ with_worker (record s { least = lesser s.least (Some c) }) i
    (Some (after_post s.least c w)))
Steps t s (Read i) r = (w : Worker) × Has s i w
    × (r ≡ with_worker s i (Some (record w { seen = s.least })))
Steps t s (Split i) r = (w : Worker) × Has s i w
    × (r ≡ record s { workers = s.workers ++ Some (newcomer w.seen) ∷ [] })
Steps t s (Join i j) r = (w v : Worker) × Has s i w × Has s j v × (j ≢ i)
    × (r ≡ with_worker (with_worker s i (Some (joined w v))) j None)

-- the events lead, one after the other, from s to r
abbrev pub Runs : Terms → Core → List Event → Core → Type 0
Runs t s [] r = s ≡ r
Runs t s (e ∷ es) r = (m : Core) × Steps t s e m × Runs t m es r

-- the least of the costs posted
abbrev pub least_posted : List Event → Option ℕ
least_posted [] = None
least_posted (Claim i ∷ es) = least_posted es
least_posted (Take i ∷ es) = least_posted es
least_posted (Post i c ∷ es) = lesser (Some c) (least_posted es)
least_posted (Read i ∷ es) = least_posted es
least_posted (Split i ∷ es) = least_posted es
least_posted (Join i j ∷ es) = least_posted es

abbrev pub of_worker : (Worker → ℕ) → Option Worker → ℕ
of_worker f None = 0
of_worker f (Some w) = f w

-- how many times the workers have the piece x, and the number x
abbrev pub piece_holders : Core → ℕ → ℕ
piece_holders s x = sum_by (of_worker (λ w. count_by (λ y. y == x) w.pieces)) s.workers

abbrev pub number_holders : Core → ℕ → ℕ
number_holders s x = sum_by (of_worker (λ w. count_by (λ y. y == x) w.numbers)) s.workers

-- each number below n is had once, and no other is had
abbrev pub EachOnce : (ℕ → ℕ) → ℕ → Type 0
EachOnce had n = (x : ℕ) → (x < n → had x ≡ 1) × (n ≤ x → had x ≡ 0)

-- what holds after the events xs, which lead to the state `middle`, and then ys, which lead to
-- `last`
pub record IsLawful (t : Terms) (xs ys : List Event) (middle last : Core) : Type 0 where
  pub smallest : last.least ≡ lesser t.start (least_posted (xs ++ ys))
  pub never_rises : AtMost last.least middle.least
  pub seen : (i : ℕ) (w : Worker) → Has middle i w → AtMost last.least w.seen
  pub within_start : (i : ℕ) (w : Worker) → Has middle i w → AtMost w.seen t.start
  pub within_best : (i : ℕ) (w : Worker) → Has middle i w → AtMost w.seen w.best
  pub pieces : EachOnce (piece_holders last) (min last.claimed t.pieces)
  pub numbers : EachOnce (number_holders last) (min last.taken t.budget)
