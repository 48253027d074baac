use Rattle.std.proofs.Common.{◌≡◌, ◌≤◌, ◌+◌, ◌++◌, length, map, reverse}
use Rattle.std.specs.Prelude.{vec_capacity}
use Rattle.session_desk.proofs.worker.pair_up.Given as goal

abbrev pub invariant-loop-round : goal.invariant-loop-round
invariant-loop-round g l =
    (l.doors.items ++ reverse (map (λ w. w.door) l.workers.items) ≡ l.initial.doors.items)
    × (l.passes.items ++ reverse (map (λ w. w.pass) l.workers.items) ≡ l.initial.passes.items)
    × (length l.doors.items ≡ length l.passes.items)
    × (length l.doors.items + l._round ≡ length l.initial.doors.items)
    × (length l.doors.items + length l.workers.items ≤ vec_capacity l.workers)
    × (vec_capacity l.doors ≡ vec_capacity l.initial.doors)
    × (vec_capacity l.passes ≡ vec_capacity l.initial.passes)
