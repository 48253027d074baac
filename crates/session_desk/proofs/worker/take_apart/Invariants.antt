use Rattle.std.proofs.Common.{◌≡◌, ◌≤◌, ◌+◌, ◌++◌, length, map, reverse}
use Rattle.std.specs.Prelude.{vec_capacity}
use Rattle.session_desk.proofs.worker.take_apart.Given as goal

abbrev pub invariant-loop-round : goal.invariant-loop-round
invariant-loop-round g l =
    (l.doors.items ++ reverse (map (λ w. w.door) l.workers.items) ≡ reverse (map (λ w. w.door) l.initial.workers.items))
    × (l.passes.items ++ reverse (map (λ w. w.pass) l.workers.items) ≡ reverse (map (λ w. w.pass) l.initial.workers.items))
    × (l.works.items ++ reverse (map (λ w. w.work) l.workers.items) ≡ reverse (map (λ w. w.work) l.initial.workers.items))
    × (length l.workers.items + l._round ≡ length l.initial.workers.items)
    × (length l.doors.items + length l.workers.items ≤ vec_capacity l.doors)
    × (length l.passes.items + length l.workers.items ≤ vec_capacity l.passes)
    × (length l.works.items + length l.workers.items ≤ vec_capacity l.works)
