use Rattle.std.proofs.Common.{◌≡◌, ◌<◌, ℕ, [], get_or, length, refl, subst, arith, rules}
use Rattle.turn_lock.specs.History.{own}
use Rattle.slot_ledger.specs.Starts.{entry_caller}
use Rattle.session_desk.specs.Served.{HasServed}
use Rattle.session_desk.specs.Begun.{desk_caller, HasBroken, IsAnsweredBy, IsBegunBy}
use Rattle.desk_commands.specs.Services.{IsWorker}
use Rattle.desk_commands.specs.declared.service_lines.TheConstants.{MOST_ENTRIES}
use Rattle.slot_program.proofs.ServiceLemmas.{all_workers, no_workers, full_at, broken_at}
use Rattle.slot_program.proofs.serve.served.Goals as goal

pub returns-then-is_empty-clause-workers : goal.returns-then-is_empty-clause-workers
returns-then-is_empty-clause-workers g c =
    let none : length c.args.doors.now.items ≡ 0 = search rules in
    no_workers g.D.Door.view (IsWorker g.B.Beside.broken c.args.book.book c.args.links _) c.args.doors.now.items _ none (search rules)

pub returns-clause-workers : goal.returns-clause-workers
returns-clause-workers g c =
    let h = c.in_ok-history.history.items in
    let d0 = c.args.book.book.declaration in
    all_workers g.D.Door.view (IsWorker g.B.Beside.broken c.args.book.book c.args.links h) c.args.doors.now.items c.in_ok-history.works.items c.serve_doors.new.doors.items
    c.in_ok-history.ensures.works c.serve_doors.ensures.doors
    (λ n d k lt. subst (λ (m : ℕ). HasServed (IsAnsweredBy (desk_caller d0 m n)) (IsBegunBy (HasBroken g.B.Beside.broken) (desk_caller d0 m n)) c.args.links (g.D.Door.view (get_or c.args.doors.now.items n d)) []
    (get_or c.in_ok-history.works.items n k) (g.D.Door.view (get_or c.serve_doors.new.doors.items n d)) (own entry_caller n h)) c.requires.most (c.in_ok-history.ensures.each n d k lt))

pub returns-clause-full : goal.returns-clause-full
returns-clause-full g c = λ some.
    let at = full_at c.in_ok-history.works.items some in
    let whole : length c.in_ok-history.history.items ≡ c.args.most = c.in_ok-history.ensures.full at.0 at.1 (let lt : at.0 < length c.args.doors.now.items = omega (arith, at.2, c.in_ok-history.ensures.works) in lt) at.3 in
    omega (arith, whole, c.requires.most)

pub returns-clause-few : goal.returns-clause-few
returns-clause-few g c = omega (arith, c.in_ok-history.ensures.few, c.requires.most)

pub returns-clause-broken : goal.returns-clause-broken
returns-clause-broken g c = λ some.
    let at = broken_at c.in_ok-history.works.items some in
    c.in_ok-history.ensures.broken at.0 at.1 (let lt : at.0 < length c.args.doors.now.items = omega (arith, at.2, c.in_ok-history.ensures.works) in lt) at.3

pub serve_doors-requires-clause-most : goal.serve_doors-requires-clause-most
serve_doors-requires-clause-most g c =
    let most : MOST_ENTRIES ≡ 100000 = refl in
    omega (arith, c.requires.most, most)
