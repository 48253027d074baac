use Rattle.std.proofs.Common.{◌≡◌, ℕ, ◌<◌, ◌≤◌, [], ◌++◌, length, map, reverse, take, drop, get_or, sym, ap, subst, ◌∙◌, arith}
use Rattle.season_days.specs.declared.declaration.Declaration.{Declaration}
use Rattle.scr_reader.specs.Again.{IsFitItem}
use Rattle.holding_book.specs.Books.{SlotBook}
use Rattle.holding_book.specs.Histories.{IsLegal}
use Rattle.turn_lock.specs.Seats.{IsAtRest}
use Rattle.session_desk.specs.Served.{HasServed}
use Rattle.session_desk.specs.Begun.{IsAnsweredBy, IsBegunBy, HasBroken, ledger_caller}
use Rattle.session_desk.specs.declared.amending.DeskCaller.{DeskCaller}
use Rattle.turn_lock.specs.History.{own}
use Rattle.slot_ledger.specs.Starts.{entry_caller}
use Rattle.session_desk.proofs.JoinLemmas.{joined, numbered, below_count, new_length, all_apart, all_paired, same_caller, full_at_close, broken_at_close, written_back, paired-length}
use Rattle.session_desk.proofs.doors.serve_doors.Goals as goal

pub pair_up-requires-clause-same : goal.pair_up-requires-clause-same
pair_up-requires-clause-same g c =
    let all : length c.in_ok-ledger.passes.items ≡ c.len-count.result = new_length c.in_ok-ledger.ledger.id c.in_ok-ledger.ledger.origin 0 c.len-count.result c.in_ok-ledger.passes.items c.in_ok-ledger.ensures.passes in
    omega (arith, all, c.len-count.ensures, c.args.doors.now.ok.0)

pub serve_all-requires-clause-rest : goal.serve_all-requires-clause-rest
serve_all-requires-clause-rest g c κs within =
    rw c.as_mut_slice.ensures.value (all_paired (IsAtRest c.in_ok-ledger.ledger) (λ w. w.pass) c.pair_up.new.workers.items c.in_ok-ledger.passes.items c.pair_up.ensures.passes c.in_ok-ledger.ensures.rest)

pub serve_all-requires-clause-takes : goal.serve_all-requires-clause-takes
serve_all-requires-clause-takes g c κs within k d lt ask fit =
    let us = c.pair_up.new.workers.items in
    let n = c.len-count.result in
    let there : k < length us = rw c.as_mut_slice.ensures.value at lt in
    let count : length us ≡ n = omega (arith, c.len-count.ensures, c.args.doors.now.ok.0, paired-length (λ w. w.door) us c.args.doors.now.items c.pair_up.ensures.doors) in
    let below : (get_or us k d).pass.number < n = below_count g.B.Beside.read (λ w. w.door) g.D.Door.view (λ w. w.pass) (λ w. w.work) (λ n x a k y b. Unit {0})
    us c.in_ok-ledger.ledger.id c.in_ok-ledger.ledger.origin n count (c.pair_up.ensures.passes ∙ c.in_ok-ledger.ensures.passes) k d there in
    let bound : (get_or us k d).pass.number < length c.args.doors.now.items = omega (arith, below, c.len-count.ensures, c.args.doors.now.ok.0) in
    rw (c.as_mut_slice.ensures.value, c.in_ok-ledger.ensures.beside)
    (c.requires.takes (get_or us k d).pass.number ask bound (subst (λ (e : Declaration). IsFitItem e.season ask) (ap (λ b. b.declaration) c.in_ok-ledger.ensures.first) fit))

pub take_apart-requires-clause-doors : goal.take_apart-requires-clause-doors
take_apart-requires-clause-doors g c =
    let us = c.pair_up.new.workers.items in
    let vs = c.serve_all.new.workers in
    let same : length vs ≡ length us = c.serve_all.auto.workers ∙ ap length c.as_mut_slice.ensures.value in
    let whole = written_back vs us c.pair_up.new.workers.len same (omega (arith, c.pair_up.new.workers.ok.0)) in
    let count : length (take c.pair_up.new.workers.len (vs ++ drop (length vs) us)) ≡ length c.args.doors.now.items = ap length whole ∙ same ∙ sym (paired-length (λ w. w.door) us c.args.doors.now.items c.pair_up.ensures.doors) in
    (c.pair_up.ensures.empty.0, rw (count, c.pair_up.ensures.kept.0) (omega (arith, c.args.doors.now.ok.0, c.args.doors.now.ok.1)))

pub take_apart-requires-clause-passes : goal.take_apart-requires-clause-passes
take_apart-requires-clause-passes g c =
    let us = c.pair_up.new.workers.items in
    let vs = c.serve_all.new.workers in
    let same : length vs ≡ length us = c.serve_all.auto.workers ∙ ap length c.as_mut_slice.ensures.value in
    let whole = written_back vs us c.pair_up.new.workers.len same (omega (arith, c.pair_up.new.workers.ok.0)) in
    let count : length (take c.pair_up.new.workers.len (vs ++ drop (length vs) us)) ≡ length c.in_ok-ledger.passes.items = ap length whole ∙ same ∙ sym (paired-length (λ w. w.pass) us c.in_ok-ledger.passes.items c.pair_up.ensures.passes) in
    (c.pair_up.ensures.empty.1, rw (count, c.pair_up.ensures.kept.1) (omega (arith, c.in_ok-ledger.passes.ok.0, c.in_ok-ledger.passes.ok.1)))

pub close-history-requires-clause-rest : goal.close-history-requires-clause-rest
close-history-requires-clause-rest g c =
    let us = c.pair_up.new.workers.items in
    let vs = c.serve_all.new.workers in
    let same : length vs ≡ length us = c.serve_all.auto.workers ∙ ap length c.as_mut_slice.ensures.value in
    let whole = written_back vs us c.pair_up.new.workers.len same (omega (arith, c.pair_up.new.workers.ok.0)) in
    all_apart (IsAtRest c.in_ok-ledger.ledger) (λ w. w.pass) vs c.take_apart.new.passes.items (sym (c.take_apart.ensures.passes ∙ ap (λ l. reverse (map (λ w. w.pass) l)) whole)) c.serve_all.ensures.rest

pub returns-clause-asked : goal.returns-clause-asked
returns-clause-asked g c k d lt = rw (sym (ap (λ b. b.declaration) c.in_ok-ledger.ensures.first)) (c.close-history.ensures.asked k d lt)

pub returns-clause-callers : goal.returns-clause-callers
returns-clause-callers g c k d lt =
    let us = c.pair_up.new.workers.items in
    let vs = c.serve_all.new.workers in
    let n = c.len-count.result in
    let same : length vs ≡ length us = c.serve_all.auto.workers ∙ ap length c.as_mut_slice.ensures.value in
    let whole = written_back vs us c.pair_up.new.workers.len same (omega (arith, c.pair_up.new.workers.ok.0)) in
    let numbers = rw c.as_mut_slice.ensures.value at c.serve_all.ensures.numbers in
    let count : length us ≡ n = omega (arith, c.len-count.ensures, c.args.doors.now.ok.0, paired-length (λ w. w.door) us c.args.doors.now.items c.pair_up.ensures.doors) in
    let below : (get_or c.close-history.result.1.items k d).caller < n = numbered g.B.Beside.read (λ w. w.door) g.D.Door.view (λ w. w.pass) (λ w. w.work) (λ n x a k y b. Unit {0})
    us vs c.take_apart.new.passes.items c.in_ok-ledger.ledger.id c.in_ok-ledger.ledger.origin n same count (c.pair_up.ensures.passes ∙ c.in_ok-ledger.ensures.passes)
    (sym (c.take_apart.ensures.passes ∙ ap (λ l. reverse (map (λ w. w.pass) l)) whole)) numbers (get_or c.close-history.result.1.items k d).caller (c.close-history.ensures.callers k d lt) in
    omega (arith, below, c.len-count.ensures, c.args.doors.now.ok.0)

pub returns-clause-each : goal.returns-clause-each
returns-clause-each g c i d k lt =
    let us = c.pair_up.new.workers.items in
    let vs = c.serve_all.new.workers in
    let n = c.len-count.result in
    let origin = c.in_ok-ledger.ledger.origin in
    let same : length vs ≡ length us = c.serve_all.auto.workers ∙ ap length c.as_mut_slice.ensures.value in
    let whole = written_back vs us c.pair_up.new.workers.len same (omega (arith, c.pair_up.new.workers.ok.0)) in
    let numbers = rw c.as_mut_slice.ensures.value at c.serve_all.ensures.numbers in
    let each = rw c.as_mut_slice.ensures.value at c.serve_all.ensures.each in
    let count : length us ≡ n = omega (arith, c.len-count.ensures, c.args.doors.now.ok.0, paired-length (λ w. w.door) us c.args.doors.now.items c.pair_up.ensures.doors) in
    let none : g.B.Beside.read [] ≡ [] = ap g.B.Beside.read (sym c.requires.empty) ∙ c.laws.ensures.told [] in
    subst (λ (x : DeskCaller). HasServed (IsAnsweredBy x) (IsBegunBy (HasBroken g.B.Beside.broken) x) c.args.links (g.D.Door.view (get_or c.args.doors.now.items i d)) [] (get_or c.take_apart.new.works.items i k) (g.D.Door.view (get_or c.take_apart.new.doors.items i d)) (own entry_caller i c.close-history.result.1.items))
    (same_caller (g.B.Beside.found origin.beside) (g.B.Beside.found (g.B.Beside.start c.args.beside)) origin.start c.args.book.book.declaration c.args.most i (ap g.B.Beside.found c.in_ok-ledger.ensures.beside) (ap (λ b. b.declaration) c.in_ok-ledger.ensures.first) c.in_ok-ledger.ensures.most)
    (joined g.B.Beside.read (λ w. w.door) g.D.Door.view (λ w. w.pass) (λ w. w.work) (λ m x a l y b. HasServed (IsAnsweredBy (ledger_caller (g.B.Beside.found origin.beside) origin.start m)) (IsBegunBy (HasBroken g.B.Beside.broken) (ledger_caller (g.B.Beside.found origin.beside) origin.start m)) c.args.links x a l y b)
    us vs c.args.doors.now.items c.take_apart.new.doors.items c.take_apart.new.passes.items c.take_apart.new.works.items c.in_ok-ledger.ledger.id origin n c.close-history.result.1.items
    none same count c.pair_up.ensures.doors (sym (c.take_apart.ensures.doors ∙ ap (λ l. reverse (map (λ w. w.door) l)) whole)) (sym (c.take_apart.ensures.works ∙ ap (λ l. reverse (map (λ w. w.work) l)) whole)) (c.pair_up.ensures.passes ∙ c.in_ok-ledger.ensures.passes) (sym (c.take_apart.ensures.passes ∙ ap (λ l. reverse (map (λ w. w.pass) l)) whole)) c.close-history.ensures.seen numbers each i d k lt)

pub returns-clause-full : goal.returns-clause-full
returns-clause-full g c i k lt is =
    let us = c.pair_up.new.workers.items in
    let vs = c.serve_all.new.workers in
    let origin = c.in_ok-ledger.ledger.origin in
    let same : length vs ≡ length us = c.serve_all.auto.workers ∙ ap length c.as_mut_slice.ensures.value in
    let whole = written_back vs us c.pair_up.new.workers.len same (omega (arith, c.pair_up.new.workers.ok.0)) in
    let stopped = rw c.as_mut_slice.ensures.value at c.serve_all.ensures.stopped in
    let there : i < length us = omega (arith, lt, paired-length (λ w. w.door) us c.args.doors.now.items c.pair_up.ensures.doors) in
    let works = sym (c.take_apart.ensures.works ∙ ap (λ l. reverse (map (λ w. w.work) l)) whole) in
    let seats = sym (c.take_apart.ensures.passes ∙ ap (λ l. reverse (map (λ w. w.pass) l)) whole) in
    full_at_close g.B.Beside.read g.B.Beside.broken origin.start.most (λ w. w.pass) (λ w. w.work) us vs c.take_apart.new.passes.items c.take_apart.new.works.items same works seats stopped
    c.close-history.result.1.items c.close-history.ensures.seen c.close-history.ensures.few i k there is
    ∙ c.in_ok-ledger.ensures.most

pub returns-clause-broken : goal.returns-clause-broken
returns-clause-broken g c i k lt is =
    let us = c.pair_up.new.workers.items in
    let vs = c.serve_all.new.workers in
    let origin = c.in_ok-ledger.ledger.origin in
    let same : length vs ≡ length us = c.serve_all.auto.workers ∙ ap length c.as_mut_slice.ensures.value in
    let whole = written_back vs us c.pair_up.new.workers.len same (omega (arith, c.pair_up.new.workers.ok.0)) in
    let stopped = rw c.as_mut_slice.ensures.value at c.serve_all.ensures.stopped in
    let there : i < length us = omega (arith, lt, paired-length (λ w. w.door) us c.args.doors.now.items c.pair_up.ensures.doors) in
    let works = sym (c.take_apart.ensures.works ∙ ap (λ l. reverse (map (λ w. w.work) l)) whole) in
    let seats = sym (c.take_apart.ensures.passes ∙ ap (λ l. reverse (map (λ w. w.pass) l)) whole) in
    broken_at_close g.B.Beside.read g.B.Beside.broken origin.start.most (λ w. w.pass) (λ w. w.work) us vs c.take_apart.new.passes.items c.take_apart.new.works.items same works seats stopped
    g.B.Beside.number (g.B.Beside.told c.close-history.result.2 c.close-history.result.1.items) c.close-history.ensures.told i k there is

pub returns-clause-legal : goal.returns-clause-legal
returns-clause-legal g c = subst (λ (b : SlotBook). IsLegal b c.close-history.result.1.items) c.in_ok-ledger.ensures.first c.close-history.ensures.legal

pub returns-clause-few : goal.returns-clause-few
returns-clause-few g c = subst (λ (n : ℕ). length c.close-history.result.1.items ≤ n) c.in_ok-ledger.ensures.most c.close-history.ensures.few

pub returns-clause-start : goal.returns-clause-start
returns-clause-start g c = c.close-history.ensures.start ∙ c.in_ok-ledger.ensures.beside

pub returns-clause-agrees : goal.returns-clause-agrees
returns-clause-agrees g c = c.close-history.ensures.agrees

pub returns-clause-doors : goal.returns-clause-doors
returns-clause-doors g c =
    let us = c.pair_up.new.workers.items in
    let vs = c.serve_all.new.workers in
    let same : length vs ≡ length us = c.serve_all.auto.workers ∙ ap length c.as_mut_slice.ensures.value in
    let whole = written_back vs us c.pair_up.new.workers.len same (omega (arith, c.pair_up.new.workers.ok.0)) in
    paired-length (λ w. w.door) vs c.take_apart.new.doors.items (sym (c.take_apart.ensures.doors ∙ ap (λ l. reverse (map (λ w. w.door) l)) whole))
    ∙ same
    ∙ sym (paired-length (λ w. w.door) us c.args.doors.now.items c.pair_up.ensures.doors)

pub returns-clause-works : goal.returns-clause-works
returns-clause-works g c =
    let us = c.pair_up.new.workers.items in
    let vs = c.serve_all.new.workers in
    let same : length vs ≡ length us = c.serve_all.auto.workers ∙ ap length c.as_mut_slice.ensures.value in
    let whole = written_back vs us c.pair_up.new.workers.len same (omega (arith, c.pair_up.new.workers.ok.0)) in
    paired-length (λ w. w.work) vs c.take_apart.new.works.items (sym (c.take_apart.ensures.works ∙ ap (λ l. reverse (map (λ w. w.work) l)) whole))
    ∙ same
    ∙ sym (paired-length (λ w. w.door) us c.args.doors.now.items c.pair_up.ensures.doors)

pub pair_up-requires-clause-none : goal.pair_up-requires-clause-none
pair_up-requires-clause-none g c = c.in_ok-ledger.ensures.workers.0

pub pair_up-requires-clause-room : goal.pair_up-requires-clause-room
pair_up-requires-clause-room g c = omega (arith, c.in_ok-ledger.ensures.workers.1, c.len-count.ensures, c.args.doors.now.ok.0)

pub take_apart-requires-clause-works : goal.take_apart-requires-clause-works
take_apart-requires-clause-works g c =
    let us = c.pair_up.new.workers.items in
    let vs = c.serve_all.new.workers in
    let same : length vs ≡ length us = c.serve_all.auto.workers ∙ ap length c.as_mut_slice.ensures.value in
    let whole = written_back vs us c.pair_up.new.workers.len same (omega (arith, c.pair_up.new.workers.ok.0)) in
    let count : length (take c.pair_up.new.workers.len (vs ++ drop (length vs) us)) ≡ length c.args.doors.now.items = ap length whole ∙ same ∙ sym (paired-length (λ w. w.door) us c.args.doors.now.items c.pair_up.ensures.doors) in
    (c.in_ok-ledger.ensures.works.0, rw count (omega (arith, c.in_ok-ledger.ensures.works.1, c.len-count.ensures, c.args.doors.now.ok.0)))
