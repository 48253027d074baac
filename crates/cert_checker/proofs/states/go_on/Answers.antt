use Rattle.std.proofs.Common.{rules, ◌≡◌, ◌-◌, ◌<◌, ◌∙◌, ℕ, List, [], length, drop, refl, sym, ap, subst}
use Rattle.std.specs.Prelude.{All, IsTrue, take}
use Rattle.std.specs.List.{Contains}
use Rattle.cert_checker.proofs.KeptLoadLemmas.{take-rest}
use Rattle.cert_checker.proofs.StateLemmas.{step-there, step-more}
use Rattle.cert_checker.proofs.states.go_on.Goals as goal

pub mark_all-requires : goal.mark_all-requires
mark_all-requires c =
    let s = c.args.state.now in
    let yes : IsTrue c.in_ok-goes_on.goes_on = search rules in
    let on : c.advance.new.self ≡ [] → ⊥ = search rules in
    let there = step-there c.args.problem.now c.args.vectors.now c.args.walk.now c.advance.new.self s c.advance.new.changed.items c.requires.some c.requires.ranges c.requires.state on (c.in_ok-goes_on.ensures.changed yes) in
    let count : c.len-before.result ≡ length s.changes.items = search rules in
    let same : take (length c.deref.result.now - c.len-before.result) (drop c.len-before.result c.deref.result.now) ≡ drop (length s.changes.items) c.advance.new.changed.items =
    take-rest c.deref.result.now c.len-before.result
    ∙ ap (λ (n : ℕ). drop n c.deref.result.now) count
    ∙ ap (λ (xs : List ℕ). drop (length s.changes.items) xs) c.deref.ensures.value in
    subst (λ (xs : List ℕ). All (λ u. u < s.loads.changed.most) xs) (sym same) there

pub returns-in_ok-mark_all-clause-state : goal.returns-in_ok-mark_all-clause-state
returns-in_ok-mark_all-clause-state c = λ yes.
    let s = c.args.state.now in
    let on : c.advance.new.self ≡ [] → ⊥ = search rules in
    let count : c.len-before.result ≡ length s.changes.items = search rules in
    let same : take (length c.deref.result.now - c.len-before.result) (drop c.len-before.result c.deref.result.now) ≡ drop (length s.changes.items) c.advance.new.changed.items =
    take-rest c.deref.result.now c.len-before.result
    ∙ ap (λ (n : ℕ). drop n c.deref.result.now) count
    ∙ ap (λ (xs : List ℕ). drop (length s.changes.items) xs) c.deref.ensures.value in
    step-more c.walked_bounds.ensures.ranges c.agreeing_ranges.ensures.seen c.args.problem.now c.args.vectors.now c.args.walk.now c.advance.new.self s
    (record { bounds = s.bounds; loads = record { whole = s.loads.whole; changed = c.mark_all.new.marked; named = s.loads.named; known = s.loads.known; kept = s.loads.kept }; changes = c.advance.new.changed })
    c.requires.some c.requires.ranges c.requires.state on (c.in_ok-goes_on.ensures.changed yes) refl refl refl refl refl c.mark_all.ensures.most
    (λ u h. c.in_ok-mark_all.ensures.all u (subst (λ (xs : List ℕ). Contains xs u) (sym same) h)) c.mark_all.ensures.stay

pub returns-in_ok-mark_all-clause-step : goal.returns-in_ok-mark_all-clause-step
returns-in_ok-mark_all-clause-step c = c.in_ok-goes_on.ensures.step

pub returns-in_ok-mark_all-clause-stop : goal.returns-in_ok-mark_all-clause-stop
returns-in_ok-mark_all-clause-stop c = c.in_ok-goes_on.ensures.stop

pub returns-in_ok-mark_all-clause-ranges : goal.returns-in_ok-mark_all-clause-ranges
returns-in_ok-mark_all-clause-ranges c = c.in_ok-goes_on.ensures.valid c.args.problem.now c.requires.ranges

pub returns-else-goes_on-clause-step : goal.returns-else-goes_on-clause-step
returns-else-goes_on-clause-step c = c.in_ok-goes_on.ensures.step

pub returns-else-goes_on-clause-stop : goal.returns-else-goes_on-clause-stop
returns-else-goes_on-clause-stop c = c.in_ok-goes_on.ensures.stop

pub returns-else-goes_on-clause-ranges : goal.returns-else-goes_on-clause-ranges
returns-else-goes_on-clause-ranges c = c.in_ok-goes_on.ensures.valid c.args.problem.now c.requires.ranges
