use Rattle.std.proofs.Common.{◌≡◌, ℕ, [], ◌+◌, ◌<◌, ◌-◌, ◌∙◌, List, length, sym, ap, arith}
use Rattle.std.proofs.lemmas.List.{get_or_read}
use Rattle.std.specs.Prelude.{slice_index, slice_index_or}
use Rattle.choice_problem.specs.Problems.{unit_count}
use Rattle.branch_tree.specs.Walks.{WalkView}
use Rattle.branch_tree.proofs.WalkLemmas.{least-few, least-has, loads-room, loads-have, cost-has, cost-few, IsKept-moved, lists-moved, written-back}
use Rattle.branch_tree.proofs.walks.Walk.narrow.Goals as goal

pub move_least-requires-clause-was_within : goal.move_least-requires-clause-was_within
move_least-requires-clause-was_within c =
    let s = c.self.inside in
    let u = c.args.unit in
    let e : c.args.problem.now ≡ s.problem.now = c.requires.problem ∙ sym (ap (λ (w : WalkView). w.problem) c.self.view_is) in
    let there : u < unit_count s.problem.now = rw e at c.requires.unit in
    let kept = c.self.invariant.lists_are in
    let list : c.index.result.now ≡ slice_index_or s.lists.items u [] = get_or_read s.lists.items u c.index.result.now (omega (arith, there, kept.count)) c.index.ensures [] in
    rw (c.places-was.ensures, list, c.deref_mut-3.ensures.value)
    (λ r h. omega (arith, kept.within u there r h, c.self.invariant.kept.least_count))

pub move_least-requires-clause-now_within : goal.move_least-requires-clause-now_within
move_least-requires-clause-now_within c =
    let e : c.args.problem.now ≡ c.self.inside.problem.now = c.requires.problem ∙ sym (ap (λ (w : WalkView). w.problem) c.self.view_is) in
    rw (c.deref-5.ensures.value, c.deref_mut-3.ensures.value)
    (λ r h. omega (arith, c.in_ok-now.ensures.within r h, c.self.invariant.kept.least_count))

pub move_least-requires-clause-held : goal.move_least-requires-clause-held
move_least-requires-clause-held c =
    let s = c.self.inside in
    let u = c.args.unit in
    let e : c.args.problem.now ≡ s.problem.now = c.requires.problem ∙ sym (ap (λ (w : WalkView). w.problem) c.self.view_is) in
    let there : u < unit_count s.problem.now = rw e at c.requires.unit in
    let kept = c.self.invariant.lists_are in
    let list : c.index.result.now ≡ slice_index_or s.lists.items u [] = get_or_read s.lists.items u c.index.result.now (omega (arith, there, kept.count)) c.index.ensures [] in
    rw (c.places-was.ensures, list, c.deref_mut-3.ensures.value)
    (λ r l.
    let within : r < length s.passable.items = omega (arith, l, c.self.invariant.kept.least_count) in
    omega (
      arith,
      kept.each u r there within,
      least-has s.problem.now s.ranges s.cheapest.items s.cost s.loads.items s.least.items s.zeros.items s.passable.items c.self.invariant.kept u there r within,
    ))

pub move_least-requires-clause-few : goal.move_least-requires-clause-few
move_least-requires-clause-few c =
    let s = c.self.inside in
    rw c.deref_mut-3.ensures.value (least-few s.problem.now s.ranges s.cheapest.items s.cost s.loads.items s.least.items s.zeros.items s.passable.items c.self.invariant.kept)

pub move_least-requires-clause-more : goal.move_least-requires-clause-more
move_least-requires-clause-more c =
    let s = c.self.inside in
    let listed = rw c.deref.ensures.value at c.in_ok-now.ensures.least in
    rw (c.deref-5.ensures.value, c.deref_mut-3.ensures.value)
    (λ r l.
    let there : r < length s.passable.items = omega (arith, l, c.self.invariant.kept.least_count) in
    omega (arith, listed r there, c.in_ok-now.ensures.few (slice_index s.passable.items r)))

pub move_loads-requires-clause-few : goal.move_loads-requires-clause-few
move_loads-requires-clause-few c =
    let s = c.self.inside in
    rw c.deref_mut-2.ensures.value (loads-room s.problem.now s.ranges s.cheapest.items s.cost s.loads.items s.least.items s.zeros.items s.passable.items c.self.invariant.kept)

pub move_loads-requires-clause-held : goal.move_loads-requires-clause-held
move_loads-requires-clause-held c =
    let s = c.self.inside in
    let e : c.args.problem.now ≡ s.problem.now = c.requires.problem ∙ sym (ap (λ (w : WalkView). w.problem) c.self.view_is) in
    let there : c.args.unit < unit_count s.problem.now = rw e at c.requires.unit in
    let within : c.args.unit < length s.cheapest.items = omega (arith, there, c.self.invariant.kept.cheapest.length) in
    let old : c.index-old_alt.result.now ≡ slice_index s.cheapest.items c.args.unit = get_or_read s.cheapest.items c.args.unit c.index-old_alt.result.now within c.index-old_alt.ensures 0 in
    rw (e, old, c.deref-3.ensures.value, c.deref_mut-2.ensures.value) (loads-have s.problem.now s.ranges s.cheapest.items s.cost s.loads.items s.least.items s.zeros.items s.passable.items c.self.invariant.kept c.args.unit there)

pub overflow_sub-self : goal.overflow_sub-self
overflow_sub-self c =
    let s = c.self.inside in
    let e : c.args.problem.now ≡ s.problem.now = c.requires.problem ∙ sym (ap (λ (w : WalkView). w.problem) c.self.view_is) in
    let there : c.args.unit < unit_count s.problem.now = rw e at c.requires.unit in
    let within : c.args.unit < length s.cheapest.items = omega (arith, there, c.self.invariant.kept.cheapest.length) in
    let old : c.index-old_alt.result.now ≡ slice_index s.cheapest.items c.args.unit = get_or_read s.cheapest.items c.args.unit c.index-old_alt.result.now within c.index-old_alt.ensures 0 in
    let paid = rw (e, old) at c.alt_cost.ensures.value in
    omega (arith, paid, cost-has s.problem.now s.ranges s.cheapest.items s.cost s.loads.items s.least.items s.zeros.items s.passable.items c.self.invariant.kept c.args.unit there)

pub overflow_add-self : goal.overflow_add-self
overflow_add-self c =
    let s = c.self.inside in
    let e : c.args.problem.now ≡ s.problem.now = c.requires.problem ∙ sym (ap (λ (w : WalkView). w.problem) c.self.view_is) in
    let there : c.args.unit < unit_count s.problem.now = rw e at c.requires.unit in
    let few = cost-few s.problem.now s.ranges s.cheapest.items s.cost s.loads.items s.least.items s.zeros.items s.passable.items c.self.invariant.kept c.args.unit there in
    omega (arith, few, c.alt_cost-2.ensures.small)

pub invariant_of-self-2 : goal.invariant_of-self-2
invariant_of-self-2 c =
    let s = c.self.inside in
    let k = c.self.invariant.kept in
    let u = c.args.unit in
    let a = c.first_cheapest-alt.result in
    let e : c.args.problem.now ≡ s.problem.now = c.requires.problem ∙ sym (ap (λ (w : WalkView). w.problem) c.self.view_is) in
    let there : u < unit_count s.problem.now = rw e at c.requires.unit in
    let within : u < length s.cheapest.items = omega (arith, there, k.cheapest.length) in
    let old : c.index-old_alt.result.now ≡ slice_index s.cheapest.items u = get_or_read s.cheapest.items u c.index-old_alt.result.now within c.index-old_alt.ensures 0 in
    let least_now : c.deref_mut-3.result.now ≡ s.least.items = c.deref_mut-3.ensures.value in
    let least_long : length c.move_least.new.least ≡ s.least.len = omega (arith, ap (λ (xs : List ℕ). length xs) least_now) in
    let least_back = written-back c.move_least.new.least s.least.items s.least.len least_long in
    let zeros_one : c.least_list.new.zeros ≡ s.zeros.items = c.in_ok-now.ensures.same ∙ c.deref_mut.ensures.value in
    let one_long : length c.least_list.new.zeros ≡ s.zeros.len = omega (arith, ap (λ (xs : List ℕ). length xs) zeros_one) in
    let one_back = written-back c.least_list.new.zeros s.zeros.items s.zeros.len one_long in
    let lists = c.self.invariant.lists_are in
    let list : c.index.result.now ≡ slice_index_or s.lists.items u [] = get_or_read s.lists.items u c.index.result.now (omega (arith, there, lists.count)) c.index.ensures [] in
    let listed = rw (e, c.deref.ensures.value) at c.in_ok-now.ensures.least in
    let old_cost = rw (e, old) at c.alt_cost.ensures.value in
    let new_cost = rw e at c.alt_cost-2.ensures.value in
    let has = cost-has s.problem.now s.ranges s.cheapest.items s.cost s.loads.items s.least.items s.zeros.items s.passable.items k u there in
    let loads_now : c.deref_mut-2.result.now ≡ s.loads.items = c.deref_mut-2.ensures.value in
    let loads_long : length c.move_loads.new.loads ≡ s.loads.len = omega (arith, ap (λ (xs : List ℕ). length xs) loads_now) in
    let loads_back = written-back c.move_loads.new.loads s.loads.items s.loads.len loads_long in
    let changed = rw (e, old, c.deref-3.ensures.value, loads_now) at c.in_ok-move_loads.ensures.moved in
    let moved = rw (c.places-was.ensures, list, c.deref-5.ensures.value, least_now) at c.move_least.ensures in
    rw (c.set.ensures.value, loads_back, least_back, one_back, zeros_one) (record {
      listed = c.self.invariant.listed;
      ranked = c.self.invariant.ranked;
      limits_count = c.self.invariant.limits_count;
      limited = c.self.invariant.limited;
      lists_are = rw c.of.ensures
          (lists-moved s.problem.now s.ranges s.cheapest.items s.cost s.loads.items s.least.items s.zeros.items s.passable.items k u there c.args.low c.args.high a
          c.requires.ordered (rw e at c.requires.there) (rw e at c.first_cheapest-alt.ensures.cheapest) s.lists.items c.in_ok-now.now.items lists listed
          (rw c.deref.ensures.value at c.in_ok-now.ensures.within));
      kept =
          IsKept-moved s.problem.now s.ranges s.cheapest.items s.cost s.loads.items s.least.items s.zeros.items s.passable.items k u there c.args.low c.args.high a c.requires.ordered
          (rw e at c.requires.there) (rw e at c.first_cheapest-alt.ensures.cheapest)
          (rw c.set.ensures.value at (c.set.ensures.valid s.problem.now k.valid c.requires.ordered (rw e at c.requires.there)))
          (s.cost - c.alt_cost.result + c.alt_cost-2.result) c.move_loads.new.loads c.move_least.new.least (slice_index_or s.lists.items u []) c.in_ok-now.now.items
          (omega (arith, old_cost, new_cost, has)) (omega (arith, loads_long)) (omega (arith, least_long))
          changed moved (λ i m. lists.each u i there m) listed;
    })

pub least_list-requires-clause-ranks : goal.least_list-requires-clause-ranks
least_list-requires-clause-ranks c =
    let e : c.args.problem.now ≡ c.self.inside.problem.now = c.requires.problem ∙ sym (ap (λ (w : WalkView). w.problem) c.self.view_is) in
    rw (e, c.deref.ensures.value, c.deref-2.ensures.value) c.self.invariant.ranked

pub least_list-requires-clause-count : goal.least_list-requires-clause-count
least_list-requires-clause-count c = rw (c.deref_mut.ensures.value, c.deref.ensures.value) c.self.invariant.kept.zeros_count

pub least_list-requires-clause-zeros : goal.least_list-requires-clause-zeros
least_list-requires-clause-zeros c = rw c.deref_mut.ensures.value c.self.invariant.kept.zeros_are

pub invariant_of-self : goal.invariant_of-self
invariant_of-self c =
    let s = c.self.inside in
    let zeros_one : c.least_list.new.zeros ≡ s.zeros.items = c.in_err-now.ensures.same ∙ c.deref_mut.ensures.value in
    let one_long : length c.least_list.new.zeros ≡ s.zeros.len = omega (arith, ap (λ (xs : List ℕ). length xs) zeros_one) in
    rw (written-back c.least_list.new.zeros s.zeros.items s.zeros.len one_long, zeros_one) c.self.invariant

pub move_loads-requires-clause-ranks : goal.move_loads-requires-clause-ranks
move_loads-requires-clause-ranks c =
    let e : c.args.problem.now ≡ c.self.inside.problem.now = c.requires.problem ∙ sym (ap (λ (w : WalkView). w.problem) c.self.view_is) in
    rw (e, c.deref-3.ensures.value, c.deref-4.ensures.value) c.self.invariant.ranked

pub move_loads-requires-clause-count : goal.move_loads-requires-clause-count
move_loads-requires-clause-count c = rw (c.deref_mut-2.ensures.value, c.deref-3.ensures.value) c.self.invariant.kept.loads_count

pub move_loads-requires-clause-was : goal.move_loads-requires-clause-was
move_loads-requires-clause-was c =
    let s = c.self.inside in
    let e : c.args.problem.now ≡ s.problem.now = c.requires.problem ∙ sym (ap (λ (w : WalkView). w.problem) c.self.view_is) in
    let there : c.args.unit < unit_count s.problem.now = rw e at c.requires.unit in
    let within : c.args.unit < length s.cheapest.items = omega (arith, there, c.self.invariant.kept.cheapest.length) in
    let old : c.index-old_alt.result.now ≡ slice_index s.cheapest.items c.args.unit = get_or_read s.cheapest.items c.args.unit c.index-old_alt.result.now within c.index-old_alt.ensures 0 in
    rw (e, old) (c.self.invariant.kept.choice.there c.args.unit there)

pub invariant_of-self-in_err-move_loads : goal.invariant_of-self-in_err-move_loads
invariant_of-self-in_err-move_loads c =
    let s = c.self.inside in
    let zeros_one : c.least_list.new.zeros ≡ s.zeros.items = c.in_ok-now.ensures.same ∙ c.deref_mut.ensures.value in
    let one_long : length c.least_list.new.zeros ≡ s.zeros.len = omega (arith, ap (λ (xs : List ℕ). length xs) zeros_one) in
    let loads_same : c.move_loads.new.loads ≡ s.loads.items = c.in_err-move_loads.ensures.err ∙ c.deref_mut-2.ensures.value in
    let loads_long : length c.move_loads.new.loads ≡ s.loads.len = omega (arith, ap (λ (xs : List ℕ). length xs) loads_same) in
    rw (written-back c.move_loads.new.loads s.loads.items s.loads.len loads_long, loads_same, written-back c.least_list.new.zeros s.zeros.items s.zeros.len one_long, zeros_one)
    c.self.invariant
