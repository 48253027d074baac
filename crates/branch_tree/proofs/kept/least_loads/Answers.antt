use Rattle.std.proofs.Common.{◌≡◌, List, ℕ, length, ap, arith}
use Rattle.branch_tree.proofs.WalkLemmas.{written-back}
use Rattle.branch_tree.proofs.kept.least_loads.Goals as goal

pub returns-clause-count : goal.returns-clause-count
returns-clause-count c =
    let long : length c.count_least.new.least ≡ c.in_ok-least.least.len = omega (arith, ap (λ (xs : List ℕ). length xs) c.deref_mut.ensures.value) in
    let counted : length c.count_least.new.least ≡ length c.args.listed.now =
    omega (arith, ap (λ (xs : List ℕ). length xs) c.deref_mut.ensures.value, c.in_ok-least.ensures.len) in
    rw (written-back c.count_least.new.least c.in_ok-least.least.items c.in_ok-least.least.len long) counted

pub returns-clause-least : goal.returns-clause-least
returns-clause-least c =
    let long : length c.count_least.new.least ≡ c.in_ok-least.least.len = omega (arith, ap (λ (xs : List ℕ). length xs) c.deref_mut.ensures.value) in
    rw (written-back c.count_least.new.least c.in_ok-least.least.items c.in_ok-least.least.len long) c.in_ok-lists.ensures.least

pub returns-clause-zeros_count : goal.returns-clause-zeros_count
returns-clause-zeros_count c =
    let long : length c.count_least.new.zeros ≡ c.in_ok-zeros.zeros.len = omega (arith, ap (λ (xs : List ℕ). length xs) c.deref_mut-2.ensures.value) in
    rw (written-back c.count_least.new.zeros c.in_ok-zeros.zeros.items c.in_ok-zeros.zeros.len long) c.in_ok-lists.ensures.zeros_count

pub returns-clause-zeros : goal.returns-clause-zeros
returns-clause-zeros c =
    let long : length c.count_least.new.zeros ≡ c.in_ok-zeros.zeros.len = omega (arith, ap (λ (xs : List ℕ). length xs) c.deref_mut-2.ensures.value) in
    rw (written-back c.count_least.new.zeros c.in_ok-zeros.zeros.items c.in_ok-zeros.zeros.len long) c.in_ok-lists.ensures.zeros
