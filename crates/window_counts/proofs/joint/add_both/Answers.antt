use Rattle.std.proofs.Common.{◌≡◌, length, arith, refl, sym, subst, List, ℕ}
use Rattle.std.specs.Prelude.{option_copied}
use Rattle.choice_problem.specs.Counts.{GrowsBy}
use Rattle.window_counts.specs.Counts.{some_uses, both_uses, AreWithin}
use Rattle.window_counts.proofs.JointLemmas.{added_twice, both_fit, one_fits, two_fits, stays_within, back_again}
use Rattle.window_counts.proofs.joint.add_both.Goals as goal

pub returns-then-are_within-clause-exact : goal.returns-then-are_within-clause-exact
returns-then-are_within-clause-exact c =
    let one = option_copied c.args.one in
    let two = option_copied c.args.two in
    let old = c.args.counts.now in
    let mid = c.add_some.new.counts in
    let new = c.add_some-2.new.counts in
    let limits = c.args.limits.now in
    let same : length mid ≡ length old = omega arith in
    let grown : GrowsBy old new (λ r. both_uses one two r) = added_twice old mid new (λ r. some_uses one r) (λ r. some_uses two r) same c.add_some.ensures c.add_some-2.ensures in
    let fits = c.if-are_within.ensures.0 refl in
    (λ t. both_fit c.strip_list.ensures.beyond one two old new limits c.requires.one c.requires.two grown fits.0 fits.1, λ h. refl)

pub returns-then-are_within-clause-added : goal.returns-then-are_within-clause-added
returns-then-are_within-clause-added c =
    let one = option_copied c.args.one in
    let two = option_copied c.args.two in
    let old = c.args.counts.now in
    let mid = c.add_some.new.counts in
    let new = c.add_some-2.new.counts in
    let limits = c.args.limits.now in
    let same : length mid ≡ length old = omega arith in
    let grown : GrowsBy old new (λ r. both_uses one two r) = added_twice old mid new (λ r. some_uses one r) (λ r. some_uses two r) same c.add_some.ensures c.add_some-2.ensures in
    λ t. grown

pub returns-then-are_within-clause-within : goal.returns-then-are_within-clause-within
returns-then-are_within-clause-within c =
    let one = option_copied c.args.one in
    let two = option_copied c.args.two in
    let old = c.args.counts.now in
    let mid = c.add_some.new.counts in
    let new = c.add_some-2.new.counts in
    let limits = c.args.limits.now in
    let same : length mid ≡ length old = omega arith in
    let grown : GrowsBy old new (λ r. both_uses one two r) = added_twice old mid new (λ r. some_uses one r) (λ r. some_uses two r) same c.add_some.ensures c.add_some-2.ensures in
    let fits = c.if-are_within.ensures.0 refl in
    let all : length new ≡ length old = omega arith in
    λ h. stays_within c.strip_list.ensures.beyond one two old new limits c.requires.one c.requires.two grown all
    (both_fit c.strip_list.ensures.beyond one two old new limits c.requires.one c.requires.two grown fits.0 fits.1) h

pub take_some-requires-clause-added : goal.take_some-requires-clause-added
take_some-requires-clause-added c = λ r l. omega (arith, c.add_some-2.ensures r (omega arith))

pub take_some-requires-2-clause-added : goal.take_some-requires-2-clause-added
take_some-requires-2-clause-added c = λ r l.
    omega (arith, c.add_some.ensures r (omega arith), c.add_some-2.ensures r (omega arith), c.take_some.ensures r (omega arith))

pub returns-clause-exact : goal.returns-clause-exact
returns-clause-exact c =
    let one = option_copied c.args.one in
    let two = option_copied c.args.two in
    let old = c.args.counts.now in
    let mid = c.add_some.new.counts in
    let new = c.add_some-2.new.counts in
    let limits = c.args.limits.now in
    let same : length mid ≡ length old = omega arith in
    let grown : GrowsBy old new (λ r. both_uses one two r) = added_twice old mid new (λ r. some_uses one r) (λ r. some_uses two r) same c.add_some.ensures c.add_some-2.ensures in (
      λ t. absurd (cc t),
      λ h. c.if-are_within.ensures.1 (
        one_fits c.strip_list.ensures.beyond one two old new limits c.requires.one c.requires.two grown h,
        two_fits c.strip_list.ensures.beyond one two old new limits c.requires.one c.requires.two grown h,
      ),
    )

pub returns-clause-left : goal.returns-clause-left
returns-clause-left c = λ t.
    back_again c.args.counts.now c.add_some.new.counts c.add_some-2.new.counts c.take_some.new.counts c.take_some-2.new.counts
    (λ r. some_uses (option_copied c.args.one) r) (λ r. some_uses (option_copied c.args.two) r)
    (omega arith) (omega arith) (omega arith) (omega arith)
    c.add_some.ensures c.add_some-2.ensures c.take_some.ensures c.take_some-2.ensures

pub returns-clause-within : goal.returns-clause-within
returns-clause-within c = λ all.
    let back : c.take_some-2.new.counts ≡ c.args.counts.now =
    back_again c.args.counts.now c.add_some.new.counts c.add_some-2.new.counts c.take_some.new.counts c.take_some-2.new.counts
    (λ r. some_uses (option_copied c.args.one) r) (λ r. some_uses (option_copied c.args.two) r)
    (omega arith) (omega arith) (omega arith) (omega arith)
    c.add_some.ensures c.add_some-2.ensures c.take_some.ensures c.take_some-2.ensures in
    subst (λ (xs : List ℕ). AreWithin xs c.args.limits.now) (sym back) all
