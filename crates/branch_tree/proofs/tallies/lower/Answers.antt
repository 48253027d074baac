use Rattle.std.proofs.Common.{◌≡◌, ◌<◌, length, arith}
use Rattle.std.proofs.lemmas.Grind.{same_number_lists}
use Rattle.branch_tree.specs.Lists.{times_in}
use Rattle.branch_tree.proofs.tallies.lower.Goals as goal

pub add_runs-requires-clause-room : goal.add_runs-requires-clause-room
add_runs-requires-clause-room c = λ i l. omega (arith, c.requires.zeros i l, c.requires.few i l)

pub add_list-requires-clause-within : goal.add_list-requires-clause-within
add_list-requires-clause-within c = λ i h. omega (arith, c.requires.other_within i h)

pub add_list-requires-clause-room : goal.add_list-requires-clause-room
add_list-requires-clause-room c = λ i l.
    let there : i < length c.args.zeros.now = omega arith in
    omega (arith, c.add_runs.ensures i there, c.requires.zeros i there, c.requires.few i there)

pub keep-requires : goal.keep-requires
keep-requires c = λ i h. omega (arith, c.requires.within i h)

pub add_list-requires-2-clause-within : goal.add_list-requires-2-clause-within
add_list-requires-2-clause-within c =
    rw c.deref.ensures.value (λ i h. let some : 0 < times_in c.args.list.now.items i = omega (arith, c.keep.ensures.kept i) in omega (arith, c.requires.within i some))

pub returns-clause-lowered : goal.returns-clause-lowered
returns-clause-lowered c = λ i l.
    omega (arith, c.keep.ensures.kept i, c.add_runs.ensures i l, c.add_list.ensures i (omega arith), c.requires.zeros i l)

pub returns-clause-within : goal.returns-clause-within
returns-clause-within c = λ i h.
    let some : 0 < times_in c.args.list.now.items i = omega (arith, c.keep.ensures.kept i) in
    c.requires.within i some

pub returns-clause-same : goal.returns-clause-same
returns-clause-same c =
    let alike : length c.take_runs.new.counts ≡ length c.args.zeros.now = omega arith in
    same_number_lists c.take_runs.new.counts c.args.zeros.now alike (λ i l.
    let one = c.add_runs.ensures i (omega arith) in
    let two = c.add_list.ensures i (omega arith) in
    let three = c.keep.ensures.taken i (omega arith) in
    let four = rw c.deref.ensures.value at (c.add_list-2.ensures i (omega arith)) in
    let five = c.take_list.ensures i (omega arith) in
    let six = c.take_runs.ensures i (omega arith) in
    omega (arith, one, two, three, four, five, six))

pub take_list-requires-clause-within : goal.take_list-requires-clause-within
take_list-requires-clause-within c = λ i h. omega (arith, c.requires.other_within i h)

pub take_list-requires-clause-held : goal.take_list-requires-clause-held
take_list-requires-clause-held c = λ i l.
    let two = c.add_list.ensures i (omega arith) in
    let three = c.keep.ensures.taken i (omega arith) in
    let four = rw c.deref.ensures.value at (c.add_list-2.ensures i (omega arith)) in
    omega (arith, two, three, four)

pub take_runs-requires-clause-held : goal.take_runs-requires-clause-held
take_runs-requires-clause-held c = λ i l.
    let one = c.add_runs.ensures i (omega arith) in
    let two = c.add_list.ensures i (omega arith) in
    let three = c.keep.ensures.taken i (omega arith) in
    let four = rw c.deref.ensures.value at (c.add_list-2.ensures i (omega arith)) in
    let five = c.take_list.ensures i (omega arith) in
    omega (arith, one, two, three, four, five)
