use Rattle.std.proofs.Common.{◌<◌, length, arith}
use Rattle.std.specs.Prelude.{slice_index}
use Rattle.branch_tree.proofs.kept.move_loads.Goals as goal

pub take_runs-requires-clause-held : goal.take_runs-requires-clause-held
take_runs-requires-clause-held c = rw c.deref.ensures.value (λ i l.
    let there : i < length c.args.listed.now = omega arith in
    omega (arith, c.in_ok-from.ensures.uses i there, c.requires.held i there))

pub add_runs-requires-clause-room : goal.add_runs-requires-clause-room
add_runs-requires-clause-room c =
    let taken = rw c.deref.ensures.value at c.take_runs.ensures in
    rw c.deref-2.ensures.value (λ i l.
    let there : i < length c.args.listed.now = omega arith in
    omega (
      arith,
      taken i l,
      c.requires.few i (omega arith),
      c.in_ok-to.ensures.uses i there,
      c.in_ok-to.ensures.few (slice_index c.args.listed.now i),
    ))

pub returns-clause-moved : goal.returns-clause-moved
returns-clause-moved c =
    let taken = rw c.deref.ensures.value at c.take_runs.ensures in
    let added = rw c.deref-2.ensures.value at c.add_runs.ensures in
    λ i l. omega (arith, taken i (omega arith), added i (omega arith), c.in_ok-from.ensures.uses i l, c.in_ok-to.ensures.uses i l)
