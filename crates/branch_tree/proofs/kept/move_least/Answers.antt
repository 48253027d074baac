use Rattle.std.proofs.Common.{◌<◌, length, arith}
use Rattle.branch_tree.proofs.kept.move_least.Goals as goal

pub add_list-requires-clause-within : goal.add_list-requires-clause-within
add_list-requires-clause-within c = λ r h. omega (arith, c.requires.now_within r h)

pub add_list-requires-clause-room : goal.add_list-requires-clause-room
add_list-requires-clause-room c = λ r l.
    let within : r < length c.args.least.now = omega arith in
    omega (arith, c.take_list.ensures r l, c.requires.few r within, c.requires.more r within)
