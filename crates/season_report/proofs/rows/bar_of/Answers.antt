use Rattle.std.proofs.Common.{arith}
use Rattle.choice_problem.specs.Problems.{alt_uses}
use Rattle.season_report.proofs.FoundLemmas.{has_room, same_again}
use Rattle.season_report.proofs.rows.bar_of.Goals as goal

pub add_alt-requires-clause-room : goal.add_alt-requires-clause-room
add_alt-requires-clause-room c = has_room c.args.tried c.args.others.now c.requires.settled c.requires.within

pub take_alt-requires-clause-added : goal.take_alt-requires-clause-added
take_alt-requires-clause-added c = λ r lt. omega (arith, c.add_alt.ensures.added r (omega (arith, lt, c.add_alt.ensures.length)))

pub returns-clause-reason : goal.returns-clause-reason
returns-clause-reason c = c.barred_by-barred.ensures c.args.others.now c.requires.within c.add_alt.ensures.added

pub returns-clause-others : goal.returns-clause-others
returns-clause-others c =
    same_again c.args.others.now c.add_alt.new.counts c.take_alt.new.counts (λ r. alt_uses c.args.tried.problem.now c.args.place c.args.alt r)
    c.add_alt.ensures.length c.take_alt.ensures.length c.add_alt.ensures.added c.take_alt.ensures.taken
