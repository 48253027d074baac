use Rattle.std.proofs.Common.{[]}
use Rattle.cert_checker.proofs.UniqueLemmas.{AlikeLaws, stages-one, stage-same}
use Rattle.cert_checker.proofs.laws.one_failing_line.Goals as goal

pub returns : goal.returns
returns c s cert line other reason why one two =
    let law = c.alike_problems.ensures in
    let fix = c.alike_fixings.ensures in
    let laws : AlikeLaws = record {
      cost = λ p q x alike. law.cost p q x alike;
      whole = λ p q alike. law.whole p q alike;
      node = λ p q vectors cost ranges node alike holds. law.node p q vectors cost ranges node alike holds;
      tree = λ p q vectors fixing alike. fix.tree p q vectors fixing alike;
      holds = λ p q vectors cost f alike h. fix.holds p q vectors cost f alike h;
    } in
    stages-one (stage-same laws) s.declaration s.units [] 2 cert.stages line other reason why one two
