use Rattle.cert_checker.proofs.AlikeLemmas.{problems-alike}
use Rattle.cert_checker.proofs.UniqueLemmas.{AlikeLaws, allotment-same, first-one, none-not_first}
use Rattle.cert_checker.proofs.laws.same_tests.Goals as goal

pub returns-clause-proof : goal.returns-clause-proof
returns-clause-proof c d units limit p q cert one two proof = c.alike_proofs.ensures p q cert (problems-alike d units limit p q one two) proof

pub returns-clause-fails : goal.returns-clause-fails
returns-clause-fails c d units limit p q cert number line other reason why one two fails also =
    let law = c.alike_problems.ensures in
    let fix = c.alike_fixings.ensures in
    let laws : AlikeLaws = record {
      cost = λ p q x alike. law.cost p q x alike;
      whole = λ p q alike. law.whole p q alike;
      node = λ p q vectors cost ranges node alike holds. law.node p q vectors cost ranges node alike holds;
      tree = λ p q vectors fixing alike. fix.tree p q vectors fixing alike;
      holds = λ p q vectors cost f alike h. fix.holds p q vectors cost f alike h;
    } in
    let there = allotment-same laws d units limit p q one two in
    let back = allotment-same laws d units limit q p two one in
    first-one p q cert number line other reason why there back fails also

pub returns-clause-never : goal.returns-clause-never
returns-clause-never c d units limit p q version cert number line reason one two printable proof fails =
    let law = c.alike_problems.ensures in
    let fix = c.alike_fixings.ensures in
    let laws : AlikeLaws = record {
      cost = λ p q x alike. law.cost p q x alike;
      whole = λ p q alike. law.whole p q alike;
      node = λ p q vectors cost ranges node alike holds. law.node p q vectors cost ranges node alike holds;
      tree = λ p q vectors fixing alike. fix.tree p q vectors fixing alike;
      holds = λ p q vectors cost f alike h. fix.holds p q vectors cost f alike h;
    } in
    let there = allotment-same laws d units limit p q one two in
    none-not_first p q cert number line reason there (c.passing_lines.ensures.passes p version cert printable proof) fails
