use Rattle.cert_format.specs.Proofs.{floor_pairs, problem_of_tree}
use Rattle.cert_checker.proofs.AlikeLemmas.{proof-alike}
use Rattle.cert_checker.proofs.laws.alike_proofs.Goals as goal

pub returns : goal.returns
returns c p q cert alike =
    let law = c.alike_problems.ensures in
    let fix = c.alike_fixings.ensures in
    let tree = fix.tree p q cert.vectors cert.fixing alike in
    proof-alike p q cert (law.whole (problem_of_tree p cert) (problem_of_tree q cert) tree) (λ x. law.cost p q x alike) (λ x. law.feasible p q x alike) (λ prices. law.vector p q prices alike)
    (λ pending nodes. law.sound (problem_of_tree p cert) (problem_of_tree q cert) cert.vectors cert.cost pending nodes tree) (λ bound. law.floors p q cert.vectors bound cert.tree (floor_pairs cert.floors) alike)
    (λ f. fix.holds p q cert.vectors cert.cost f alike)
