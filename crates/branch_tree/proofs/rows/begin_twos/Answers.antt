use Rattle.std.proofs.Common.{ℕ, arith, refl}
use Rattle.std.specs.Prelude.{slice_index}
use Rattle.branch_tree.proofs.RowLemmas.{least-alike}
use Rattle.branch_tree.proofs.rows.begin_twos.Goals as goal

pub returns-then-end_alike-clause-twos : goal.returns-then-end_alike-clause-twos
returns-then-end_alike-clause-twos c =
    let alike = λ (i : ℕ). least-alike c.args.problem.now c.args.unit c.args.was.first c.args.was.last c.args.row.last (slice_index c.args.listed.now i) c.requires.was
    (omega (arith, c.if-known-row.true)) (c.if-end_alike.ensures refl) in
    record {
      most = λ i l. omega (arith, c.requires.twos.most i l, alike i);
      enough = λ i l. omega (arith, c.requires.twos.enough i l, alike i);
    }
