use Rattle.std.proofs.Common.{◌++◌, ◌∙◌, sym, ap, List, ℕ}
use Rattle.std.proofs.lemmas.List.{append-nil}
use Rattle.season_report.specs.Private.{found_row}
use Rattle.season_report.proofs.rows.put_last.Goals as goal

pub returns-in_ok-put_row-in-Some : goal.returns-in_ok-put_row-in-Some
returns-in_ok-put_row-in-Some c =
    rw c.in-Some.is (c.in_ok-put_row-in-Some.ensures
    ∙ ap (λ (t : List ℕ). c.args.out.now.items ++ t) (sym (append-nil (found_row c.args.tried c.args.others.now c.args.line.now c.in-Some.row))))

pub returns-in-None : goal.returns-in-None
returns-in-None c = rw c.in-None.is (sym (append-nil c.args.out.now.items))
