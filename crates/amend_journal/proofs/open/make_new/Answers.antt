use Rattle.std.proofs.Common.{◌≡◌, List, [], ◌∷◌, length, subst, ap, ◌∙◌, length-append, arith}
use Rattle.desk_disk.specs.Stops.{DiskPassage, cut_to, wrote_at, synced, MayLeave}
use Rattle.amend_journal.specs.Format.{header}
use Rattle.amend_journal.proofs.FormatLemmas.{length-header}
use Rattle.amend_journal.proofs.MomentLemmas.{one_more}
use Rattle.amend_journal.proofs.OpenLemmas.{empty_is_journal, written_is}
use Rattle.amend_journal.proofs.open.make_new.Goals as goal

pub returns-clause-empty : goal.returns-clause-empty
returns-clause-empty g c s f left season =
    let log = (g.K.Disk.view c.args.disk.now).log in
    let bytes = c.empty_journal-empty.result in
    let long : length bytes ≡ 17 = omega (arith, ap length c.empty_journal-empty.ensures, length-append header (0 ∷ []), length-header) in
    let w = wrote_at 0 bytes in
    let e2 = one_more log (cut_to 0 ∷ []) _ _ w c.in_ok-cut.ensures.log c.in_ok-write_at.ensures.log in
    let e3 = one_more log (cut_to 0 ∷ w ∷ []) _ _ synced e2 c.in_ok-sync.ensures.log in
    empty_is_journal season f
    (written_is s log bytes long f (c.joined_calls.ensures.left s log (cut_to 0 ∷ w ∷ synced ∷ []) f (subst (λ (l : List DiskPassage). MayLeave s l f) e3 left))
    ∙ c.empty_journal-empty.ensures)
