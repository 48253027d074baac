use Rattle.std.proofs.Common.{◌≡◌, ℕ, ◌+◌, List, [], ◌∷◌, ◌++◌, subst, ap, ◌∙◌, inr}
use Rattle.desk_disk.specs.Stops.{DiskPassage, wrote_at, write_failed_at, synced, sync_failed, MayLeave}
use Rattle.amend_journal.proofs.MomentLemmas.{one_more}
use Rattle.amend_journal.proofs.PutLemmas.{before, in_body, after_body, in_gate, after_gate}
use Rattle.amend_journal.proofs.put.AnySlotDisk.put_slot.Goals as goal

-- the first write, with the bytes as the clause has them
wrote_pair : (log now : List DiskPassage) (at : ℕ) (slot pair : List ℕ) → now ≡ log ++ wrote_at at slot ∷ [] → slot ≡ pair ++ 0 ∷ [] → now ≡ log ++ wrote_at at (pair ++ 0 ∷ []) ∷ []
wrote_pair log now at slot pair is same = is ∙ ap (λ (b : List ℕ). log ++ wrote_at at b ∷ []) same

pub returns-in_err-write_at-clause-moments : goal.returns-in_err-write_at-clause-moments
returns-in_err-write_at-clause-moments g c s block pair here slot closed =
    let at = c.args.gate in
    let log = (g.K.Disk.view c.args.self.now).log in
    let among = c.joined_calls.ensures.among s log in (
      write_failed_at (at + 1) (pair ++ 0 ∷ []) ∷ [],
      c.in_err-write_at.ensures.log ∙ ap (λ (b : List ℕ). log ++ write_failed_at (at + 1) b ∷ []) slot,
      (before block pair at here s log closed among, in_body block pair at here s log closed among),
    )

pub returns-in_err-sync-clause-moments : goal.returns-in_err-sync-clause-moments
returns-in_err-sync-clause-moments g c s block pair here slot closed =
    let at = c.args.gate in
    let log = (g.K.Disk.view c.args.self.now).log in
    let among = c.joined_calls.ensures.among s log in
    let w = wrote_at (at + 1) (pair ++ 0 ∷ []) in
    let e1 = wrote_pair log _ (at + 1) _ pair c.in_ok-write_at.ensures.log slot in (
      w ∷ sync_failed ∷ [],
      one_more log (w ∷ []) _ _ sync_failed e1 c.in_err-sync.ensures.log,
      (before block pair at here s log closed among, (in_body block pair at here s log closed among, in_body block pair at here s log closed among)),
    )

pub returns-in_err-write_at-2-clause-moments : goal.returns-in_err-write_at-2-clause-moments
returns-in_err-write_at-2-clause-moments g c s block pair here slot closed =
    let at = c.args.gate in
    let log = (g.K.Disk.view c.args.self.now).log in
    let among = c.joined_calls.ensures.among s log in
    let w = wrote_at (at + 1) (pair ++ 0 ∷ []) in
    let e1 = wrote_pair log _ (at + 1) _ pair c.in_ok-write_at.ensures.log slot in
    let e2 = one_more log (w ∷ []) _ _ synced e1 c.in_ok-sync.ensures.log in (
      w ∷ synced ∷ write_failed_at at (1 ∷ []) ∷ [],
      one_more log (w ∷ synced ∷ []) _ _ (write_failed_at at (1 ∷ [])) e2 c.in_err-write_at-2.ensures.log,
      (before block pair at here s log closed among, (in_body block pair at here s log closed among, (after_body block pair at here s log closed among, in_gate block pair at here s log closed among))),
    )

pub returns-in_err-sync-2-clause-moments : goal.returns-in_err-sync-2-clause-moments
returns-in_err-sync-2-clause-moments g c s block pair here slot closed =
    let at = c.args.gate in
    let log = (g.K.Disk.view c.args.self.now).log in
    let among = c.joined_calls.ensures.among s log in
    let w = wrote_at (at + 1) (pair ++ 0 ∷ []) in
    let v = wrote_at at (1 ∷ []) in
    let e1 = wrote_pair log _ (at + 1) _ pair c.in_ok-write_at.ensures.log slot in
    let e2 = one_more log (w ∷ []) _ _ synced e1 c.in_ok-sync.ensures.log in
    let e3 = one_more log (w ∷ synced ∷ []) _ _ v e2 c.in_ok-write_at-2.ensures.log in (
      w ∷ synced ∷ v ∷ sync_failed ∷ [],
      one_more log (w ∷ synced ∷ v ∷ []) _ _ sync_failed e3 c.in_err-sync-2.ensures.log,
      (before block pair at here s log closed among, (in_body block pair at here s log closed among, (after_body block pair at here s log closed among, (in_gate block pair at here s log closed among, in_gate block pair at here s log closed among)))),
    )

pub returns-clause-moments : goal.returns-clause-moments
returns-clause-moments g c s block pair here slot closed =
    let at = c.args.gate in
    let log = (g.K.Disk.view c.args.self.now).log in
    let among = c.joined_calls.ensures.among s log in
    let w = wrote_at (at + 1) (pair ++ 0 ∷ []) in
    let v = wrote_at at (1 ∷ []) in
    let e1 = wrote_pair log _ (at + 1) _ pair c.in_ok-write_at.ensures.log slot in
    let e2 = one_more log (w ∷ []) _ _ synced e1 c.in_ok-sync.ensures.log in
    let e3 = one_more log (w ∷ synced ∷ []) _ _ v e2 c.in_ok-write_at-2.ensures.log in
    let e4 = one_more log (w ∷ synced ∷ v ∷ []) _ _ synced e3 c.in_ok-sync-2.ensures.log in (
      w ∷ synced ∷ v ∷ synced ∷ [],
      e4,
      (before block pair at here s log closed among, (in_body block pair at here s log closed among, (after_body block pair at here s log closed among, (in_gate block pair at here s log closed among, λ f h. inr (after_gate block pair at here s log closed among f h))))),
    )

pub returns-clause-kept : goal.returns-clause-kept
returns-clause-kept g c s block pair here slot closed f left =
    let at = c.args.gate in
    let log = (g.K.Disk.view c.args.self.now).log in
    let among = c.joined_calls.ensures.among s log in
    let w = wrote_at (at + 1) (pair ++ 0 ∷ []) in
    let v = wrote_at at (1 ∷ []) in
    let e1 = wrote_pair log _ (at + 1) _ pair c.in_ok-write_at.ensures.log slot in
    let e2 = one_more log (w ∷ []) _ _ synced e1 c.in_ok-sync.ensures.log in
    let e3 = one_more log (w ∷ synced ∷ []) _ _ v e2 c.in_ok-write_at-2.ensures.log in
    let e4 = one_more log (w ∷ synced ∷ v ∷ []) _ _ synced e3 c.in_ok-sync-2.ensures.log in
    after_gate block pair at here s log closed among f
    (c.joined_calls.ensures.left s log (w ∷ synced ∷ v ∷ synced ∷ []) f (subst (λ (l : List DiskPassage). MayLeave s l f) e4 left))
