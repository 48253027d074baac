use Rattle.std.proofs.Common.{◌≡◌, List, ap, subst, inl, inr, rules}
use Rattle.std.specs.Prelude.{Option, IfOk, IfErr, IfSome, IsErrAnd}
use Rattle.desk_disk.specs.Stops.{DiskPassage, synced, AtEachMoment}
use Rattle.desk_disk.specs.Disks.{ToldDisk}
use Rattle.amend_journal.specs.Standing.{StandsFor, HasFault}
use Rattle.amend_journal.specs.Durable.{told_start}
use Rattle.amend_journal.specs.declared.fault.OpenFault.{OpenFault}
use Rattle.amend_journal.specs.declared.fault.OpenFault.TheVariants.{DiskFault}
use Rattle.amend_journal.proofs.MomentLemmas.{later_join}
use Rattle.amend_journal.proofs.OpenLemmas.{synced_leaves, synced_found, synced_fault, synced_durable, failed_no_worse, synced_no_worse, later_call, disk_fault_told}
use Rattle.amend_journal.proofs.open.open_file.Goals as goal

pub returns-in_err-sync-clause-moments : goal.returns-in_err-sync-clause-moments
returns-in_err-sync-clause-moments g c s file asks reads agrees stands = inl c.in_err-sync.ensures.log

pub returns-clause-found : goal.returns-clause-found
returns-clause-found g c =
    synced_found c.open_synced.result (λ v. v.items) c.args.season.now
    (g.K.Disk.view c.args.disk.now).log (g.K.Disk.view c.sync.new.self).log (g.K.Disk.view c.open_synced.new.disk).log
    c.joined_calls.ensures.read c.in_ok-sync.ensures.log c.open_synced.ensures.found

pub returns-clause-refused : goal.returns-clause-refused
returns-clause-refused g c =
    synced_fault c.open_synced.result c.args.season.now
    (g.K.Disk.view c.args.disk.now).log (g.K.Disk.view c.sync.new.self).log (g.K.Disk.view c.open_synced.new.disk).log
    c.joined_calls.ensures.read c.in_ok-sync.ensures.log c.open_synced.ensures.refused

pub returns-clause-durable : goal.returns-clause-durable
returns-clause-durable g c =
    synced_durable c.open_synced.result (λ v. v.items) c.args.season.now
    (g.K.Disk.view c.args.disk.now).log (g.K.Disk.view c.sync.new.self).log (g.K.Disk.view c.open_synced.new.disk).log
    c.joined_calls.ensures.left c.in_ok-sync.ensures.log c.open_synced.ensures.durable

pub returns-clause-moments : goal.returns-clause-moments
returns-clause-moments g c s file asks reads agrees stands =
    let old = (g.K.Disk.view c.args.disk.now).log in
    let mid = (g.K.Disk.view c.sync.new.self).log in
    let now = (g.K.Disk.view c.open_synced.new.disk).log in
    inr (subst (λ (l : List DiskPassage). AtEachMoment s l now (StandsFor c.args.season.now asks)) c.in_ok-sync.ensures.log
    (c.open_synced.ensures.moments s file asks (synced_leaves s file old mid c.joined_calls.ensures.left c.in_ok-sync.ensures.log reads) agrees stands))

pub returns-in_err-sync-clause-unharmed : goal.returns-in_err-sync-clause-unharmed
returns-in_err-sync-clause-unharmed g c s file reads agrees =
    failed_no_worse c.args.season.now s file (g.K.Disk.view c.args.disk.now).log (g.K.Disk.view c.sync.new.self).log c.in_err-sync.ensures.log

pub returns-clause-unharmed : goal.returns-clause-unharmed
returns-clause-unharmed g c s file reads agrees =
    let old = (g.K.Disk.view c.args.disk.now).log in
    let mid = (g.K.Disk.view c.sync.new.self).log in
    synced_no_worse c.args.season.now s file old mid (g.K.Disk.view c.open_synced.new.disk).log c.joined_calls.ensures.left c.joined_calls.ensures.read_back c.joined_calls.ensures.left_back
    (c.joined_calls.ensures.among s old) c.in_ok-sync.ensures.log
    (c.open_synced.ensures.unharmed s file (synced_leaves s file old mid c.joined_calls.ensures.left c.in_ok-sync.ensures.log reads) agrees)

pub returns-clause-later : goal.returns-clause-later
returns-clause-later g c =
    let first = later_call (g.K.Disk.view c.args.disk.now) (g.K.Disk.view c.sync.new.self) synced c.joined_calls.ensures.read c.in_ok-sync.ensures.log (ap told_start c.in_ok-sync.ensures.told) c.in_ok-sync.ensures.truly in
    later_join _ _ _ first c.open_synced.ensures.later

pub returns-in_err-sync-clause-told_refused : goal.returns-in_err-sync-clause-told_refused
returns-in_err-sync-clause-told_refused g c =
    let err : IsErrAnd c.from_residual.result (λ (f : OpenFault). f ≡ DiskFault) = search rules in
    disk_fault_told c.from_residual.result c.args.season.now (g.K.Disk.view c.args.disk.now).told err

pub returns-clause-told_found : goal.returns-clause-told_found
returns-clause-told_found g c =
    subst (λ (o : Option ToldDisk). IfOk c.open_synced.result (λ asks. IfSome o (λ (t : ToldDisk). StandsFor c.args.season.now asks.items t.bytes)))
    c.in_ok-sync.ensures.told c.open_synced.ensures.told_found

pub returns-clause-told_refused : goal.returns-clause-told_refused
returns-clause-told_refused g c =
    subst (λ (o : Option ToldDisk). IfErr c.open_synced.result (λ fault. IfSome o (λ (t : ToldDisk). HasFault c.args.season.now fault t.bytes)))
    c.in_ok-sync.ensures.told c.open_synced.ensures.told_refused
