use Rattle.std.proofs.Common.{◌≡◌, ◌≤◌, ℕ, List, length, refl, sym, ap, subst, inl, arith, ◌∙◌, rules}
use Rattle.std.proofs.lemmas.List.Elements.{All-nil}
use Rattle.std.specs.Prelude.{IsErrAnd}
use Rattle.desk_disk.specs.Stops.{DiskPassage, measured, AtEachMoment}
use Rattle.amend_journal.specs.Format.{IsFit}
use Rattle.amend_journal.specs.Standing.{StandsFor}
use Rattle.amend_journal.specs.Durable.{AreDurable, told_start}
use Rattle.amend_journal.specs.declared.asked.Asked.{Asked as AskedValue}
use Rattle.amend_journal.specs.declared.fault.OpenFault.{OpenFault}
use Rattle.amend_journal.specs.declared.fault.OpenFault.TheVariants.{DiskFault}
use Rattle.amend_journal.proofs.MomentLemmas.{looks_join, no_moment, later_join}
use Rattle.amend_journal.proofs.OpenLemmas.{measured_look, measured_length, new_stands, looked_stands, same_no_worse, new_no_worse, looked_no_worse, found_of, fault_of, durable_of, later_call, disk_fault_told, told_is, told_found_of, told_fault_of}
use Rattle.amend_journal.proofs.ReadLemmas.{measured_sized}
use Rattle.amend_journal.proofs.open.open_synced.Goals as goal

pub read_journal-requires-clause-sized : goal.read_journal-requires-clause-sized
read_journal-requires-clause-sized g c κs within =
    measured_sized (g.K.Disk.view c.args.disk.now).log (g.K.Disk.view c.length.new.self).log c.in_ok-size.size c.joined_calls.ensures.read c.joined_calls.ensures.shown c.in_ok-size.ensures.log

pub returns-in_err-size-clause-moments : goal.returns-in_err-size-clause-moments
returns-in_err-size-clause-moments g c s file asks only agrees stands =
    let old = (g.K.Disk.view c.args.disk.now).log in
    let P = StandsFor c.args.season.now asks in
    subst (λ (l : List DiskPassage). AtEachMoment s old l P) (sym c.in_err-size.ensures.log)
    (no_moment P s old (λ f left. subst (λ (l : List ℕ). StandsFor c.args.season.now asks l) (sym (only f left)) stands))

pub returns-in_err-make_new-clause-moments : goal.returns-in_err-make_new-clause-moments
returns-in_err-make_new-clause-moments g c s file asks only agrees stands =
    let old = (g.K.Disk.view c.args.disk.now).log in
    let mid = (g.K.Disk.view c.length.new.self).log in
    let is = c.in_ok-size.ensures.log in
    let long = measured_length s file old mid c.in_ok-size.size c.joined_calls.ensures.read is (λ f h. only f (c.joined_calls.ensures.among s old f h)) (c.make_new.ensures.agrees s agrees) in
    new_stands c.args.season.now s file old mid (g.K.Disk.view c.make_new.new.disk).log asks c.joined_calls.ensures.left c.joined_calls.ensures.read_back c.joined_calls.ensures.left_back
    (measured_look old mid c.in_ok-size.size is) only (omega (arith, long, c.if-size-le-SHORTEST.true)) stands (c.make_new.ensures.short s)

pub returns-in_ok-make_new-clause-moments : goal.returns-in_ok-make_new-clause-moments
returns-in_ok-make_new-clause-moments g c s file asks only agrees stands =
    let old = (g.K.Disk.view c.args.disk.now).log in
    let mid = (g.K.Disk.view c.length.new.self).log in
    let is = c.in_ok-size.ensures.log in
    let long = measured_length s file old mid c.in_ok-size.size c.joined_calls.ensures.read is (λ f h. only f (c.joined_calls.ensures.among s old f h)) (c.make_new.ensures.agrees s agrees) in
    new_stands c.args.season.now s file old mid (g.K.Disk.view c.make_new.new.disk).log asks c.joined_calls.ensures.left c.joined_calls.ensures.read_back c.joined_calls.ensures.left_back
    (measured_look old mid c.in_ok-size.size is) only (omega (arith, long, c.if-size-le-SHORTEST.true)) stands (c.make_new.ensures.short s)

pub returns-in_ok-make_new-clause-found : goal.returns-in_ok-make_new-clause-found
returns-in_ok-make_new-clause-found g c s file reads agrees =
    let long = measured_length s file (g.K.Disk.view c.args.disk.now).log (g.K.Disk.view c.length.new.self).log c.in_ok-size.size c.joined_calls.ensures.read c.in_ok-size.ensures.log reads (c.make_new.ensures.agrees s agrees) in
    let short : length file ≤ 17 = omega (arith, long, c.if-size-le-SHORTEST.true) in
    subst (λ (l : List AskedValue). StandsFor c.args.season.now l file) (sym c.new.ensures.items) (inl (short, refl))

pub returns-in_ok-make_new-clause-durable : goal.returns-in_ok-make_new-clause-durable
returns-in_ok-make_new-clause-durable g c s file only agrees =
    subst (λ (l : List AskedValue). AreDurable s (g.K.Disk.view c.make_new.new.disk).log c.args.season.now l) (sym c.new.ensures.items)
    (record { fit = All-nil (IsFit c.args.season.now); left = λ f left. c.in_ok-make_new.ensures.empty s f left c.args.season.now })

pub returns-else-size-le-SHORTEST-clause-found : goal.returns-else-size-le-SHORTEST-clause-found
returns-else-size-le-SHORTEST-clause-found g c =
    let old = (g.K.Disk.view c.args.disk.now).log in
    let mid = (g.K.Disk.view c.length.new.self).log in
    let now = (g.K.Disk.view c.read_journal.new.disk).log in
    found_of c.read_journal.result (λ v. v.items) c.args.season.now old now c.joined_calls.ensures.read
    (looks_join old mid now (measured_look old mid c.in_ok-size.size c.in_ok-size.ensures.log) c.read_journal.ensures.looks)
    c.read_journal.ensures.found

pub returns-else-size-le-SHORTEST-clause-refused : goal.returns-else-size-le-SHORTEST-clause-refused
returns-else-size-le-SHORTEST-clause-refused g c =
    let old = (g.K.Disk.view c.args.disk.now).log in
    let mid = (g.K.Disk.view c.length.new.self).log in
    let now = (g.K.Disk.view c.read_journal.new.disk).log in
    fault_of c.read_journal.result c.args.season.now old now c.joined_calls.ensures.read
    (looks_join old mid now (measured_look old mid c.in_ok-size.size c.in_ok-size.ensures.log) c.read_journal.ensures.looks)
    c.read_journal.ensures.refused

pub returns-else-size-le-SHORTEST-clause-durable : goal.returns-else-size-le-SHORTEST-clause-durable
returns-else-size-le-SHORTEST-clause-durable g c =
    let old = (g.K.Disk.view c.args.disk.now).log in
    let mid = (g.K.Disk.view c.length.new.self).log in
    let now = (g.K.Disk.view c.read_journal.new.disk).log in
    durable_of c.read_journal.result (λ v. v.items) c.args.season.now old now c.joined_calls.ensures.read c.joined_calls.ensures.left c.joined_calls.ensures.among
    (looks_join old mid now (measured_look old mid c.in_ok-size.size c.in_ok-size.ensures.log) c.read_journal.ensures.looks)
    c.read_journal.ensures.found

pub returns-else-size-le-SHORTEST-clause-moments : goal.returns-else-size-le-SHORTEST-clause-moments
returns-else-size-le-SHORTEST-clause-moments g c s file asks only agrees stands =
    let old = (g.K.Disk.view c.args.disk.now).log in
    let mid = (g.K.Disk.view c.length.new.self).log in
    let now = (g.K.Disk.view c.read_journal.new.disk).log in
    looked_stands c.args.season.now s file old now asks (looks_join old mid now (measured_look old mid c.in_ok-size.size c.in_ok-size.ensures.log) c.read_journal.ensures.looks) only stands

pub returns-in_err-size-clause-unharmed : goal.returns-in_err-size-clause-unharmed
returns-in_err-size-clause-unharmed g c s file only agrees =
    same_no_worse c.args.season.now s file (g.K.Disk.view c.args.disk.now).log (g.K.Disk.view c.length.new.self).log c.in_err-size.ensures.log

pub returns-in_err-make_new-clause-unharmed : goal.returns-in_err-make_new-clause-unharmed
returns-in_err-make_new-clause-unharmed g c s file only agrees =
    let old = (g.K.Disk.view c.args.disk.now).log in
    let mid = (g.K.Disk.view c.length.new.self).log in
    let is = c.in_ok-size.ensures.log in
    let long = measured_length s file old mid c.in_ok-size.size c.joined_calls.ensures.read is (λ f h. only f (c.joined_calls.ensures.among s old f h)) (c.make_new.ensures.agrees s agrees) in
    new_no_worse c.args.season.now s file old mid (g.K.Disk.view c.make_new.new.disk).log c.joined_calls.ensures.left c.joined_calls.ensures.read_back c.joined_calls.ensures.left_back
    (measured_look old mid c.in_ok-size.size is) only (omega (arith, long, c.if-size-le-SHORTEST.true)) (c.make_new.ensures.short s)

pub returns-in_ok-make_new-clause-unharmed : goal.returns-in_ok-make_new-clause-unharmed
returns-in_ok-make_new-clause-unharmed g c s file only agrees =
    let old = (g.K.Disk.view c.args.disk.now).log in
    let mid = (g.K.Disk.view c.length.new.self).log in
    let is = c.in_ok-size.ensures.log in
    let long = measured_length s file old mid c.in_ok-size.size c.joined_calls.ensures.read is (λ f h. only f (c.joined_calls.ensures.among s old f h)) (c.make_new.ensures.agrees s agrees) in
    new_no_worse c.args.season.now s file old mid (g.K.Disk.view c.make_new.new.disk).log c.joined_calls.ensures.left c.joined_calls.ensures.read_back c.joined_calls.ensures.left_back
    (measured_look old mid c.in_ok-size.size is) only (omega (arith, long, c.if-size-le-SHORTEST.true)) (c.make_new.ensures.short s)

pub returns-else-size-le-SHORTEST-clause-unharmed : goal.returns-else-size-le-SHORTEST-clause-unharmed
returns-else-size-le-SHORTEST-clause-unharmed g c s file only agrees =
    let old = (g.K.Disk.view c.args.disk.now).log in
    let mid = (g.K.Disk.view c.length.new.self).log in
    let now = (g.K.Disk.view c.read_journal.new.disk).log in
    looked_no_worse c.args.season.now s file old now (looks_join old mid now (measured_look old mid c.in_ok-size.size c.in_ok-size.ensures.log) c.read_journal.ensures.looks)

pub returns-in_err-make_new-clause-later : goal.returns-in_err-make_new-clause-later
returns-in_err-make_new-clause-later g c =
    let first = later_call (g.K.Disk.view c.args.disk.now) (g.K.Disk.view c.length.new.self) (measured c.in_ok-size.size) c.joined_calls.ensures.read c.in_ok-size.ensures.log (ap told_start c.in_ok-size.ensures.told) c.in_ok-size.ensures.truly in
    later_join _ _ _ first c.make_new.ensures.later

pub returns-in_ok-make_new-clause-later : goal.returns-in_ok-make_new-clause-later
returns-in_ok-make_new-clause-later g c =
    let first = later_call (g.K.Disk.view c.args.disk.now) (g.K.Disk.view c.length.new.self) (measured c.in_ok-size.size) c.joined_calls.ensures.read c.in_ok-size.ensures.log (ap told_start c.in_ok-size.ensures.told) c.in_ok-size.ensures.truly in
    later_join _ _ _ first c.make_new.ensures.later

pub returns-else-size-le-SHORTEST-clause-later : goal.returns-else-size-le-SHORTEST-clause-later
returns-else-size-le-SHORTEST-clause-later g c =
    let first = later_call (g.K.Disk.view c.args.disk.now) (g.K.Disk.view c.length.new.self) (measured c.in_ok-size.size) c.joined_calls.ensures.read c.in_ok-size.ensures.log (ap told_start c.in_ok-size.ensures.told) c.in_ok-size.ensures.truly in
    later_join _ _ _ first c.read_journal.ensures.later

pub returns-in_err-size-clause-told_refused : goal.returns-in_err-size-clause-told_refused
returns-in_err-size-clause-told_refused g c =
    let err : IsErrAnd c.from_residual.result (λ (f : OpenFault). f ≡ DiskFault) = search rules in
    disk_fault_told c.from_residual.result c.args.season.now (g.K.Disk.view c.args.disk.now).told err

pub returns-in_err-make_new-clause-told_refused : goal.returns-in_err-make_new-clause-told_refused
returns-in_err-make_new-clause-told_refused g c =
    let err : IsErrAnd c.from_residual-in_err-make_new.result (λ (f : OpenFault). f ≡ DiskFault) = search rules in
    disk_fault_told c.from_residual-in_err-make_new.result c.args.season.now (g.K.Disk.view c.args.disk.now).told err

pub returns-in_ok-make_new-clause-told_found : goal.returns-in_ok-make_new-clause-told_found
returns-in_ok-make_new-clause-told_found g c =
    let old = g.K.Disk.view c.args.disk.now in
    let mid = g.K.Disk.view c.length.new.self in
    let sized = measured_sized old.log mid.log c.in_ok-size.size c.joined_calls.ensures.read c.joined_calls.ensures.shown c.in_ok-size.ensures.log in
    told_is (λ (f : List ℕ). StandsFor c.args.season.now c.new.result.items f) old mid c.in_ok-size.ensures.truly c.in_ok-size.ensures.told
    (λ s f h.
    let short : length f ≤ 17 = omega (arith, sized.sized s f h, c.if-size-le-SHORTEST.true) in
    subst (λ (l : List AskedValue). StandsFor c.args.season.now l f) (sym c.new.ensures.items) (inl (short, refl)))

pub returns-else-size-le-SHORTEST-clause-told_found : goal.returns-else-size-le-SHORTEST-clause-told_found
returns-else-size-le-SHORTEST-clause-told_found g c =
    told_found_of c.read_journal.result (λ v. v.items) c.args.season.now (g.K.Disk.view c.args.disk.now) (g.K.Disk.view c.read_journal.new.disk)
    (c.read_journal.ensures.later.truly c.in_ok-size.ensures.truly) (c.read_journal.ensures.told ∙ c.in_ok-size.ensures.told) c.read_journal.ensures.found

pub returns-else-size-le-SHORTEST-clause-told_refused : goal.returns-else-size-le-SHORTEST-clause-told_refused
returns-else-size-le-SHORTEST-clause-told_refused g c =
    told_fault_of c.read_journal.result c.args.season.now (g.K.Disk.view c.args.disk.now) (g.K.Disk.view c.read_journal.new.disk)
    (c.read_journal.ensures.later.truly c.in_ok-size.ensures.truly) (c.read_journal.ensures.told ∙ c.in_ok-size.ensures.told) c.read_journal.ensures.refused
