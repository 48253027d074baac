use Rattle.std.proofs.Common.{◌≡◌, ◌∙◌, sym, subst, List, ℕ, None, get_or}
use Rattle.std.specs.Prelude.{Option, IfSome}
use Rattle.std.proofs.lemmas.List.{get_or_read}
use Rattle.cert_checker.specs.declared.kept_loads.KeptLoad.{KeptLoad}
use Rattle.kept_bounds.specs.Changes.{AgreeBut, HasSeen}
use Rattle.cert_checker.specs.KeptLoads.{IsKeptLoad}
use Rattle.cert_checker.proofs.KeptLoadLemmas.{place-now}
use Rattle.cert_checker.proofs.loads.load_kept.Goals as goal

pub renewed-requires-clause-old : goal.renewed-requires-clause-old
renewed-requires-clause-old c =
    let p = c.args.problem.now in
    let ranges = c.args.ranges.now in
    let changes = c.args.changes.now in
    let l = c.args.loads.now in
    let slot : c.take-old.result ≡ get_or l.kept.items c.args.place None =
    c.take-old.ensures.value ∙ get_or_read l.kept.items c.args.place c.index_mut.result.now c.requires.place c.index_mut.ensures.value None in
    let now = place-now p ranges l.whole changes l.changed.units (get_or l.kept.items c.args.place None) c.requires.loads.others (c.requires.loads.kept c.args.place) in
    subst (λ (m : List ℕ). IfSome c.take-old.result (λ (k : KeptLoad). IsKeptLoad p k × HasSeen k.ranges ranges changes k.seen × AgreeBut m k.ranges ranges)) (sym c.units-marked.ensures.value)
    (subst (λ (o : Option KeptLoad). IfSome o (λ (k : KeptLoad). IsKeptLoad p k × HasSeen k.ranges ranges changes k.seen × AgreeBut l.changed.units k.ranges ranges)) (sym slot) now)
