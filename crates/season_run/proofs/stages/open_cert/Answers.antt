use Rattle.std.proofs.Common.{refl, sym, ◌∙◌, ap, subst, List, Option, None, ℕ}
use Rattle.std.specs.List.{AllZip}
use Rattle.std.specs.Option.{option_map}
use Rattle.choice_problem.specs.Choices.{choice_cost}
use Rattle.price_table.specs.Tables.{vectors_of}
use Rattle.cert_format.specs.declared.cert.Floor.{Floor}
use Rattle.season_run.specs.Ends.{IsLeastOf, AreKeptOf, undone_ranges, floor_costs}
use Rattle.season_run.specs.Steps.{IsFoundFloor}
use Rattle.season_run.proofs.StageLemmas.{open-proof, open-stated, open-walks, open-found, open-kept}
use Rattle.season_run.proofs.stages.open_cert.Goals as goal

pub stated_floors-requires-clause-tree : goal.stated_floors-requires-clause-tree
stated_floors-requires-clause-tree c =
    let p = c.args.problem.now in
    open-walks p c.args.vectors (option_map (choice_cost p) c.args.best) c.args.best c.args.tree c.items-2.result.now c.requires c.items-2.ensures

pub returns-clause-made : goal.returns-clause-made
returns-clause-made c =
    let p = c.args.problem.now in
    let cost = option_map (choice_cost p) c.args.best in
    let tabled = ap vectors_of c.deref.ensures.value ∙ c.in_ok-tables.ensures.vectors ∙ c.items.ensures in
    let found = open-found p c.args.vectors (vectors_of c.deref.result.now) cost c.cost_if_any-cost.result c.args.best c.args.tree c.items-2.result.now c.in_ok-stated.stated c.requires c.items-2.ensures tabled
    c.cost_if_any-cost.ensures c.in_ok-stated.ensures in
    record {
      mark_is = refl;
      choice_is = refl;
      cost_is = c.cost_if_any-cost.ensures;
      fixing_is = refl;
      tree_is = refl;
      kept = open-kept p c.args.vectors c.first_vectors-vectors.result cost c.args.best c.args.tree c.items-3.result.now c.in_ok-stated.stated.floors.items c.deref-2.result.now c.new.result c.greatest_name-number.result
          c.requires c.items-3.ensures c.deref-2.ensures.value c.new.ensures found.0 c.greatest_name-number.ensures c.first_vectors-vectors.ensures;
    }

pub returns-clause-stated : goal.returns-clause-stated
returns-clause-stated c =
    let p = c.args.problem.now in
    let cost = option_map (choice_cost p) c.args.best in
    let tabled = ap vectors_of c.deref.ensures.value ∙ c.in_ok-tables.ensures.vectors ∙ c.items.ensures in
    let found = open-found p c.args.vectors (vectors_of c.deref.result.now) cost c.cost_if_any-cost.result c.args.best c.args.tree c.items-2.result.now c.in_ok-stated.stated c.requires c.items-2.ensures tabled
    c.cost_if_any-cost.ensures c.in_ok-stated.ensures in
    let zip = subst (λ (fs : List Floor). AllZip (IsFoundFloor p c.args.vectors) (undone_ranges p c.args.tree) fs) (sym c.new.ensures) found.0 in
    let least = subst (λ (fs : List Floor). IsLeastOf cost (floor_costs p c.args.vectors (undone_ranges p c.args.tree) fs) found.1.0) (sym c.new.ensures) found.1.2 in
    let least_now = subst (λ (o : Option ℕ). IsLeastOf o (floor_costs p c.args.vectors (undone_ranges p c.args.tree) c.new.result) found.1.0) (sym c.cost_if_any-cost.ensures) least in
    open-stated p c.args.vectors c.cost_if_any-cost.result c.in_ok-stated.stated.bound found.1.0 c.args.tree c.new.result zip found.1.1 least_now

pub returns-clause-proof : goal.returns-clause-proof
returns-clause-proof c =
    let p = c.args.problem.now in
    let cost = option_map (choice_cost p) c.args.best in
    let tabled = ap vectors_of c.deref.ensures.value ∙ c.in_ok-tables.ensures.vectors ∙ c.items.ensures in
    let found = open-found p c.args.vectors (vectors_of c.deref.result.now) cost c.cost_if_any-cost.result c.args.best c.args.tree c.items-2.result.now c.in_ok-stated.stated c.requires c.items-2.ensures tabled
    c.cost_if_any-cost.ensures c.in_ok-stated.ensures in
    let zip = subst (λ (fs : List Floor). AllZip (IsFoundFloor p c.args.vectors) (undone_ranges p c.args.tree) fs) (sym c.new.ensures) found.0 in
    let least = subst (λ (fs : List Floor). IsLeastOf cost (floor_costs p c.args.vectors (undone_ranges p c.args.tree) fs) found.1.0) (sym c.new.ensures) found.1.2 in
    let least_now = subst (λ (o : Option ℕ). IsLeastOf o (floor_costs p c.args.vectors (undone_ranges p c.args.tree) c.new.result) found.1.0) (sym c.cost_if_any-cost.ensures) least in
    let kept : AreKeptOf c.args.vectors None c.args.tree c.new.result c.first_vectors-vectors.result =
    open-kept p c.args.vectors c.first_vectors-vectors.result cost c.args.best c.args.tree c.items-3.result.now c.in_ok-stated.stated.floors.items c.deref-2.result.now c.new.result c.greatest_name-number.result
    c.requires c.items-3.ensures c.deref-2.ensures.value c.new.ensures found.0 c.greatest_name-number.ensures c.first_vectors-vectors.ensures in
    open-proof c.fewer_vectors.ensures.sound c.fewer_vectors.ensures.floors c.closed_ranges.ensures.smaller p c.args.best c.args.tree c.args.vectors found.1.0 _ c.requires refl refl c.cost_if_any-cost.ensures refl refl found.1.1
    kept zip least_now
