use Rattle.std.proofs.Common.{refl, sym, ◌∙◌}
use Rattle.season_run.specs.Ends.{AreKeptOf}
use Rattle.season_run.proofs.StageLemmas.{closed-proof, closed-kept}
use Rattle.season_run.proofs.stages.closed_cert.Goals as goal

pub returns-clause-made : goal.returns-clause-made
returns-clause-made c =
    record {
      mark_is = refl;
      choice_is = refl;
      cost_is = refl;
      fixing_is = refl;
      tree_is = refl;
      kept = closed-kept c.args._problem.now c.args.choice c.args.cost c.args.fixing c.args.tree c.items.result.now c.args.vectors c.first_vectors-vectors.result c.new.result c.deref.result.now c.greatest_name-number.result
          c.requires.end c.items.ensures (c.deref.ensures.value ∙ sym c.new.ensures) (c.new.ensures ∙ c.new-floors.ensures.items) c.greatest_name-number.ensures c.first_vectors-vectors.ensures;
    }

pub returns-clause-proof : goal.returns-clause-proof
returns-clause-proof c =
    let kept : AreKeptOf c.args.vectors c.args.fixing c.args.tree c.new.result c.first_vectors-vectors.result =
    closed-kept c.args._problem.now c.args.choice c.args.cost c.args.fixing c.args.tree c.items.result.now c.args.vectors c.first_vectors-vectors.result c.new.result c.deref.result.now c.greatest_name-number.result
    c.requires.end c.items.ensures (c.deref.ensures.value ∙ sym c.new.ensures) (c.new.ensures ∙ c.new-floors.ensures.items) c.greatest_name-number.ensures c.first_vectors-vectors.ensures in
    closed-proof c.fewer_vectors.ensures.sound c.args._problem.now c.args.mark c.args.choice c.args.cost c.args.fixing c.args.tree c.args.vectors _ c.requires.end c.requires.mark c.requires.fixing refl refl refl refl refl kept
