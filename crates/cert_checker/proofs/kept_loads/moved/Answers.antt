use Rattle.std.proofs.Common.{◌∙◌, sym, subst, List, ℕ, inl, inr}
use Rattle.kept_bounds.specs.Changes.{AgreeBut}
use Rattle.cert_checker.proofs.KeptLoadLemmas.{take-rest}
use Rattle.cert_checker.proofs.kept_loads.moved.Goals as goal

pub follow-requires-clause-others : goal.follow-requires-clause-others
follow-requires-clause-others c =
    elim c.shorter-units.ensures [
      | inl e ↦ subst (λ (xs : List ℕ). AgreeBut xs c.args.kept.ranges c.args.ranges.now) (sym (e ∙ take-rest c.args.changes.now c.args.kept.seen)) c.requires.seen.others
      | inr e ↦ subst (λ (xs : List ℕ). AgreeBut xs c.args.kept.ranges c.args.ranges.now) (sym e) c.requires.marked
    ]
