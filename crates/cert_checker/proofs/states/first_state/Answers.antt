use Rattle.std.proofs.Common.{ℕ, List, sym, subst}
use Rattle.choice_problem.specs.Bounds.{whole_of}
use Rattle.kept_bounds.specs.Kept.{AreKept}
use Rattle.cert_checker.specs.Loads.{IsLoadState}
use Rattle.cert_checker.proofs.states.first_state.Goals as goal

pub returns : goal.returns
returns c =
    let p = c.args.problem.now in
    record {
      bounds = subst (λ (xs : List ℕ). AreKept p c.args.vectors.now (whole_of p) xs c.in_ok-empty.field-0) (sym c.new.ensures.items) (c.in_ok-empty.ensures p (whole_of p));
      loads = subst (λ (xs : List ℕ). IsLoadState p (whole_of p) xs c.in_ok-first_loads.field-0) (sym c.new.ensures.items) c.in_ok-first_loads.ensures;
    }
