use Rattle.std.proofs.Common.{◌∷◌, [], None, arith}
use Rattle.std.proofs.lemmas.List.{length-append}
use Rattle.kept_bounds.proofs.KeptLemmas.{all-push}
use Rattle.kept_bounds.proofs.bounds.empty_places.Goals as goal

pub loop-preserved : goal.loop-preserved
loop-preserved g c =
    let places = c.loop.places.items in
    record {
      count = rw c.in_ok-push-2.ensures.items (omega (arith, c.loop.invariant.count, length-append places (None ∷ [])));
      none = λ i. rw c.in_ok-push-2.ensures.items (all-push places None c.loop.invariant.none i);
    }
