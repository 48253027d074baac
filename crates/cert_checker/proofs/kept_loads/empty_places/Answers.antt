use Rattle.std.proofs.Common.{[], ◌∷◌, None, arith}
use Rattle.std.proofs.lemmas.List.{length-append}
use Rattle.cert_checker.proofs.NoneLemmas.{all-push}
use Rattle.cert_checker.proofs.KeptLoadLemmas.{places-none}
use Rattle.cert_checker.proofs.kept_loads.empty_places.Goals as goal

pub returns-clause-empty : goal.returns-clause-empty
returns-clause-empty c = λ p ranges whole changes marked. places-none p ranges whole changes marked c.loop.kept.items c.loop.invariant.none

pub loop-preserved : goal.loop-preserved
loop-preserved c =
    let kept = c.loop.kept.items in
    record {
      some = rw c.in_ok-push-2.ensures.items (omega (arith, length-append kept (None ∷ [])));
      none = λ i. rw c.in_ok-push-2.ensures.items (all-push kept None c.loop.invariant.none i);
    }
