use Rattle.std.proofs.Common.{◌≡◌, ◌++◌, ◌∷◌, [], List, Option, ap, ◌∙◌, sym, get_or, take}
use Rattle.std.specs.List.{flat_map, cons_option}
use Rattle.holding_book.specs.declared.holding.Holding.{Holding}
use Rattle.holding_book.specs.Private.Found.{held_at}
use Rattle.holding_book.proofs.FoundLemmas.{flat-next}
use Rattle.holding_book.proofs.finding.held_among.Goals as goal

pub loop-n-preserved : goal.loop-n-preserved
loop-n-preserved c =
    let hs = c.args.holdings.now in
    let places = c.args.places.now in
    let n = c.loop-n.n in
    let held = c.holding_at-held.result in
    let here : held_at hs (get_or places n 0) ≡ held ∷ [] = ap (λ (o : Option Holding). cons_option o []) c.holding_at-held.ensures in
    c.in_ok-push.ensures.items ∙ ap (λ (t : List Holding). t ++ held ∷ []) c.loop-n.invariant
    ∙ sym (flat-next (held_at hs) places n c.loop-n-test.true ∙ ap (λ (t : List Holding). flat_map (held_at hs) (take n places) ++ t) here)
