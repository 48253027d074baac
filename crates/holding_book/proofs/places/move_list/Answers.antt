use Rattle.std.proofs.Common.{◌≡◌, ◌<◌, length, get_or, arith}
use Rattle.std.proofs.lemmas.Grind.{common_steps}
use Rattle.std.proofs.lemmas.List.Edits.{map_over_more}
use Rattle.holding_book.specs.Private.Places.{moved}
use Rattle.holding_book.proofs.places.move_list.Goals as goal

pub loop-place-preserved : goal.loop-place-preserved
loop-place-preserved c =
    let ys = c.loop-place.places in
    let i = c.loop-place.place-index in
    let lt : i < length ys = omega (arith, c.loop-place.auto.places) in
    let x : get_or ys i 0 ≡ get_or ys i (get_or ys i 0) = grind (arith, common_steps) in
    rw c.moved.ensures (map_over_more (moved c.args.at c.args.count) c.args.places.now ys i (get_or ys i 0) (omega (arith, lt, c.loop-place.auto.places)) c.loop-place.invariant x)
