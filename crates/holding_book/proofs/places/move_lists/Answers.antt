use Rattle.std.proofs.Common.{◌≡◌, ℕ, ◌<◌, length, get_or, map, arith, Vec, ap, ◌∙◌, sym, List}
use Rattle.std.proofs.lemmas.List.{length-map, with_items_is}
use Rattle.std.specs.Vec.{with_items}
use Rattle.holding_book.specs.Private.Places.{moved, place_lists}
use Rattle.holding_book.proofs.PlacesLemmas.{lists_more}
use Rattle.holding_book.proofs.places.move_lists.Goals as goal

pub loop-list-preserved : goal.loop-list-preserved
loop-list-preserved c =
    let f = map (moved c.args.at c.args.count) in
    let i = c.loop-list.list-index in
    let lt : i < length (place_lists c.args.lists.now) = omega (arith, length-map c.args.lists.now (λ (l : Vec ℕ _). l.items)) in
    let v : c.deref_mut.result.now ≡ c.list-item.result.items = c.deref_mut.ensures.value ∙ ap (λ (l : Vec ℕ _). l.items) (sym c.list-item.is) in
    let old = get_or c.loop-list.lists i c.list-item.result in
    let e : c.move_list.new.places ≡ f c.list-item.result.items = c.move_list.ensures ∙ ap f v in
    let n : length c.move_list.new.places ≡ old.len = omega (arith, ap (λ (xs : List ℕ). length xs) c.move_list.ensures, length-map c.deref_mut.result.now (moved c.args.at c.args.count), c.deref_mut.ensures.len) in
    lists_more f c.args.lists.now c.loop-list.lists i c.list-item.result (with_items old c.move_list.new.places) lt c.loop-list.invariant c.list-item.is (with_items_is old c.move_list.new.places n ∙ e)
