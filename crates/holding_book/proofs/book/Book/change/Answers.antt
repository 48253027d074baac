use Rattle.std.proofs.Common.{sym, subst, ◌∙◌}
use Rattle.season_days.specs.declared.declaration.Declaration.{Declaration}
use Rattle.holding_book.specs.Private.Kept.{IsKeptBook}
use Rattle.holding_book.proofs.ChangeLemmas.{room_for_freed, uses_for_taken, kept_after}
use Rattle.holding_book.proofs.book.Book.change.Goals as goal

pub give_back-requires-clause-room : goal.give_back-requires-clause-room
give_back-requires-clause-room c =
    let is = rw (← c.self.view_is) at c.requires.change in
    room_for_freed c.self.inside.loads c.self.inside.holdings.items c.self.inside.places c.args.change c.self.invariant is

pub take-requires-clause-left : goal.take-requires-clause-left
take-requires-clause-left c =
    let is = rw (← c.self.view_is) at c.requires.change in
    uses_for_taken c.self.inside.loads c.self.inside.holdings.items c.self.inside.places c.args.change c.self.invariant is c.give_back.new.self.left c.give_back.ensures.length c.give_back.ensures.uses

pub invariant_of-self : goal.invariant_of-self
invariant_of-self c =
    let is = rw (← c.self.view_is) at c.requires.change in
    let kept = kept_after c.self.inside.loads c.self.inside.holdings.items c.self.inside.places c.args.change c.self.invariant is c.give_back.new.self.left c.give_back.ensures.length c.give_back.ensures.uses
    c.take.new.self.left c.take.ensures.length c.take.ensures.uses c.move_all.new.self c.put_lists.new.places c.move_all.ensures.flights c.move_all.ensures.lists c.put_lists.ensures in
    subst (λ (d : Declaration). IsKeptBook (record { declaration = d; left = c.take.new.self.left }) c.args.change.holdings.items c.put_lists.new.places) (sym (c.take.ensures.declaration ∙ c.give_back.ensures.declaration)) kept
