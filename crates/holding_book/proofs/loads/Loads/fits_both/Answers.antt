use Rattle.std.proofs.Common.{◌≡◌, ◌↔◌, ℕ, List, false, sym, ap, ◌∙◌, subst}
use Rattle.std.specs.Prelude.{IsTrue}
use Rattle.season_days.specs.Capacity.{capacity_of}
use Rattle.choice_problem.specs.Counts.{HasUses}
use Rattle.window_counts.specs.Counts.{both_uses}
use Rattle.holding_book.specs.Private.Loads.{LoadsView, can_share}
use Rattle.holding_book.proofs.SearchLemmas.{counted, within, apart-fit, fits-together, full-one, full-two}
use Rattle.holding_book.proofs.loads.Loads.fits_both.Goals as goal

pub returns : goal.returns
returns c =
    let one = c.args.one.now in
    let two = c.args.two.now in
    let fits = c.has_both.result in
    let count = counted c.self.inside.declaration c.self.inside.windows c.self.inside.left c.args.self.now c.self.view_is c.self.invariant in
    let same : c.self.inside.left ≡ c.args.self.now.left = ap (λ (v : LoadsView). v.left) c.self.view_is in
    fits-together c.movement_loads.ensures c.args.self.now count c.args.line.now one two c.requires.one c.requires.two fits
    (subst (λ (left : List ℕ). IsTrue fits ↔ HasUses left (λ r. both_uses one.part two.part r)) same c.has_both.ensures)

pub returns-then-not-one : goal.returns-then-not-one
returns-then-not-one c =
    let count = counted c.self.inside.declaration c.self.inside.windows c.self.inside.left c.args.self.now c.self.view_is c.self.invariant in
    full-one c.movement_loads.ensures c.args.self.now count c.args.line.now c.args.one.now c.args.two.now c.requires.one c.requires.two c.if-not-one.true

pub returns-then-not-two : goal.returns-then-not-two
returns-then-not-two c =
    let count = counted c.self.inside.declaration c.self.inside.windows c.self.inside.left c.args.self.now c.self.view_is c.self.invariant in
    full-two c.movement_loads.ensures c.args.self.now count c.args.line.now c.args.one.now c.args.two.now c.requires.one c.requires.two c.if-not-two.true

pub has_both-requires-clause-there : goal.has_both-requires-clause-there
has_both-requires-clause-there c = within c.self.inside.declaration c.self.inside.windows c.self.inside.left c.args.self.now c.self.view_is c.self.invariant c.args.one.now.part c.requires.one.part.there

pub returns-then-not-can_share : goal.returns-then-not-can_share
returns-then-not-can_share c =
    let count = counted c.self.inside.declaration c.self.inside.windows c.self.inside.left c.args.self.now c.self.view_is c.self.invariant in
    let apart : can_share (capacity_of c.args.self.now.declaration) ≡ false = sym (c.can_share.ensures ∙ ap (λ (v : LoadsView). can_share (capacity_of v.declaration)) c.self.view_is) ∙ c.if-not-can_share.true in
    apart-fit c.movement_loads.ensures c.args.self.now count c.args.line.now c.args.one.now c.args.two.now c.requires.one c.requires.two apart c.if-not-one.false c.if-not-two.false
