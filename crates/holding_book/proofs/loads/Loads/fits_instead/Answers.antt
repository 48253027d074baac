use Rattle.std.proofs.Common.{◌≡◌, ℕ, ap, ◌∙◌, List}
use Rattle.season_days.specs.declared.declaration.Declaration.{Declaration}
use Rattle.holding_book.specs.Private.Loads.{LoadsView}
use Rattle.holding_book.proofs.SearchLemmas.{back-again}
use Rattle.holding_book.proofs.loads.Loads.fits_instead.Goals as goal

same_view : (one other : LoadsView) → one.declaration ≡ other.declaration → one.left ≡ other.left → one ≡ other
same_view one other d l = ap (λ (x : Declaration). record { declaration = x; left = one.left }) d ∙ ap (λ (x : List ℕ). record { declaration = other.declaration; left = x }) l

pub returns-clause-same : goal.returns-clause-same
returns-clause-same c =
    same_view c.take.new.self c.args.self.now (c.take.ensures.declaration ∙ c.give_back.ensures.declaration)
    (back-again c.args.self.now.left c.give_back.new.self.left c.take.new.self.left _ (c.take.ensures.length ∙ c.give_back.ensures.length) c.give_back.ensures.length c.give_back.ensures.uses c.take.ensures.uses)
