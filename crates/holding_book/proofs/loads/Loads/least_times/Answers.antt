use Rattle.std.proofs.Common.{◌≡◌, ℕ, Bool, true, sym, ap, ◌∙◌, subst, get_or, Some}
use Rattle.std.specs.Prelude.{All}
use Rattle.std.proofs.lemmas.List.Elements.{Contains-get_or}
use Rattle.series_model.specs.declared.times.Times.{Times}
use Rattle.series_model.specs.Displacement.{cost_at}
use Rattle.series_model.specs.Options.{line_times, shifts_of}
use Rattle.holding_book.specs.Private.Loads.{fits_left}
use Rattle.holding_book.proofs.SearchLemmas.{cheapest-free}
use Rattle.holding_book.proofs.loads.Loads.least_times.Goals as goal

pub returns-then-fits-clause-best : goal.returns-then-fits-clause-best
returns-then-fits-clause-best c =
    let loads = c.args.self.now in
    let line = c.args.line.now in
    let d = loads.declaration in
    let xs = shifts_of d line in
    let times = line_times line in
    let cost : Times → ℕ = cost_at d line in
    let fits : Times → Bool = fits_left loads line in
    let is = c.line_times-requested.ensures in
    let fit : fits times ≡ true = subst (λ (t : Times). fits t ≡ true) is (sym c.in_ok-fits.ensures.fits ∙ c.if-fits.true) in
    let has = c.requested_shift.ensures d line c.requires in
    let only : All (λ shift. cost shift ≡ 0 → times ≡ shift) xs = λ k dflt lt e. c.free_shift.ensures.free d line (get_or xs k dflt) c.requires (Contains-get_or xs k dflt lt) e in
    ap (λ (t : Times). Some t) is ∙ sym (cheapest-free cost fits times fit (c.free_shift.ensures.own d line) xs has.0 has.1 has.2 only)
