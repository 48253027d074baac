use Rattle.std.proofs.Common.{◌≡◌, Bool, List, ap, ◌∙◌}
use Rattle.std.proofs.lemmas.Result.{IfOk-weaker}
use Rattle.std.proofs.lemmas.List.Elements.{filter_agree}
use Rattle.season_days.specs.Capacity.{capacity_of}
use Rattle.series_model.specs.declared.times.Times.{Times}
use Rattle.series_model.specs.Displacement.{cost_at}
use Rattle.series_model.specs.Movements.{movements_at}
use Rattle.series_model.specs.Options.{shifts_of}
use Rattle.holding_book.specs.Books.{first_cheapest, fits_beside, held_movements, best_times}
use Rattle.holding_book.specs.Private.Loads.{fits_left, best_left}
use Rattle.holding_book.proofs.SearchLemmas.{left-beside}
use Rattle.holding_book.proofs.loads.Loads.best_times.Goals as goal

pub returns-clause-best : goal.returns-clause-best
returns-clause-best c holdings kept =
    let loads = c.args.self.now in
    let line = c.args.line.now in
    let d = loads.declaration in
    let beside : Times → Bool = λ times. fits_beside d holdings (movements_at d.season line times) in
    let agree : (times : Times) → fits_left loads line times ≡ beside times = λ times. left-beside (capacity_of d) (held_movements d.season holdings) (movements_at d.season line times) loads.left kept in
    let same : best_left loads line ≡ best_times (record { declaration = d; holdings = holdings }) line =
    ap (λ (ts : List Times). first_cheapest (cost_at d line) ts) (filter_agree (fits_left loads line) beside agree (shifts_of d line)) in
    IfOk-weaker c.least_times.result (λ best. best ≡ best_left loads line) (λ best. best ≡ best_times (record { declaration = d; holdings = holdings }) line) (λ best e. e ∙ same) c.least_times.ensures.best
