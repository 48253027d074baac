-- What the mark of a stage claims, of these units and a limit for each resource.
use Rattle.std.specs.Prelude.{◌≡◌, ℕ, List, Option, Some, IfSome, IsSomeAnd}
use Rattle.season_days.specs.declared.declaration.Declaration.{Declaration}
use Rattle.series_model.specs.declared.unit.Unit.{Unit as SlotUnit}
use Rattle.series_model.specs.declared.times.Times.{Times}
use Rattle.series_model.specs.Allotments.{IsFeasibleAllotment, IsLeastAllotment, HasNoAllotment, IsDisplacementBound, total_displacement}

-- the stated cost is what the allotment displaces
abbrev pub HasCost : Declaration → List SlotUnit → List Times → Option ℕ → Type 0
HasCost d units times cost = cost ≡ Some (total_displacement d units times)

-- OPTIMAL c: there is an allotment, it displaces c, and no feasible one displaces less
abbrev pub ClaimsOptimal : Declaration → List SlotUnit → (ℕ → ℕ) → Option (List Times) → Option ℕ →
    Type 0
ClaimsOptimal d units limit times cost =
    IsSomeAnd times (λ given. IsLeastAllotment d units limit given × HasCost d units given cost)

-- INFEASIBLE: there is none
abbrev pub ClaimsInfeasible : Declaration → List SlotUnit → (ℕ → ℕ) → Type 0
ClaimsInfeasible d units limit = HasNoAllotment d units limit

-- OPEN c BOUND b, or OPEN NONE BOUND b: the allotment, if any, is feasible and displaces c, and no
-- feasible one displaces less than b
abbrev pub ClaimsOpen : Declaration → List SlotUnit → (ℕ → ℕ) → Option (List Times) → Option ℕ →
    Option ℕ → Type 0
ClaimsOpen d units limit times cost bound =
    IfSome times (λ given. IsFeasibleAllotment d units limit given × HasCost d units given cost)
    × IfSome bound (IsDisplacementBound d units limit)
