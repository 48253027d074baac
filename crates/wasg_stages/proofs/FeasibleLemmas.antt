-- The choices of a valid certificate are feasible, stage by stage.
use Rattle.std.proofs.Common.{◌≡◌, ℕ, suc, ◌+◌, refl, sym, subst, arith, List, [], ◌∷◌, ◌++◌, length, map}
use Rattle.std.specs.Prelude.{Option, Some, None, IfSome, Bool, true, false}
use Rattle.std.specs.List.{AllByRecursion}
use Rattle.std.proofs.lemmas.List.{length-append}
use Rattle.season_days.specs.declared.declaration.Declaration.{Declaration}
use Rattle.choice_problem.specs.Choices.{IsFeasible}
use Rattle.cert_format.specs.declared.cert.StageCert.{StageCert}
use Rattle.cert_format.specs.Spelling.{is_tried}
use Rattle.cert_format.specs.Printable.{IsPrintableStage, IsPrintableAs}
use Rattle.series_model.specs.declared.unit.Unit.{Unit as SlotUnit}
use Rattle.series_model.specs.declared.state.UnitState.{UnitState}
use Rattle.series_model.specs.Stages.{stage_units, stage_limit, after_stage, states_after, IsFeasibleChoice, AreFeasibleFrom}
use Rattle.wasg_stages.specs.Valid.{IsTried, IsStageAs, AreStages}
use Rattle.wasg_stages.proofs.ChoiceLemmas.{choice-numbers, choice-feasible}

-- the law of the model
abbrev pub OneMoreStage : Type 0
OneMoreStage = (d : Declaration) (units : List SlotUnit) (choices : List (Option (List ℕ))) (choice : Option (List ℕ)) →
    states_after d units (choices ++ choice ∷ []) ≡ after_stage d (length choices + 1) (states_after d units choices) choice

-- a choice, if there is one, is feasible for its stage
abbrev HasFeasible : Declaration → ℕ → List UnitState → Option (List ℕ) → Type 0
HasFeasible d stage states choice = IfSome choice (IsFeasibleChoice d stage states)

tried-feasible : (d : Declaration) (stage : ℕ) (states : List UnitState) (c : StageCert) (choice : Option (List ℕ)) → choice ≡ c.choice → IsTried d stage states c → HasFeasible d stage states choice
tried-feasible d stage states c None is tried = tt
tried-feasible d stage states c (Some x) is tried =
    let feasible : IsFeasible tried.problem x = subst (λ (o : Option (List ℕ)). IfSome o (IsFeasible tried.problem)) (sym is) tried.proof.feasible in
    record {
      numbers = choice-numbers d (stage_units stage states) (stage_limit d stage states) tried.problem x tried.problem_is feasible.choice;
      feasible = choice-feasible d (stage_units stage states) (stage_limit d stage states) tried.problem x tried.problem_is feasible;
    }

stage-feasible : (d : Declaration) (units : List SlotUnit) (earlier : List (Option (List ℕ))) (version : ℕ) (c : StageCert) (tried : Bool) →
    IsPrintableAs version c tried → IsStageAs d units earlier c tried → HasFeasible d (length earlier + 1) (states_after d units earlier) c.choice
stage-feasible d units earlier version c true form valid = tried-feasible d (length earlier + 1) (states_after d units earlier) c c.choice refl valid.1
stage-feasible d units earlier version c false form valid = subst (HasFeasible d (length earlier + 1) (states_after d units earlier)) (sym form.choice) tt

-- then the later ones
from-feasible : (d : Declaration) (stage : ℕ) (states : List UnitState) (choice : Option (List ℕ)) (choices : List (Option (List ℕ))) → HasFeasible d stage states choice →
    AreFeasibleFrom d (suc stage) (after_stage d stage states choice) choices → AreFeasibleFrom d stage states (choice ∷ choices)
from-feasible d stage states None choices one rest = rest
from-feasible d stage states (Some choice) choices one rest = (one, rest)

abbrev choice_in : StageCert → Option (List ℕ)
choice_in c = c.choice

pub stages-feasible : OneMoreStage → (d : Declaration) (units : List SlotUnit) (earlier : List (Option (List ℕ))) (version : ℕ) (certs : List StageCert) →
    AllByRecursion (IsPrintableStage version) certs → AreStages d units earlier certs → AreFeasibleFrom d (length earlier + 1) (states_after d units earlier) (map choice_in certs)
stages-feasible more d units earlier version [] form valid = tt
stages-feasible more d units earlier version (c ∷ certs) form valid =
    let stage = length earlier + 1 in
    let one = stage-feasible d units earlier version c (is_tried c.mark) form.0 valid.0 in
    let rest = stages-feasible more d units (earlier ++ c.choice ∷ []) version certs form.1 valid.1 in
    let next : length (earlier ++ c.choice ∷ []) + 1 ≡ suc stage = omega (arith, length-append earlier (c.choice ∷ [])) in
    from-feasible d stage (states_after d units earlier) c.choice (map choice_in certs) one
    (subst (λ (k : ℕ). AreFeasibleFrom d k (after_stage d stage (states_after d units earlier) c.choice) (map choice_in certs)) next
    (subst (λ (st : List UnitState). AreFeasibleFrom d (length (earlier ++ c.choice ∷ []) + 1) st (map choice_in certs)) (more d units earlier c.choice) rest))
