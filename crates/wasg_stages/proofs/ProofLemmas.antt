-- What a proof of a stage shows of its mark.
use Rattle.std.proofs.Common.{◌≡◌, ℕ, ◌+◌, ◌≤◌, refl, ◌∙◌, ap, List, [], ◌∷◌, ◌++◌, length}
use Rattle.std.specs.Prelude.{Option, Some, None, IfSome, IsSomeAnd, option_map, Bool, true, false}
use Rattle.season_days.specs.declared.declaration.Declaration.{Declaration}
use Rattle.choice_problem.specs.Problems.{ProblemView}
use Rattle.choice_problem.specs.Choices.{IsFeasible, IsBest, choice_cost}
use Rattle.cert_format.specs.declared.cert.Mark.{Mark}
use Rattle.cert_format.specs.declared.cert.Mark.TheVariants.{Optimal, Infeasible, Unsettled, NotTried}
use Rattle.cert_format.specs.declared.cert.StageCert.{StageCert}
use Rattle.cert_format.specs.Spelling.{is_tried}
use Rattle.cert_format.specs.Proofs.{IsProof, ClaimsOf}
use Rattle.series_model.specs.declared.unit.Unit.{Unit as SlotUnit}
use Rattle.series_model.specs.Allotments.{IsFeasibleAllotment, IsDisplacementBound}
use Rattle.series_model.specs.Stages.{times_named, states_after}
use Rattle.series_model.specs.Marks.{HasCost, ClaimsOptimal}
use Rattle.wasg_stages.specs.StageProblems.{IsAllotmentProblem}
use Rattle.wasg_stages.specs.Valid.{MarkClaims, StageClaims, AreClaims, AreStages, IsStageAs}
use Rattle.wasg_stages.proofs.ChoiceLemmas.{choice-displacement, choice-feasible, choice-bound, choice-least, choice-none}

true_is_not_false : true ≡ false → ⊥
true_is_not_false e = cc

-- the law of certificates' proofs
abbrev pub Proven : Type 0
Proven = (p : ProblemView) (c : StageCert) → IsProof p c → ClaimsOf p c c.mark

optimal-claims : (d : Declaration) (units : List SlotUnit) (limit : ℕ → ℕ) (p : ProblemView) (choice : Option (List ℕ)) (cost : Option ℕ) →
    IsAllotmentProblem d units limit p → cost ≡ option_map (choice_cost p) choice → IsSomeAnd choice (IsBest p) →
    ClaimsOptimal d units limit (option_map (times_named d units) choice) cost
optimal-claims d units limit p None cost problem cost_is best = absurd best
optimal-claims d units limit p (Some x) cost problem cost_is best =
    (choice-least d units limit p x problem best, cost_is ∙ ap (λ (n : ℕ). Some n) (choice-displacement d units limit p x problem best.feasible.choice))

open-choice : (d : Declaration) (units : List SlotUnit) (limit : ℕ → ℕ) (p : ProblemView) (choice : Option (List ℕ)) (cost : Option ℕ) →
    IsAllotmentProblem d units limit p → IfSome choice (IsFeasible p) → cost ≡ option_map (choice_cost p) choice →
    IfSome (option_map (times_named d units) choice) (λ given. IsFeasibleAllotment d units limit given × HasCost d units given cost)
open-choice d units limit p None cost problem feasible cost_is = tt
open-choice d units limit p (Some x) cost problem feasible cost_is =
    (choice-feasible d units limit p x problem feasible, cost_is ∙ ap (λ (n : ℕ). Some n) (choice-displacement d units limit p x problem feasible.choice))

open-bound : (d : Declaration) (units : List SlotUnit) (limit : ℕ → ℕ) (p : ProblemView) (bound : Option ℕ) →
    IsAllotmentProblem d units limit p → IfSome bound (λ b. (x : List ℕ) → IsFeasible p x → b ≤ choice_cost p x) →
    IfSome bound (IsDisplacementBound d units limit)
open-bound d units limit p None problem least = tt
open-bound d units limit p (Some b) problem least = choice-bound d units limit p b problem least

claims-by : (d : Declaration) (units : List SlotUnit) (limit : ℕ → ℕ) (p : ProblemView) (c : StageCert) (mark : Mark) → IsAllotmentProblem d units limit p →
    IfSome c.choice (IsFeasible p) → c.cost ≡ option_map (choice_cost p) c.choice → ClaimsOf p c mark → MarkClaims d units limit c mark
claims-by d units limit p c Optimal problem feasible cost_is claimed = optimal-claims d units limit p c.choice c.cost problem cost_is claimed
claims-by d units limit p c Infeasible problem feasible cost_is claimed = choice-none d units limit p problem claimed
claims-by d units limit p c Unsettled problem feasible cost_is claimed =
    (open-choice d units limit p c.choice c.cost problem feasible cost_is, open-bound d units limit p c.bound problem claimed)
claims-by d units limit p c NotTried problem feasible cost_is claimed = tt

-- what a proof shows
pub proof-claims : Proven → (d : Declaration) (units : List SlotUnit) (limit : ℕ → ℕ) (p : ProblemView) (c : StageCert) → IsAllotmentProblem d units limit p → IsProof p c →
    MarkClaims d units limit c c.mark
proof-claims proven d units limit p c problem proof = claims-by d units limit p c c.mark problem proof.feasible proof.cost (proven p c proof)

not_tried-claims : (d : Declaration) (units : List SlotUnit) (limit : ℕ → ℕ) (c : StageCert) (mark : Mark) → is_tried mark ≡ false → MarkClaims d units limit c mark
not_tried-claims d units limit c Optimal is = absurd (true_is_not_false is)
not_tried-claims d units limit c Infeasible is = absurd (true_is_not_false is)
not_tried-claims d units limit c Unsettled is = absurd (true_is_not_false is)
not_tried-claims d units limit c NotTried is = tt

stage-claims : Proven → (d : Declaration) (units : List SlotUnit) (earlier : List (Option (List ℕ))) (c : StageCert) (tried : Bool) → is_tried c.mark ≡ tried →
    IsStageAs d units earlier c tried → StageClaims d (length earlier + 1) (states_after d units earlier) c
stage-claims proven d units earlier c true is valid = proof-claims proven d _ _ valid.1.problem c valid.1.problem_is valid.1.proof
stage-claims proven d units earlier c false is valid = not_tried-claims d _ _ c c.mark is

-- the stages of a valid certificate keep what their marks claim
pub stages-claims : Proven → (d : Declaration) (units : List SlotUnit) (earlier : List (Option (List ℕ))) (certs : List StageCert) →
    AreStages d units earlier certs → AreClaims d units earlier certs
stages-claims proven d units earlier [] valid = tt
stages-claims proven d units earlier (c ∷ certs) valid =
    (stage-claims proven d units earlier c (is_tried c.mark) refl valid.0, stages-claims proven d units (earlier ++ c.choice ∷ []) certs valid.1)
