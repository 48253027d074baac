use Rattle.choice_problem.specs.Choices.{IsFeasible}
use Rattle.std.specs.Prelude.{Option, Some, None, IfSome}
use Rattle.holding_book.specs.Left.{left_of}
use Rattle.wait_list.specs.Waiting.{waiting_units, waiting_terms}
use Rattle.wait_list.proofs.ClaimLemmas.{beside-book}
use Rattle.wait_list.proofs.laws.allotted_fit.Goals as goal

pub returns-clause-allotment : goal.returns-clause-allotment
returns-clause-allotment c = beside-book

if-some : {X : Type 0} (P Q : X → Type 0) (o : Option X) → ((x : X) → P x → Q x) → IfSome o P → IfSome o Q
if-some P Q None f h = tt
if-some P Q (Some x) f h = f x h

pub returns-clause-proved : goal.returns-clause-proved
returns-clause-proved c b lines cert fits w =
    if-some (IsFeasible w.problem) _ cert.choice
    (λ numbers feasible. beside-book b lines _ fits (c.problem_choices.ensures.feasible (waiting_terms b.declaration) (waiting_units lines) (left_of b) w.problem numbers w.problem_is feasible)) w.proof.feasible
