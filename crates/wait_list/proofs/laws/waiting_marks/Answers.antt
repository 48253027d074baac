use Rattle.holding_book.specs.Left.{left_of}
use Rattle.wait_list.specs.Waiting.{waiting_units, waiting_terms}
use Rattle.wait_list.proofs.laws.waiting_marks.Goals as goal

pub returns : goal.returns
returns c b lines cert w = c.proven_claims.ensures (waiting_terms b.declaration) (waiting_units lines) (left_of b) w.problem cert w.problem_is w.proof
