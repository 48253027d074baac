use Rattle.holding_book.specs.Left.{left_of}
use Rattle.wait_list.specs.Waiting.{waiting_units, waiting_terms}
use Rattle.wait_list.proofs.laws.one_waiting_line.Goals as goal

pub returns-clause-never : goal.returns-clause-never
returns-clause-never c b lines cert line reason printable proof fails =
    c.same_tests.ensures.never (waiting_terms b.declaration) (waiting_units lines) (left_of b) proof.problem fails.problem 3 cert 3 line reason proof.problem_is fails.problem_is printable.fits proof.proof fails.fails

pub returns-clause-one : goal.returns-clause-one
returns-clause-one c b lines cert line other reason why one two =
    c.same_tests.ensures.fails (waiting_terms b.declaration) (waiting_units lines) (left_of b) one.problem two.problem cert 3 line other reason why one.problem_is two.problem_is one.fails two.fails
