use Rattle.session_desk.proofs.doors.work.Goals as goal

pub returns-clause-served : goal.returns-clause-served
returns-clause-served g c = rw c.number-caller.ensures.number at c.serve_door-worker.ensures.served
