use Rattle.session_desk.proofs.session.end_of.Goals as goal

pub returns-in-TooLong-clause-ends : goal.returns-in-TooLong-clause-ends
returns-in-TooLong-clause-ends c taken held = (c.in-TooLong.ensures taken held, c.breaks_stay.ensures.unbroken taken held.within)
