use Rattle.season_run.proofs.floors.add_floor.Goals as goal

pub returns-in-Undone-clause-found : goal.returns-in-Undone-clause-found
returns-in-Undone-clause-found c = rw c.in-Undone.is c.push_floor.ensures.found
