use Rattle.scr_reader.proofs.AlikeLemmas.{runs_alike, have_lines}
use Rattle.scr_reader.proofs.laws.runs_are_messages.Goals as goal

pub returns : goal.returns
returns c = record { lines = runs_alike; full = have_lines }
