use Rattle.scr_reader.proofs.AlikeLemmas.{one_run, reads_one, fails_one}
use Rattle.scr_reader.proofs.laws.one_run.Goals as goal

pub returns : goal.returns
returns c = record { run = one_run; read = reads_one; fault = fails_one }
