use Rattle.std.proofs.Common.{refl}
use Rattle.fault_causes.proofs.FormLemmas.{no_days}
use Rattle.fault_causes.proofs.form.is_empty.Goals as goal

pub returns-in-Some : goal.returns-in-Some
returns-in-Some c = no_days c.args.text.now c.in-Some.days _ refl c.in-Some.ensures.found c.in-Some.ensures.only
