use Rattle.std.proofs.Common.{inr, refl}
use Rattle.std.proofs.lemmas.Option.{none-some}
use Rattle.fault_causes.proofs.shape.group_flaw.Goals as goal

pub returns-in-None : goal.returns-in-None
returns-in-None c =
    inr (λ (nights_text, near, far, minute, nights, group, said). none-some (near, far, minute, nights) (c.in-None.ensures.only near far minute nights nights_text group said), refl)
