use Rattle.scr_reader.proofs.ReadItemLemmas.{item_once}
use Rattle.scr_reader.proofs.laws.one_item.Goals as goal

pub returns : goal.returns
returns c = λ season text a b digits.
    item_once c.one_value.ensures.time c.one_value.ensures.days season text a b (λ month of_month day. c.named_days.ensures season month of_month day digits)
