use Rattle.scr_reader.proofs.OnceTextLemmas.{all_once, all_no_fault, fault_once, one_once, one_no_fault, fault_of_one_once}
use Rattle.scr_reader.proofs.laws.one_reading.Goals as goal

pub returns : goal.returns
returns c =
    let times = c.one_value.ensures.time in
    let sets = c.one_value.ensures.days in
    record {
      all = all_once times sets;
      all_fault = fault_once times sets;
      all_or_fault = all_no_fault times sets;
      first = one_once times sets;
      first_fault = fault_of_one_once times sets;
      first_or_fault = one_no_fault times sets;
    }
