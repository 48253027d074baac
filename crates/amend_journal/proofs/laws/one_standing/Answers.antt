use Rattle.amend_journal.proofs.StandingLemmas.{one_list, not_bad, one_number, not_other, bad_or_other}
use Rattle.amend_journal.proofs.laws.one_standing.Goals as goal

pub returns : goal.returns
returns c = record {
  asks = λ season file a b year. one_list season year c.printed_items.ensures.short c.one_item.ensures file a b;
  not_other = λ season file a. not_other season file a;
  not_bad = λ season file a number year. not_bad season year c.printed_items.ensures.short c.one_item.ensures file a number;
  one_fault = λ season file number. bad_or_other season file number;
  one_number = λ season file m n year. one_number season year c.printed_items.ensures.short c.one_item.ensures file m n;
}
