use Rattle.scr_reader.proofs.AgainLemmas.{AllNamedDays, one_again, first_again, many_again}
use Rattle.scr_reader.proofs.laws.printed_messages_are_read.Goals as goal

pub returns : goal.returns
returns c =
    let law : AllNamedDays = λ season digits month of_month day. c.named_days.ensures season month of_month day digits in
    record {
      one = λ message is. one_again message (law message.season is.season) is;
      first = λ message is. first_again message (law message.season is.season) is;
      many = λ messages are. many_again messages law are;
    }
