use Rattle.slot_text.specs.Lines.{lines_of}
use Rattle.scr_replies.proofs.ReceivedLemmas.{received_once}
use Rattle.scr_replies.proofs.received.one_received.Goals as goal

pub returns : goal.returns
returns c = λ season airport bytes a b of one other.
    received_once season airport (lines_of bytes) a b (record {
      message = λ m n x y. c.one_reading.ensures.first bytes m n ((c.one_run.ensures.read bytes m of).1 x) ((c.one_run.ensures.read bytes n of).1 y);
      fault = λ e f x y. c.one_reading.ensures.first_fault bytes e f ((c.one_run.ensures.fault bytes e of).1 x) ((c.one_run.ensures.fault bytes f of).1 y);
      never_both = λ m e x y. c.one_reading.ensures.first_or_fault bytes m e ((c.one_run.ensures.read bytes m of).1 x) ((c.one_run.ensures.fault bytes e of).1 y);
    }) one other
