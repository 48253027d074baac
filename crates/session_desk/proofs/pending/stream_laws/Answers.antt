use Rattle.session_desk.proofs.pending.stream_laws.Goals as goal

pub returns : goal.returns
returns c = record {
  parts = c.lines_of_parts.ensures;
  within = c.one_more_byte.ensures.within;
  line = c.one_more_byte.ensures.line;
  message = c.one_more_byte.ensures.message;
  so_far = c.one_under_way.ensures.so_far;
  at_end = c.one_under_way.ensures.at_end;
  ended = c.lines_begin_anew.ensures.ended;
  full = c.runs_are_messages.ensures.full;
  unbroken = c.breaks_stay.ensures.unbroken;
}
