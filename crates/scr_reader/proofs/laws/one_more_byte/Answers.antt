use Rattle.scr_reader.proofs.StreamLemmas.{byte_complete, byte_lines, byte_open, lf_open, blank_complete, blank_lines, full_complete, full_lines}
use Rattle.scr_reader.proofs.laws.one_more_byte.Goals as goal

pub returns : goal.returns
returns c =
    record {
      within = λ text b other. (byte_complete text b other, byte_lines text b other, byte_open text b other);
      line = λ text full. (full_complete text full, full_lines text full, lf_open text);
      message = λ text empty. (blank_complete text empty, blank_lines text empty, lf_open text);
    }
