use Rattle.scr_reader.specs.Streams.{is_lf, open_bytes}
use Rattle.scr_reader.proofs.LastLemmas.{none-left}
use Rattle.scr_reader.proofs.StreamLineLemmas.{lines_behind, line_ends}
use Rattle.scr_reader.proofs.laws.lines_begin_anew.Goals as goal

pub returns : goal.returns
returns c = record { behind = lines_behind; ended = λ text. line_ends (open_bytes text) (none-left is_lf text) }
