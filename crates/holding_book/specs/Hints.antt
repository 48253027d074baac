-- What is searched for an ask before the book is changed.
use Rattle.std.specs.Prelude.{Option, Some, None}
use Rattle.std.specs.Option.{option_map}
use Rattle.scr_reader.specs.declared.line.Line.{Line}
use Rattle.scr_reader.specs.declared.line.Code.{Code}
use Rattle.scr_reader.specs.declared.line.Code.TheVariants.{N, B}
use Rattle.scr_reader.specs.declared.line.Item.{Item}
use Rattle.scr_reader.specs.declared.line.Item.TheVariants.{One, Pair, Query}
use Rattle.series_model.specs.TimedLines.{line_at}
use Rattle.holding_book.specs.Books.{SlotBook, best_times}

-- the line of an N or B ask
abbrev pub asked_line_by : Line → Code → Option Line
asked_line_by line N = Some line
asked_line_by line B = Some line
asked_line_by line code = None

abbrev pub new_line : Item → Option Line
new_line (One line) = asked_line_by line line.code
new_line (Pair historic request) = None
new_line (Query flight) = None

-- the line at its best times
abbrev pub best_line : SlotBook → Line → Option Line
best_line b line = option_map (line_at line) (best_times b line)
