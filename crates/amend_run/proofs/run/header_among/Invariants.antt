use Rattle.std.proofs.Common.{drop, map}
use Rattle.std.specs.Prelude.{Option}
use Rattle.scr_reader.specs.Streams.{piece_lines}
use Rattle.scr_reader.specs.declared.header.Header.{Header}
use Rattle.amend_run.specs.Amended.{IsFirstHeader}
use Rattle.amend_run.proofs.run.header_among.Given as goal

-- what is first of the messages that are left is first of all
abbrev pub invariant-loop-piece : goal.invariant-loop-piece
invariant-loop-piece l =
    (header : Option Header) → IsFirstHeader l.season l.airport (map (piece_lines l.asks) (drop l.piece-index l.pieces)) header →
    IsFirstHeader l.season l.airport (map (piece_lines l.asks) l.pieces) header
