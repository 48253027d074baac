use Rattle.std.proofs.Common.{◌+◌, ◌*◌, ◌≤◌, length, drop, map}
use Rattle.scr_reader.specs.Streams.{piece_lines}
use Rattle.amend_run.specs.Private.Due.{line_total}
use Rattle.amend_run.proofs.RunLemmas.{RunsOn}
use Rattle.amend_run.proofs.run.amend_pieces.Given as goal

abbrev pub invariant-loop-piece : goal.invariant-loop-piece
invariant-loop-piece l = record {
  on : RunsOn l.fn.start.book (map (piece_lines l.asks) l.pieces) l.book.book (map (piece_lines l.asks) (drop l.piece-index l.pieces)) l.text.items l.history.items;
  few : length l.history.items + line_total (map (piece_lines l.asks) (drop l.piece-index l.pieces)) ≤ length l.asks;
  grown : length l.book.book.holdings ≤ length l.fn.start.book.holdings + 3 * length l.history.items;
}
