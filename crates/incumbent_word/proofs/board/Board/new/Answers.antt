use Rattle.std.proofs.Common.{◌∙◌, ap, sym, arith}
use Rattle.incumbent_word.specs.Rule.{cost_in_word}
use Rattle.incumbent_word.proofs.Allowed.{starts, start_word}
use Rattle.incumbent_word.proofs.board.Board.new.Goals as goal

pub of_words-requires : goal.of_words-requires
of_words-requires c = starts (record { pieces = c.args.pieces; budget = c.args.budget; start = c.args.start }) c.unwrap_or-least.result _ (let r = c.ranges.pieces.fits in omega arith) (let r = c.ranges.budget.fits in omega arith) (start_word c.args.start c.requires ∙ ap cost_in_word (sym c.unwrap_or-least.ensures))
