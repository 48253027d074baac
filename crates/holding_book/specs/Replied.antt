-- Which answers an ask can have, and that each line of them has a spelling.
use Rattle.std.specs.Prelude.{All}
use Rattle.season_days.specs.Term.{Term}
use Rattle.scr_reader.specs.Printed.{LineFits, ItemFits}
use Rattle.scr_reader.specs.declared.line.Item.{Item}
use Rattle.scr_reader.specs.declared.line.Item.TheVariants.{One, Pair, Query}
use Rattle.holding_book.specs.declared.answer.Answer.{Answer}
use Rattle.holding_book.specs.declared.answer.Answer.TheVariants.{K as granted, KChanged as changed, Offer as offer, Held as held, U as refused, X as cancelled, W as not_processed, Listed as listed}

-- to a line; an offered line has a spelling
abbrev pub IsLineAnswer : Term → Answer → Type 0
IsLineAnswer season granted = Unit {0}
IsLineAnswer season (offer line) = LineFits season line
IsLineAnswer season refused = Unit {0}
IsLineAnswer season cancelled = Unit {0}
IsLineAnswer season not_processed = Unit {0}
IsLineAnswer season answer = ⊥

-- to a pair
abbrev pub IsPairAnswer : Answer → Type 0
IsPairAnswer changed = Unit {0}
IsPairAnswer held = Unit {0}
IsPairAnswer not_processed = Unit {0}
IsPairAnswer answer = ⊥

-- to a query; the line of each listed holding has a spelling
abbrev pub IsQueryAnswer : Term → Answer → Type 0
IsQueryAnswer season not_processed = Unit {0}
IsQueryAnswer season (listed holdings) = All (λ holding. LineFits season holding.line) holdings
IsQueryAnswer season answer = ⊥

abbrev pub IsAnswerTo : Term → Item → Answer → Type 0
IsAnswerTo season (One line) answer = IsLineAnswer season answer
IsAnswerTo season (Pair historic request) answer = IsPairAnswer answer
IsAnswerTo season (Query flight) answer = IsQueryAnswer season answer

-- the lines of the ask, and those that the answer adds to them, have a spelling
pub record HasAnswerLines (season : Term) (ask : Item) (answer : Answer) : Type 0 where
  pub asked : ItemFits season ask
  pub answered : IsAnswerTo season ask answer
