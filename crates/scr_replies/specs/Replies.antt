-- The reply to a message of asks: the answer to each item, by what the book answers.
use Rattle.std.specs.Prelude.{ℕ, List, [], ◌∷◌, ◌++◌, map, codes}
use Rattle.std.specs.List.{flat_map}
use Rattle.std.specs.Fmt.{decimal}
use Rattle.season_days.specs.Term.{Term}
use Rattle.scr_reader.specs.Messages.{header_of}
use Rattle.scr_reader.specs.declared.line.Flight.{Flight}
use Rattle.scr_reader.specs.declared.line.Line.{Line}
use Rattle.scr_reader.specs.declared.line.Item.{Item}
use Rattle.scr_reader.specs.declared.line.Item.TheVariants.{One, Pair, Query}
use Rattle.scr_reader.specs.declared.line.Code.{Code}
use Rattle.scr_reader.specs.declared.line.Code.TheVariants.{H, O}
use Rattle.scr_reader.specs.declared.message.Placed.{Placed}
use Rattle.scr_reader.specs.declared.message.Message.{Message}
use Rattle.holding_book.specs.declared.holding.Holding.{Holding}
use Rattle.holding_book.specs.declared.holding.State.{State}
use Rattle.holding_book.specs.declared.holding.State.TheVariants.{Confirmed, Offered}
use Rattle.holding_book.specs.declared.answer.Answer.{Answer}
use Rattle.holding_book.specs.declared.answer.Answer.TheVariants.{K as granted, KChanged as changed, Offer as offer, Held as held, U as refused, X as cancelled, W as not_processed, Listed as listed}
use Rattle.holding_book.specs.Replied.{HasAnswerLines}
use Rattle.scr_replies.specs.Answers.{coded_line, confirmed_answer, refused_answer, offer_answer, held_answer, cancelled_answer, unprocessed_answer, unknown_answer, message_reply}

-- ---- the lines of one answer; no ask has an answer of another kind than these

abbrev pub line_answer : Term → Line → Answer → List ℕ
line_answer season request granted = confirmed_answer season request
line_answer season request (offer offered) = offer_answer season request offered
line_answer season request refused = refused_answer season request
line_answer season request cancelled = cancelled_answer season request
line_answer season request not_processed = unprocessed_answer season request
line_answer season request answer = []

-- a pair is answered in its R or L line
abbrev pub pair_answer : Term → Line → Line → Answer → List ℕ
pair_answer season historic request changed = confirmed_answer season request
pair_answer season historic request held = held_answer season request historic
pair_answer season historic request not_processed = unprocessed_answer season request
pair_answer season historic request answer = []

-- a holding is listed as held or as offered
abbrev pub state_code : State → Code
state_code Confirmed = H
state_code Offered = O

abbrev pub holding_answer : Term → Holding → List ℕ
holding_answer season holding = coded_line season (state_code holding.state) holding.line

abbrev pub query_answer : Term → Flight → Answer → List ℕ
query_answer season flight (listed holdings) = flat_map (holding_answer season) holdings
query_answer season flight not_processed = unknown_answer flight
query_answer season flight answer = []

abbrev pub ask_answer : Term → Item → Answer → List ℕ
ask_answer season (One line) answer = line_answer season line answer
ask_answer season (Pair historic request) answer = pair_answer season historic request answer
ask_answer season (Query flight) answer = query_answer season flight answer

-- ---- the reply to a message

-- the items of a message, in their order
abbrev pub asks_of : Message → List Item
asks_of message = map (λ (placed : Placed). placed.item) message.items

-- one answer an item
abbrev pub answers_text : Term → List Placed → List Answer → List ℕ
answers_text season (placed ∷ items) (answer ∷ answers) =
    ask_answer season placed.item answer ++ answers_text season items answers
answers_text season items answers = []

abbrev pub reply_text : Message → List Answer → List ℕ
reply_text message answers =
    message_reply (header_of message) (answers_text message.season message.items answers)

-- there is one answer an item, and its lines have a spelling
abbrev pub AreAnswerLines : Term → List Placed → List Answer → Type 0
AreAnswerLines season [] [] = Unit {0}
AreAnswerLines season [] (answer ∷ answers) = ⊥
AreAnswerLines season (placed ∷ items) [] = ⊥
AreAnswerLines season (placed ∷ items) (answer ∷ answers) =
    HasAnswerLines season placed.item answer × AreAnswerLines season items answers

-- ---- the reply to a message that is not good: the number of its bad line, and an empty line

abbrev pub bad_text : ℕ → List ℕ
bad_text n = codes "BAD " ++ (decimal n ++ (10 ∷ 10 ∷ []))
