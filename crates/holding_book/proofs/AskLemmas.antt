-- Asks, and what is made ready for them.
use Rattle.std.proofs.Common.{◌≡◌, true, false, refl, sym, ap, ◌∙◌, subst, Some}
use Rattle.season_days.specs.Term.{Term}
use Rattle.scr_reader.specs.Printed.{LineFits, ItemFits}
use Rattle.scr_reader.specs.declared.line.Line.{Line}
use Rattle.scr_reader.specs.declared.line.Code.{Code}
use Rattle.scr_reader.specs.declared.line.Code.TheVariants.{N, B, D, Z, A, F, C, R, L, K, H, O, U, W, X}
use Rattle.scr_reader.specs.declared.line.Item.{Item}
use Rattle.scr_reader.specs.declared.line.Item.TheVariants.{One, Pair, Query}
use Rattle.holding_book.specs.declared.answer.Answer.TheVariants.{W as not_processed}
use Rattle.holding_book.specs.declared.step.AskStep.{AskStep}
use Rattle.holding_book.specs.Books.{SlotBook, IsBook, season_of, with_holdings, clashes_with, best_times}
use Rattle.holding_book.specs.Asks.{stays, offer_outcome, new_outcome, line_outcome, outcome, reply, next}
use Rattle.holding_book.specs.Private.Changes.{changed_book}
use Rattle.holding_book.specs.Hints.{asked_line_by, new_line}
use Rattle.holding_book.specs.Private.Ready.{IsReadyRoom}
use Rattle.holding_book.specs.Private.Steps.{IsAskStep}

-- ---- the line of an N or B ask

line_of : (line : Line) (code : Code) (found : Line) → asked_line_by line code ≡ Some found → line ≡ found
line_of line N found e = cc
line_of line B found e = cc
line_of line D found e = cc
line_of line Z found e = cc
line_of line A found e = cc
line_of line F found e = cc
line_of line C found e = cc
line_of line R found e = cc
line_of line L found e = cc
line_of line K found e = cc
line_of line H found e = cc
line_of line O found e = cc
line_of line U found e = cc
line_of line W found e = cc
line_of line X found e = cc

pub new_fits : (season : Term) (ask : Item) (line : Line) → new_line ask ≡ Some line → ItemFits season ask → LineFits season line
new_fits season (One asked) line e fit = subst (λ (l : Line). LineFits season l) (line_of asked asked.code line e) fit
new_fits season (Pair historic request) line e fit = cc
new_fits season (Query flight) line e fit = cc

by_code : (b : SlotBook) (line : Line) (code : Code) (found : Line) → asked_line_by line code ≡ Some found → line_outcome b line code ≡ new_outcome b line
by_code b line N found e = refl
by_code b line B found e = refl
by_code b line D found e = cc
by_code b line Z found e = cc
by_code b line A found e = cc
by_code b line F found e = cc
by_code b line C found e = cc
by_code b line R found e = cc
by_code b line L found e = cc
by_code b line K found e = cc
by_code b line H found e = cc
by_code b line O found e = cc
by_code b line U found e = cc
by_code b line W found e = cc
by_code b line X found e = cc

pub new_row : (b : SlotBook) (ask : Item) (line : Line) → new_line ask ≡ Some line → outcome b ask ≡ new_outcome b line
new_row b (One asked) line e = by_code b asked asked.code line e ∙ ap (new_outcome b) (line_of asked asked.code line e)
new_row b (Pair historic request) line e = cc
new_row b (Query flight) line e = cc

-- a code that a book does not serve
pub other_code : (b : SlotBook) (line : Line) (code : Code) → (code ≡ N → ⊥) → (code ≡ B → ⊥) → (code ≡ D → ⊥) → (code ≡ Z → ⊥) → (code ≡ A → ⊥) → line_outcome b line code ≡ stays b not_processed
other_code b line N n m d z a = absurd (n refl)
other_code b line B n m d z a = absurd (m refl)
other_code b line D n m d z a = absurd (d refl)
other_code b line Z n m d z a = absurd (z refl)
other_code b line A n m d z a = absurd (a refl)
other_code b line F n m d z a = refl
other_code b line C n m d z a = refl
other_code b line R n m d z a = refl
other_code b line L n m d z a = refl
other_code b line K n m d z a = refl
other_code b line H n m d z a = refl
other_code b line O n m d z a = refl
other_code b line U n m d z a = refl
other_code b line W n m d z a = refl
other_code b line X n m d z a = refl

-- ---- a new line, by the test of its clash

pub new_clash : (b : SlotBook) (line : Line) → clashes_with (season_of b) line b.holdings ≡ true → new_outcome b line ≡ stays b not_processed
new_clash b line e = rw e refl

pub new_free : (b : SlotBook) (line : Line) → clashes_with (season_of b) line b.holdings ≡ false → new_outcome b line ≡ offer_outcome b line (best_times b line)
new_free b line e = rw e refl

-- ---- a room

pub ready : (b : SlotBook) (ask : Item) (step : AskStep) → IsBook (next b ask) → IsAskStep b (outcome b ask) step → IsReadyRoom b ask step.answer step.change
unfolding reply next
ready b ask step book is = record {
  answer_is = is.answer_is;
  some = λ change e.
      let gives = is.some change e in
      let after : next b ask ≡ changed_book b change = ap (with_holdings b) (sym gives.holdings_are) in
      record { is_change = record { edit = gives.edit; book = subst IsBook after book }; after = after };
  none = λ e. ap (with_holdings b) (is.none e);
}
