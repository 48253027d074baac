use Rattle.std.proofs.Common.{◌≡◌, ℕ, ◌<◌, Bool, true, false, List, length, subst, ap, ◌∙◌, sym, arith}
use Rattle.holding_book.specs.declared.holding.Holding.{Holding}
use Rattle.holding_book.specs.Asks.{AskOutcome}
use Rattle.holding_book.specs.Private.Steps.{IsAskStep}
use Rattle.std.specs.Prelude.{vec_len, ◌==◌}
use Rattle.std.proofs.lemmas.Grind.{common_steps}
use Rattle.holding_book.specs.declared.answer.Answer.TheVariants.{Listed as listed}
use Rattle.holding_book.specs.Private.Steps.{book_with}
use Rattle.holding_book.specs.Asks.{query_outcome, stays}
use Rattle.holding_book.proofs.RowLemmas.{query-none, query-some}
use Rattle.holding_book.proofs.rows.list_flight.Goals as goal

zero_is : (n : ℕ) (b : Bool) → b ≡ (n == 0) → b ≡ true → n ≡ 0
zero_is n b e t = grind (arith, common_steps)

some_are : (n : ℕ) (b : Bool) → b ≡ (n == 0) → b ≡ false → 0 < n
some_are n b e t = grind (arith, common_steps)

pub returns-then-is_empty : goal.returns-then-is_empty
returns-then-is_empty c = λ d.
    let b = book_with d c.args.holdings.now in
    let found = c.in_ok-found.found in
    let none : vec_len found ≡ 0 = zero_is (vec_len found) c.is_empty.result c.is_empty.ensures c.if-is_empty.true in
    let nothing : length found.items ≡ 0 = omega arith in
    subst (λ (o : AskOutcome). IsAskStep b o c.stays.result) (sym (query-none b c.args.flight.now found.items c.in_ok-found.ensures nothing)) (c.stays.ensures b)

pub returns : goal.returns
returns c = λ d.
    let b = book_with d c.args.holdings.now in
    let found = c.in_ok-found.found in
    let some : 0 < vec_len found = some_are (vec_len found) c.is_empty.result c.is_empty.ensures c.if-is_empty.false in
    let something : 0 < length found.items = omega arith in
    let o : query_outcome b c.args.flight.now ≡ stays b (listed c.new.result) = query-some b c.args.flight.now found.items c.in_ok-found.ensures something ∙ ap (λ (l : List Holding). stays b (listed l)) (sym c.new.ensures) in
    subst (λ (o : AskOutcome). IsAskStep b o c.stays-2.result) (sym o) (c.stays-2.ensures b)
