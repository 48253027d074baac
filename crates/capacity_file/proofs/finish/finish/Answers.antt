use Rattle.std.proofs.Common.{◌≡◌, ℕ, ◌%◌, ◌≤◌, inl, sym, ap, ◌∙◌, arith}
use Rattle.capacity_file.proofs.FinishLemmas.{missing, uneven, over, made}
use Rattle.capacity_file.proofs.finish.finish.Goals as goal

pub returns-in-Err : goal.returns-in-Err
returns-in-Err c = λ lines k. inl (missing lines c.args.draft.singles c.args.draft.rules.items c.in-Err.name k c.in-Err.ensures)

pub returns-then-needed-from-ne0 : goal.returns-then-needed-from-ne0
returns-then-needed-from-ne0 c = λ lines k.
    inl (uneven lines c.args.draft.singles c.args.draft.rules.items c.in-Ok.needed k c.in-Ok.ensures (λ even. c.if-needed-from-ne0.true (ap (λ (m : ℕ). c.in-Ok.needed.flex.minutes % m) c.from.ensures ∙ even)))

pub returns-in-Some : goal.returns-in-Some
returns-in-Some c = λ lines k.
    let even : c.in-Ok.needed.flex.minutes % c.in-Ok.needed.step ≡ 0 = ap (λ (m : ℕ). c.in-Ok.needed.flex.minutes % m) (sym c.from.ensures) ∙ c.if-needed-from-ne0.false in
    let passed = rw c.deref.ensures.value at c.in-Some.ensures in
    inl (over lines c.args.draft.singles c.args.draft.rules.items c.in-Ok.needed c.in-Some.name c.in-Some.number k c.in-Ok.ensures even passed)

pub overflow_cast-result : goal.overflow_cast-result
overflow_cast-result c = let small : c.in-Ok.needed.flex.minutes ≤ 120 = c.in_default.ensures.flex in omega arith

pub returns : goal.returns
returns c = λ lines k.
    let even : c.in-Ok.needed.flex.minutes % c.in-Ok.needed.step ≡ 0 = ap (λ (m : ℕ). c.in-Ok.needed.flex.minutes % m) (sym c.from.ensures) ∙ c.if-needed-from-ne0.false in
    let within = rw c.deref.ensures.value at c.in_default.ensures in
    rw (c.unwrap_or.ensures, c.new.ensures) (made lines c.args.draft.singles c.args.draft.rules.items c.in-Ok.needed k c.in-Ok.ensures even within)
