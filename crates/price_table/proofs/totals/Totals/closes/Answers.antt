use Rattle.std.proofs.Common.{rules, ◌≡◌, ◌∙◌, sym, ap}
use Rattle.price_table.specs.Totals.{TotalsView}
use Rattle.price_table.proofs.totals.Totals.closes.Goals as goal

pub returns-in-Some : goal.returns-in-Some
returns-in-Some c = λ p prices h.
    let scale : c.self.inside.scale ≡ c.args.self.now.scale = ap (λ (v : TotalsView). v.scale) c.self.view_is in
    rw (c.in-Some.is, ← (c.bound-bound.ensures p prices h), ← scale) (search rules)

pub returns-then-self-eq0 : goal.returns-then-self-eq0
returns-then-self-eq0 c = λ p prices h.
    let scale : c.args.self.now.scale ≡ 0 = sym (ap (λ (v : TotalsView). v.scale) c.self.view_is) ∙ c.if-self-eq0.true in
    rw (c.in-None.is, ← (c.bound-bound.ensures p prices h)) (search rules)
