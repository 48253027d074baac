use Rattle.std.proofs.Common.{◌≡◌, ℕ, ◌+◌, ◌*◌, ◌/◌, sym, ◌∙◌, ap, arith, get_or}
use Rattle.season_days.specs.declared.declaration.Kind.TheVariants.{Arr}
use Rattle.season_days.specs.declared.declaration.Rule.{Rule}
use Rattle.season_days.specs.Capacity.{Capacity, starts_of}
use Rattle.season_days.specs.Seasons.{date_count}
use Rattle.std.proofs.lemmas.Nat.{mod_below}
use Rattle.report_lines.specs.declared.names.WindowName.TheVariants.{Window}
use Rattle.report_lines.proofs.WindowLemmas.{line_at, starts_at, name_found, name_later, day_fits}
use Rattle.report_lines.proofs.names.name_of.Goals as goal

-- what stands past the end of the capacity lines
abbrev no_rule : Rule
no_rule = record { kind = Arr; length = 0; from = 0; to = 0; days = 0; limit = 0 }

pub returns-then-rest-count-clause-name : goal.returns-then-rest-count-clause-name
returns-then-rest-count-clause-name c =
    let k = c.args.windows.now in
    let line = c.loop-line.line in
    let same = c.items-rules.ensures ∙ ap (λ (q : Capacity). q.rules) (sym c.requires) in
    let at = line_at c.items-rules.result.now k.rules line no_rule same (omega (arith, c.loop-line-test.true, c.lines-line-end.ensures.count)) in
    let starts = starts_at k.rules line (get_or c.items-rules.result.now line no_rule) k.step c.starts-starts.result at c.starts-starts.ensures.starts in
    let size = ap (λ (n : ℕ). n * c.starts-starts.result) c.days.ensures.value ∙ ap (λ (n : ℕ). date_count k.season * n) starts in
    ap (λ (m : ℕ). Window (line + 1) (c.loop-line.rest / c.starts-starts.result) m) c.minute_of.ensures
    ∙ name_found k line c.loop-line.rest c.starts-starts.result _ c.args.resource c.args.declaration.now.step (get_or c.items-rules.result.now line no_rule) at starts size (ap (λ (q : Capacity). q.step) (sym c.requires)) c.if-rest-count.true c.loop-line.invariant

pub returns-then-rest-count-clause-day : goal.returns-then-rest-count-clause-day
returns-then-rest-count-clause-day c =
    let k = c.args.windows.now in
    let line = c.loop-line.line in
    let same = c.items-rules.ensures ∙ ap (λ (q : Capacity). q.rules) (sym c.requires) in
    let at = line_at c.items-rules.result.now k.rules line no_rule same (omega (arith, c.loop-line-test.true, c.lines-line-end.ensures.count)) in
    let starts = starts_at k.rules line (get_or c.items-rules.result.now line no_rule) k.step c.starts-starts.result at c.starts-starts.ensures.starts in
    let fits = day_fits c.loop-line.rest c.starts-starts.result c.days.result (omega (arith, starts)) c.if-rest-count.true in
    omega (arith, fits, c.days.ensures.value)

pub loop-line-preserved : goal.loop-line-preserved
loop-line-preserved c =
    let k = c.args.windows.now in
    let line = c.loop-line.line in
    let same = c.items-rules.ensures ∙ ap (λ (q : Capacity). q.rules) (sym c.requires) in
    let at = line_at c.items-rules.result.now k.rules line no_rule same (omega (arith, c.loop-line-test.true, c.lines-line-end.ensures.count)) in
    let starts = starts_at k.rules line (get_or c.items-rules.result.now line no_rule) k.step c.starts-starts.result at c.starts-starts.ensures.starts in
    let size = ap (λ (n : ℕ). n * c.starts-starts.result) c.days.ensures.value ∙ ap (λ (n : ℕ). date_count k.season * n) starts in
    name_later k line c.loop-line.rest _ c.args.resource (get_or c.items-rules.result.now line no_rule) at size c.if-rest-count.false c.loop-line.invariant

pub minute_of-requires : goal.minute_of-requires
minute_of-requires c =
    let k = c.args.windows.now in
    let line = c.loop-line.line in
    let same = c.items-rules.ensures ∙ ap (λ (q : Capacity). q.rules) (sym c.requires) in
    let at = line_at c.items-rules.result.now k.rules line no_rule same (omega (arith, c.loop-line-test.true, c.lines-line-end.ensures.count)) in
    let starts = starts_at k.rules line (get_or c.items-rules.result.now line no_rule) k.step c.starts-starts.result at c.starts-starts.ensures.starts in
    let step = ap (λ (q : Capacity). q.step) c.requires in
    let below = mod_below c.loop-line.rest c.starts-starts.result (omega (arith, starts)) in
    let here : starts_of k.step (get_or c.items-rules.result.now line no_rule) ≡ starts_of c.args.declaration.now.step (get_or c.items-rules.result.now line no_rule) = ap (λ (n : ℕ). starts_of n (get_or c.items-rules.result.now line no_rule)) step in
    omega (arith, below, starts, here)
