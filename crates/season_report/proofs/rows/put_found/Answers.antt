use Rattle.std.proofs.Common.{◌≡◌, ◌++◌, ◌∙◌, refl, sym, ap, subst, arith, List, ℕ, length}
use Rattle.std.proofs.lemmas.List.{append-nil}
use Rattle.choice_problem.specs.Problems.{alt_uses, alt_cost}
use Rattle.choice_problem.specs.Counts.{GrowsBy}
use Rattle.window_counts.specs.Placed.{KeepsLimits}
use Rattle.series_model.specs.Options.{options_of}
use Rattle.season_report.specs.declared.barred.Cheaper.{Cheaper}
use Rattle.season_report.specs.Rows.{rows_of}
use Rattle.season_report.specs.Private.{found_reasons, found_rows}
use Rattle.season_report.proofs.FoundLemmas.{none_cheaper, fewer_keep, has_room, one_more_again, same_less}
use Rattle.season_report.proofs.rows.put_found.Goals as goal

pub returns-then-not-has_cheaper-clause-text : goal.returns-then-not-has_cheaper-clause-text
returns-then-not-has_cheaper-clause-text c = λ others same grown.
    let t = c.args.tried in
    let line = c.args.unit.now.request in
    let none = none_cheaper t c.args.place line (alt_cost t.problem.now c.args.place c.args.taken) others 0 (options_of t.declaration.now c.args.unit.now)
    (λ k lt. omega (arith, c.alt_cost-cost.ensures.value, c.if-not-has_cheaper.ensures refl k (omega (arith, lt, c.requires.placed.options)))) in
    sym (append-nil c.args.out.now.items)
    ∙ ap (λ (alternatives : List Cheaper). c.args.out.now.items ++ found_rows t others line (rows_of line alternatives)) (sym none)

pub put_cheaper-requires-clause-within : goal.put_cheaper-requires-clause-within
put_cheaper-requires-clause-within c =
    fewer_keep c.args.tried.problem.now c.args.counts.now c.take_alt.new.counts (λ r. alt_uses c.args.tried.problem.now c.args.place c.args.taken r) c.requires.within c.take_alt.ensures.length c.take_alt.ensures.taken

pub add_alt-requires-clause-counts : goal.add_alt-requires-clause-counts
add_alt-requires-clause-counts c =
    ap (λ (ns : List ℕ). length ns) c.in_ok-put_cheaper.ensures.others ∙ c.take_alt.ensures.length ∙ c.requires.within.length

pub add_alt-requires-clause-room : goal.add_alt-requires-clause-room
add_alt-requires-clause-room c =
    let p = c.args.tried.problem.now in
    let keeps = fewer_keep p c.args.counts.now c.take_alt.new.counts (λ r. alt_uses p c.args.place c.args.taken r) c.requires.within c.take_alt.ensures.length c.take_alt.ensures.taken in
    has_room c.args.tried c.put_cheaper.new.others c.requires.settled (subst (KeepsLimits p) (sym c.in_ok-put_cheaper.ensures.others) keeps)

pub returns-clause-text : goal.returns-clause-text
returns-clause-text c = λ others same grown.
    let t = c.args.tried in
    let unit = c.args.unit.now in
    let options = options_of t.declaration.now unit in
    let lists : c.take_alt.new.counts ≡ others = same_less c.args.counts.now c.take_alt.new.counts others (λ r. alt_uses t.problem.now c.args.place c.args.taken r) c.take_alt.ensures.length same c.take_alt.ensures.taken grown in
    c.in_ok-put_cheaper.ensures.text
    ∙ ap (λ (ns : List ℕ). c.args.out.now.items ++ found_reasons t c.args.place unit.request c.alt_cost-cost.result ns options) lists
    ∙ ap (λ (n : ℕ). c.args.out.now.items ++ found_reasons t c.args.place unit.request n others options) c.alt_cost-cost.ensures.value

pub returns-clause-counts : goal.returns-clause-counts
returns-clause-counts c =
    let uses : ℕ → ℕ = λ (r : ℕ). alt_uses c.args.tried.problem.now c.args.place c.args.taken r in
    let back = c.in_ok-put_cheaper.ensures.others in
    one_more_again c.args.counts.now c.take_alt.new.counts c.add_alt.new.counts uses c.take_alt.ensures.length
    (c.add_alt.ensures.length ∙ ap (λ (ns : List ℕ). length ns) back)
    c.take_alt.ensures.taken
    (subst (λ (ns : List ℕ). GrowsBy ns c.add_alt.new.counts uses) back c.add_alt.ensures.added)
