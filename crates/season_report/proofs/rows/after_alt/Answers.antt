use Rattle.std.proofs.Common.{◌≡◌, ◌+◌, ◌++◌, ◌∷◌, [], ◌∙◌, sym, ap, subst, arith, List, Some, ℕ}
use Rattle.std.proofs.lemmas.List.{append-nil}
use Rattle.choice_problem.specs.Problems.{resource_count}
use Rattle.season_report.specs.declared.barred.Cheaper.{Cheaper}
use Rattle.season_report.specs.declared.barred.Row.{Row}
use Rattle.season_report.specs.Private.{found_at, found_rows, found_cheaper, row_after, rows_ended, ended_row, next_row, IsUnderWay}
use Rattle.season_report.proofs.FoundLemmas.{found_none, found_one, under_way_on, under_way_next, few_so_far, there_so_far}
use Rattle.season_report.proofs.rows.after_alt.Goals as goal

pub returns-then-own-cost-clause-row : goal.returns-then-own-cost-clause-row
returns-then-own-cost-clause-row c =
    let none : found_at c.args.tried c.args.place c.args.line.now c.args.cost c.args.others.now c.args.alt c.args.times ≡ [] =
    found_none c.args.tried c.args.place c.args.line.now c.args.cost c.args.others.now c.args.alt c.args.times (omega (arith, c.alt_cost-own.ensures.value)) in
    ap (row_after c.args.line.now c.args.row) (sym none)

pub returns-then-own-cost-clause-text : goal.returns-then-own-cost-clause-text
returns-then-own-cost-clause-text c =
    let none : found_at c.args.tried c.args.place c.args.line.now c.args.cost c.args.others.now c.args.alt c.args.times ≡ [] =
    found_none c.args.tried c.args.place c.args.line.now c.args.cost c.args.others.now c.args.alt c.args.times (omega (arith, c.alt_cost-own.ensures.value)) in
    sym (append-nil c.args.out.now.items)
    ∙ ap (λ (alternatives : List Cheaper). c.args.out.now.items ++ found_rows c.args.tried c.args.others.now c.args.line.now (rows_ended c.args.line.now c.args.row alternatives)) (sym none)

pub returns-then-own-cost-clause-under_way : goal.returns-then-own-cost-clause-under_way
returns-then-own-cost-clause-under_way c = under_way_on (resource_count c.args.tried.problem.now) c.args.alt c.args.row c.requires.row

pub next_row-requires-clause-few : goal.next_row-requires-clause-few
next_row-requires-clause-few c = few_so_far (resource_count c.args.tried.problem.now) c.args.alt c.args.row c.requires.few c.requires.row

pub next_row-requires-clause-there : goal.next_row-requires-clause-there
next_row-requires-clause-there c = there_so_far (resource_count c.args.tried.problem.now) c.args.alt c.args.row c.requires.row

pub returns-clause-row : goal.returns-clause-row
returns-clause-row c =
    let one : found_at c.args.tried c.args.place c.args.line.now c.args.cost c.args.others.now c.args.alt c.args.times ≡ found_cheaper c.args.tried c.args.place c.args.line.now c.args.times c.args.alt c.args.others.now ∷ [] =
    found_one c.args.tried c.args.place c.args.line.now c.args.cost c.args.others.now c.args.alt c.args.times (omega (arith, c.alt_cost-own.ensures.value)) in
    ap (λ (r : Row). Some r) (c.in_ok-after.ensures.row ∙ ap (next_row c.args.line.now c.args.row) c.cheaper_of-next.ensures.cheaper)
    ∙ ap (row_after c.args.line.now c.args.row) (sym one)

pub returns-clause-text : goal.returns-clause-text
returns-clause-text c =
    let t = c.args.tried in
    let line = c.args.line.now in
    let others = c.args.others.now in
    let one : found_at t c.args.place line c.args.cost others c.args.alt c.args.times ≡ found_cheaper t c.args.place line c.args.times c.args.alt others ∷ [] =
    found_one t c.args.place line c.args.cost others c.args.alt c.args.times (omega (arith, c.alt_cost-own.ensures.value)) in
    c.in_ok-after.ensures.text
    ∙ ap (λ (ns : List ℕ). c.args.out.now.items ++ found_rows t ns line (ended_row line c.args.row c.cheaper_of-next.result)) c.cheaper_of-next.ensures.others
    ∙ ap (λ (next : Cheaper). c.args.out.now.items ++ found_rows t others line (ended_row line c.args.row next)) c.cheaper_of-next.ensures.cheaper
    ∙ ap (λ (alternatives : List Cheaper). c.args.out.now.items ++ found_rows t others line (rows_ended line c.args.row alternatives)) (sym one)

pub returns-clause-under_way : goal.returns-clause-under_way
returns-clause-under_way c =
    let n = resource_count c.args.tried.problem.now in
    subst (λ (r : Row). IsUnderWay n (c.args.alt + 1) r) (sym c.in_ok-after.ensures.row)
    (under_way_next n c.args.alt c.args.line.now c.args.row c.cheaper_of-next.result c.requires.row c.cheaper_of-next.ensures.there)
