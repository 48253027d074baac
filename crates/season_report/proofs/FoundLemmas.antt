-- Reasons as they are found: what bars one alternative, the alternatives one after the other, and the
-- counts without one of them.
use Rattle.std.proofs.Common.{◌≡◌, ℕ, zero, suc, ◌+◌, ◌-◌, ◌<◌, ◌≤◌, ◌^◌, Bool, true, false, refl, sym, ◌∙◌, ap, arith, List, [], ◌∷◌, ◌++◌, length, get_or, drop, map, pos}
use Rattle.std.specs.Prelude.{Option, Some, None, All, IfSome, nat_lt, if◌then◌else◌}
use Rattle.std.specs.List.{range_with_len}
use Rattle.std.proofs.lemmas.Bool.{le-ltb, lt-ltb}
use Rattle.std.proofs.lemmas.List.{drop_more, drop_all}
use Rattle.std.proofs.lemmas.List.Elements.{All-head, All-filter}
use Rattle.std.proofs.lemmas.Grind.{same_number_lists}
use Rattle.choice_problem.specs.declared.problems.TheConstants.{MOST_USES}
use Rattle.choice_problem.specs.Problems.{ProblemView, alt_cost, alt_uses, resource_count}
use Rattle.choice_problem.specs.Counts.{GrowsBy, HasRoom, HasUses}
use Rattle.window_counts.specs.Placed.{KeepsLimits}
use Rattle.scr_reader.specs.declared.line.Line.{Line}
use Rattle.series_model.specs.declared.times.Times.{Times}
use Rattle.series_model.specs.declared.times.Times.TheVariants.{Refused, At}
use Rattle.series_model.specs.Options.{TimesFit}
use Rattle.season_report.specs.declared.barred.Barred.{Barred}
use Rattle.season_report.specs.declared.barred.Cheaper.{Cheaper}
use Rattle.season_report.specs.declared.barred.Row.{Row}
use Rattle.season_report.specs.declared.told.Tried.{Tried}
use Rattle.season_report.specs.Reasons.{barred_dates}
use Rattle.season_report.specs.Rows.{joins, one_row, with_dates, with_next}
use Rattle.season_report.specs.Private.{IsSettled, IsLowest, IsUnderWay, TimesAreNear, is_above_with, resources_above, found_passed, found_barred, found_reason, found_cheaper, found_at, found_from, found_row, found_rows, rows_on, next_row, row_after, rows_ended}
use Rattle.season_report.proofs.LowestLemmas.{above_found, none_found, first_found}
use Rattle.season_report.proofs.RowLemmas.{text_more}
use Rattle.season_report.proofs.BesideLemmas.{all_below}

-- ---- what bars one alternative

pub reason_none : (t : Tried) (place : ℕ) (line : Line) (times : Times) (alt : ℕ) (others counts : List ℕ) → KeepsLimits t.problem.now others → GrowsBy others counts (λ r. alt_uses t.problem.now place alt r) →
    length counts ≡ resource_count t.problem.now → IsLowest counts (map pos t.problem.now.limits) (λ r. 0 < alt_uses t.problem.now place alt r) None →
    None ≡ found_reason t place line times alt others
reason_none t place line times alt others counts keeps grown same none =
    ap (found_barred t place line times alt) (sym (none_found t.problem.now place alt others counts keeps grown same none))

pub reason_some : (t : Tried) (place : ℕ) (line : Line) (times : Times) (alt lowest uses dates : ℕ) (others counts : List ℕ) → KeepsLimits t.problem.now others → GrowsBy others counts (λ r. alt_uses t.problem.now place alt r) →
    length counts ≡ resource_count t.problem.now → IsLowest counts (map pos t.problem.now.limits) (λ r. 0 < alt_uses t.problem.now place alt r) (Some lowest) →
    uses ≡ alt_uses t.problem.now place alt lowest → dates ≡ barred_dates t.declaration.now line times (resources_above counts (map pos t.problem.now.limits)) →
    Some (record { resource = lowest; uses = uses; dates = dates }) ≡ found_reason t place line times alt others
reason_some t place line times alt lowest uses dates others counts keeps grown same low used on =
    let p = t.problem.now in
    let found = first_found p place alt lowest others counts keeps grown same low in
    let all : resources_above counts (map pos p.limits) ≡ lowest ∷ found.0 = above_found p place alt others counts grown keeps.length same ∙ found.1 in
    let days : dates ≡ barred_dates t.declaration.now line times (lowest ∷ found.0) = on ∙ ap (barred_dates t.declaration.now line times) all in
    ap (λ (n : ℕ). Some (record { resource = lowest; uses = n; dates = dates })) used
    ∙ ap (λ (n : ℕ). Some (record { resource = lowest; uses = alt_uses p place alt lowest; dates = n })) days
    ∙ ap (found_barred t place line times alt) (sym found.1)

-- ---- counts within the limits have room

pub has_room : (t : Tried) (counts : List ℕ) → IsSettled t → KeepsLimits t.problem.now counts → HasRoom counts (λ r. MOST_USES)
has_room t counts settled keeps r lt =
    let there : r < resource_count t.problem.now = omega (arith, lt, keeps.length) in
    omega (arith, keeps.within r there, settled.limits r there)

pub fewer_keep : (p : ProblemView) (counts fewer : List ℕ) (uses : ℕ → ℕ) → KeepsLimits p counts → length fewer ≡ length counts → GrowsBy fewer counts uses → KeepsLimits p fewer
fewer_keep p counts fewer uses keeps same grown = record {
  length = omega (arith, same, keeps.length);
  within = λ r lt. omega (arith, keeps.within r lt, grown r (omega (arith, lt, same, keeps.length)));
}

-- taken away again, and added again
pub same_again : (old mid new : List ℕ) (uses : ℕ → ℕ) → length mid ≡ length old → length new ≡ length mid → GrowsBy old mid uses → GrowsBy new mid uses → new ≡ old
same_again old mid new uses one other up down =
    same_number_lists new old (omega (arith, one, other)) (λ r lt. omega (arith, up r (omega (arith, lt, one, other)), down r lt))

pub one_more_again : (old mid new : List ℕ) (uses : ℕ → ℕ) → length mid ≡ length old → length new ≡ length mid → GrowsBy mid old uses → GrowsBy mid new uses → new ≡ old
one_more_again old mid new uses one other down up =
    same_number_lists new old (omega (arith, one, other)) (λ r lt. omega (arith, up r (omega (arith, lt, other)), down r (omega (arith, lt, other))))

-- ---- one alternative more

found_here : (t : Tried) (place : ℕ) (line : Line) (cost : ℕ) (others : List ℕ) (options : List Times) (i : ℕ) (d : Times) → i < length options →
    found_from t place line cost others i (drop i options) ≡ found_at t place line cost others i (get_or options i d) ++ found_from t place line cost others (i + 1) (drop (i + 1) options)
found_here t place line cost others options i d lt =
    let next : suc i ≡ i + 1 = omega arith in
    ap (found_from t place line cost others i) (drop_more options i d lt)
    ∙ ap (λ (k : ℕ). found_at t place line cost others i (get_or options i d) ++ found_from t place line cost others k (drop (i + 1) options)) next

-- ---- where none costs less

pub none_cheaper : (t : Tried) (place : ℕ) (line : Line) (cost : ℕ) (others : List ℕ) (alt : ℕ) (options : List Times) →
    ((k : ℕ) → k < alt + length options → cost ≤ alt_cost t.problem.now place k) → found_from t place line cost others alt options ≡ []
none_cheaper t place line cost others alt [] none = refl
none_cheaper t place line cost others alt (times ∷ options) none =
    let rest : found_from t place line cost others (suc alt) options ≡ [] = none_cheaper t place line cost others (suc alt) options (λ k lt. none k (omega arith)) in
    ap (λ (b : Bool). (if b then found_cheaper t place line times alt others ∷ [] else []) ++ found_from t place line cost others (suc alt) options)
    (le-ltb (alt_cost t.problem.now place alt) cost (none alt (omega arith)))
    ∙ rest

-- ---- counts without an alternative

abbrev pub less : List ℕ → (ℕ → ℕ) → ℕ → List ℕ
less [] uses k = []
less (n ∷ counts) uses k = (n - uses k) ∷ less counts uses (suc k)

pub less_length : (counts : List ℕ) (uses : ℕ → ℕ) (k : ℕ) → length (less counts uses k) ≡ length counts
less_length [] uses k = refl
less_length (n ∷ counts) uses k = ap suc (less_length counts uses (suc k))

less_at : (counts : List ℕ) (uses : ℕ → ℕ) (k r : ℕ) → r < length counts → get_or (less counts uses k) r 0 ≡ get_or counts r 0 - uses (k + r)
less_at [] uses k r lt = absurd (omega arith)
less_at (n ∷ counts) uses k zero lt = let same : k ≡ k + 0 = omega arith in ap (λ (j : ℕ). n - uses j) same
less_at (n ∷ counts) uses k (suc r) lt =
    let same : suc k + r ≡ k + suc r = omega arith in
    less_at counts uses (suc k) r (omega arith) ∙ ap (λ (j : ℕ). get_or counts r 0 - uses j) same

pub less_grows : (counts : List ℕ) (uses : ℕ → ℕ) → HasUses counts uses → GrowsBy (less counts uses 0) counts uses
less_grows counts uses has r lt =
    let there : r < length counts = omega (arith, lt, less_length counts uses 0) in
    let same : 0 + r ≡ r = omega arith in
    let at : get_or (less counts uses 0) r 0 ≡ get_or counts r 0 - uses r = less_at counts uses 0 r there ∙ ap (λ (j : ℕ). get_or counts r 0 - uses j) same in
    omega (arith, at, has r there)

pub same_less : (counts one other : List ℕ) (uses : ℕ → ℕ) → length one ≡ length counts → length other ≡ length counts → GrowsBy one counts uses → GrowsBy other counts uses → one ≡ other
same_less counts one other uses first second up down =
    same_number_lists one other (omega (arith, first, second)) (λ r lt. omega (arith, up r lt, down r (omega (arith, lt, first, second))))

-- ---- the resource that bars one is there

barred_there : (t : Tried) (place : ℕ) (line : Line) (times : Times) (alt n : ℕ) (resources : List ℕ) → All (λ r. r < n) resources → IfSome (found_barred t place line times alt resources) (λ (b : Barred). b.resource < n)
barred_there t place line times alt n [] all = tt
barred_there t place line times alt n (r ∷ resources) all = All-head (λ q. q < n) r resources all

pub found_there : (t : Tried) (place : ℕ) (line : Line) (times : Times) (alt : ℕ) (others : List ℕ) → IfSome (found_reason t place line times alt others) (λ (b : Barred). b.resource < resource_count t.problem.now)
found_there t place line times alt others =
    let n = resource_count t.problem.now in
    barred_there t place line times alt n (found_passed t.problem.now place alt others)
    (All-filter (is_above_with t.problem.now place alt others) (λ r. r < n) (range_with_len 0 n) (λ k e lt. let below = all_below 0 n k e lt in omega (arith, below)))

-- ---- one alternative, told where it costs less

pub found_none : (t : Tried) (place : ℕ) (line : Line) (cost : ℕ) (others : List ℕ) (alt : ℕ) (times : Times) → cost ≤ alt_cost t.problem.now place alt → found_at t place line cost others alt times ≡ []
found_none t place line cost others alt times le =
    ap (λ (b : Bool). if b then found_cheaper t place line times alt others ∷ [] else []) (le-ltb (alt_cost t.problem.now place alt) cost le)

pub found_one : (t : Tried) (place : ℕ) (line : Line) (cost : ℕ) (others : List ℕ) (alt : ℕ) (times : Times) → alt_cost t.problem.now place alt < cost → found_at t place line cost others alt times ≡ found_cheaper t place line times alt others ∷ []
found_one t place line cost others alt times lt =
    ap (λ (b : Bool). if b then found_cheaper t place line times alt others ∷ [] else []) (lt-ltb (alt_cost t.problem.now place alt) cost lt)

-- ---- the line under way

pub under_way_on : (n alt : ℕ) (row : Option Row) → IfSome row (IsUnderWay n alt) → IfSome row (IsUnderWay n (alt + 1))
under_way_on n alt None is = tt
under_way_on n alt (Some row) is = record { few = omega (arith, is.few); there = is.there }

pub few_so_far : (n alt : ℕ) (row : Option Row) → alt < 2 ^ 31 → IfSome row (IsUnderWay n alt) → IfSome row (λ (r : Row). r.count < 2 ^ 31)
few_so_far n alt None few is = tt
few_so_far n alt (Some row) few is = omega (arith, few, is.few)

pub there_so_far : (n alt : ℕ) (row : Option Row) → IfSome row (IsUnderWay n alt) → IfSome row (λ (r : Row). IfSome r.barred (λ (b : Barred). b.resource < n))
there_so_far n alt None is = tt
there_so_far n alt (Some row) is = is.there

dates_there : (n : ℕ) (one other : Option Barred) → IfSome one (λ (b : Barred). b.resource < n) → IfSome (with_dates one other) (λ (b : Barred). b.resource < n)
dates_there n None other is = tt
dates_there n (Some one) None is = is
dates_there n (Some one) (Some other) is = is

under_way_by : (n alt : ℕ) (row : Row) (next : Cheaper) (b : Bool) → IsUnderWay n alt row → IfSome next.barred (λ (barred : Barred). barred.resource < n) → IsUnderWay n (alt + 1) (if b then with_next row next else one_row next)
under_way_by n alt row next true is there = record { few = omega (arith, is.few); there = dates_there n row.barred next.barred is.there }
under_way_by n alt row next false is there = record { few = omega arith; there = there }

pub under_way_next : (n alt : ℕ) (line : Line) (row : Option Row) (next : Cheaper) → IfSome row (IsUnderWay n alt) → IfSome next.barred (λ (barred : Barred). barred.resource < n) → IsUnderWay n (alt + 1) (next_row line row next)
under_way_next n alt line None next is there = record { few = omega arith; there = there }
under_way_next n alt line (Some row) next is there = under_way_by n alt row next (joins line row next) is there

-- ---- the text so far and that of what is left

pub options_next : (t : Tried) (place : ℕ) (line : Line) (cost : ℕ) (options : List Times) (i : ℕ) (d : Times) (row after_row : Option Row) (others now before after whole : List ℕ) → i < length options → now ≡ others →
    after_row ≡ row_after line row (found_at t place line cost others i (get_or options i d)) →
    after ≡ before ++ found_rows t others line (rows_ended line row (found_at t place line cost others i (get_or options i d))) →
    before ++ found_rows t others line (rows_on line row (found_from t place line cost others i (drop i options))) ≡ whole →
    after ++ found_rows t now line (rows_on line after_row (found_from t place line cost now (i + 1) (drop (i + 1) options))) ≡ whole
options_next t place line cost options i d row after_row others now before after whole lt same rows text so_far =
    let times : Times = get_or options i d in
    let next = found_cheaper t place line times i others in
    let there : Bool = nat_lt (alt_cost t.problem.now place i) cost in
    let rest = found_from t place line cost others (i + 1) (drop (i + 1) options) in
    let here : found_from t place line cost others i (drop i options) ≡ found_at t place line cost others i times ++ rest = found_here t place line cost others options i d lt in
    ap (λ (ns : List ℕ). after ++ found_rows t ns line (rows_on line after_row (found_from t place line cost ns (i + 1) (drop (i + 1) options)))) same
    ∙ ap (λ (r : Option Row). after ++ found_rows t others line (rows_on line r rest)) rows
    ∙ text_more (found_row t others line) line row there next rest before after text
    ∙ ap (λ (alternatives : List Cheaper). before ++ found_rows t others line (rows_on line row alternatives)) (sym here)
    ∙ so_far

pub options_end : (t : Tried) (place : ℕ) (line : Line) (cost : ℕ) (options : List Times) (i : ℕ) (row : Option Row) (others before whole : List ℕ) → length options ≤ i →
    before ++ found_rows t others line (rows_on line row (found_from t place line cost others i (drop i options))) ≡ whole → before ++ found_rows t others line (rows_on line row []) ≡ whole
options_end t place line cost options i row others before whole past so_far =
    ap (λ (its : List Times). before ++ found_rows t others line (rows_on line row (found_from t place line cost others i its))) (sym (drop_all i options past)) ∙ so_far

-- times of alternatives are near

near_one : (price : Option ℕ) (times : Times) → TimesFit price times → TimesAreNear times
near_one price Refused fits = tt
near_one price (At arrival departure) fits = fits

pub near_all : (price : Option ℕ) (options : List Times) → All (TimesFit price) options → All TimesAreNear options
near_all price options all k e lt = near_one price (get_or options k e) (all k e lt)
