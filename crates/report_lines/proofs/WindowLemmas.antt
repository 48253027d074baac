-- Capacity lines and the numbers of their windows.
use Rattle.std.proofs.Common.{◌≡◌, ℕ, suc, true, false, true≢false, ◌+◌, ◌-◌, ◌*◌, ◌/◌, ◌%◌, ◌<◌, ◌≤◌, List, ◌∷◌, ◌++◌, length, drop, get_or, append_assoc, Option, Some, None, refl, sym, ◌∙◌, ap, subst, arith}
use Rattle.std.specs.Prelude.{◌↔◌, IsNone, slice_get, IfSome, nat_lt, if◌then◌else◌, is_some, sum_by}
use Rattle.std.proofs.lemmas.Bool.{lt-ltb, le-ltb}
use Rattle.std.proofs.lemmas.Nat.{mul-le, mul-add-lt, div-add-mod', div_below}
use Rattle.std.proofs.lemmas.List.{drop_more, drop_all, take_all}
use Rattle.std.proofs.lemmas.List.Sums.{sum_by_more, sum_by_more_le}
use Rattle.std.proofs.lemmas.Option.{slice_get-get_or, slice_get_within, get_or_from_slice_get}
use Rattle.season_days.specs.Seasons.{date_count}
use Rattle.season_days.specs.declared.declaration.Night.{Night}
use Rattle.season_days.specs.declared.declaration.Rule.{Rule}
use Rattle.season_days.specs.Capacity.{Capacity, declared_resources, start_of, starts_of, windows_of}
use Rattle.capacity_windows.specs.Windows.{first_of}
use Rattle.report_lines.specs.declared.names.WindowName.TheVariants.{Window}
use Rattle.report_lines.specs.Heads.{capacity_line, capacity_lines}
use Rattle.report_lines.specs.Words.{name_from, quota_name, name_of}

-- ---- a capacity line at its place

pub from_some : {X : Type 0} (o : Option X) (x : X) (P : X → Type 0) → o ≡ Some x → IfSome o P → P x
from_some o x P is h = subst (λ q. IfSome q P) is h

pub line_at : (xs ys : List Rule) (i : ℕ) (d : Rule) → xs ≡ ys → i < length ys → slice_get ys i ≡ Some (get_or xs i d)
line_at xs ys i d same lt = ap (λ (zs : List Rule). slice_get zs i) (sym same) ∙ slice_get-get_or xs i d (subst (λ (zs : List Rule). i < length zs) (sym same) lt)

-- from a place on
pub here : {X : Type 0} (xs : List X) (i : ℕ) (x : X) → i < length xs → x ≡ get_or xs i x → drop i xs ≡ x ∷ drop (i + 1) xs
here {X} xs i x lt is = drop_more xs i x lt ∙ ap (λ (y : X). y ∷ drop (i + 1) xs) (sym is)

pub line_next : (ys : List Rule) (i : ℕ) (of : Rule) → slice_get ys i ≡ Some of → drop i ys ≡ of ∷ drop (i + 1) ys
line_next ys i of at =
    drop_more ys i of (slice_get_within ys i of at) ∙ ap (λ (x : Rule). x ∷ drop (i + 1) ys) (get_or_from_slice_get ys i of of at)

-- ---- numbers

-- minutes of a start fit where those of the line do
pub start_fits : (step : ℕ) (rule : Rule) (k : ℕ) → k < starts_of step rule → k * step ≤ rule.to - rule.from
start_fits step rule k lt =
    let q = (rule.to - rule.from) / step in
    let steps : k * step ≤ q * step = mul-le k step q step (omega (arith, lt)) (omega arith) in
    omega (arith, steps, div-add-mod' (rule.to - rule.from) step)

pub first_next : (c : Capacity) (i : ℕ) (of : Rule) → slice_get c.rules i ≡ Some of → first_of c (i + 1) ≡ first_of c i + windows_of c of
first_next c i of at =
    sum_by_more (windows_of c) c.rules i of (slice_get_within c.rules i of at) ∙ ap (λ (x : Rule). first_of c i + windows_of c x) (get_or_from_slice_get c.rules i of of at)

pub first_end : (c : Capacity) (i : ℕ) → length c.rules ≤ i → first_of c i ≡ sum_by (windows_of c) c.rules
first_end c i le = ap (sum_by (windows_of c)) (take_all i c.rules le)

pub first_room : (c : Capacity) (i : ℕ) (of : Rule) → slice_get c.rules i ≡ Some of → first_of c i + windows_of c of ≤ declared_resources c
first_room c i of at =
    let more = sum_by_more_le (windows_of c) c.rules i of (slice_get_within c.rules i of at) in
    let same = ap (windows_of c) (get_or_from_slice_get c.rules i of of at) in
    omega (arith, more, same)

pub window_there : (c : Capacity) (i : ℕ) (of : Rule) (day start : ℕ) → slice_get c.rules i ≡ Some of → day < date_count c.season → start < starts_of c.step of → first_of c i + day * starts_of c.step of + start < declared_resources c
window_there c i of day start at in_season lt =
    let below : day * starts_of c.step of + start < starts_of c.step of * date_count c.season = mul-add-lt day (starts_of c.step of) start (date_count c.season) in_season lt in
    omega (arith, below, first_room c i of at)

pub quota_there : (c : Capacity) (night : Night) → c.night ≡ Some night → declared_resources c ≡ sum_by (windows_of c) c.rules + 1
quota_there c night is = ap (λ (o : Option Night). sum_by (windows_of c) c.rules + (if is_some o then 1 else 0)) is

-- ---- names of windows

pub name_found : (c : Capacity) (i rest starts count resource step : ℕ) (of : Rule) → slice_get c.rules i ≡ Some of → starts ≡ starts_of c.step of → count ≡ windows_of c of → step ≡ c.step → rest < count → name_from c (i + 1) (drop i c.rules) rest ≡ name_of c resource
    → Window (i + 1) (rest / starts) (of.from + rest % starts * step) ≡ name_of c resource
name_found c i rest starts count resource step of at is_starts is_count is_step lt so_far =
    let test : nat_lt rest (windows_of c of) ≡ true = lt-ltb rest (windows_of c of) (omega (arith, lt, is_count)) in
    let here : name_from c (i + 1) (of ∷ drop (i + 1) c.rules) rest ≡ Window (i + 1) (rest / starts_of c.step of) (start_of c.step of (rest % starts_of c.step of)) = rw test refl in
    rw (is_starts, is_step) (sym here ∙ ap (λ (rules : List Rule). name_from c (i + 1) rules rest) (sym (line_next c.rules i of at)) ∙ so_far)

pub name_later : (c : Capacity) (i rest count resource : ℕ) (of : Rule) → slice_get c.rules i ≡ Some of → count ≡ windows_of c of → count ≤ rest → name_from c (i + 1) (drop i c.rules) rest ≡ name_of c resource
    → name_from c (i + 1 + 1) (drop (i + 1) c.rules) (rest - count) ≡ name_of c resource
name_later c i rest count resource of at is_count le so_far =
    let test : nat_lt rest (windows_of c of) ≡ false = le-ltb rest (windows_of c of) (omega (arith, le, is_count)) in
    let here : name_from c (i + 1) (of ∷ drop (i + 1) c.rules) rest ≡ name_from c (suc (i + 1)) (drop (i + 1) c.rules) (rest - windows_of c of) = rw test refl in
    let next : i + 1 + 1 ≡ suc (i + 1) = omega arith in
    ap (λ (n : ℕ). name_from c n (drop (i + 1) c.rules) (rest - count)) next
    ∙ ap (λ (n : ℕ). name_from c (suc (i + 1)) (drop (i + 1) c.rules) (rest - n)) is_count
    ∙ sym here
    ∙ ap (λ (rules : List Rule). name_from c (i + 1) rules rest) (sym (line_next c.rules i of at))
    ∙ so_far

pub name_last : (c : Capacity) (i rest resource : ℕ) → length c.rules ≤ i → name_from c (i + 1) (drop i c.rules) rest ≡ name_of c resource → quota_name c.night rest ≡ name_of c resource
name_last c i rest resource le so_far = sym (ap (λ (rules : List Rule). name_from c (i + 1) rules rest) (drop_all i c.rules le)) ∙ so_far

-- the day of a window
pub day_fits : (rest starts days : ℕ) → 0 < starts → rest < days * starts → rest / starts < days
day_fits rest starts days some lt = div_below rest starts days some lt

-- ---- capacity lines, one after the other

pub capacity_next : (rules : List Rule) (i : ℕ) (rule : Rule) (text : List ℕ) → drop i rules ≡ rule ∷ drop (i + 1) rules → (text ++ capacity_line (i + 1) rule) ++ capacity_lines (i + 1 + 1) (drop (i + 1) rules) ≡ text ++ capacity_lines (i + 1) (drop i rules)
capacity_next rules i rule text is =
    let line : i + 1 + 1 ≡ suc (i + 1) = omega arith in
    ap (λ (n : ℕ). (text ++ capacity_line (i + 1) rule) ++ capacity_lines n (drop (i + 1) rules)) line
    ∙ append_assoc text (capacity_line (i + 1) rule) (capacity_lines (suc (i + 1)) (drop (i + 1) rules))
    ∙ ap (λ (xs : List Rule). text ++ capacity_lines (i + 1) xs) (sym is)

-- ---- as the code has them

pub starts_at : (rules : List Rule) (i : ℕ) (of : Rule) (step result : ℕ) → slice_get rules i ≡ Some of → IfSome (slice_get rules i) (λ (rule : Rule). result ≡ starts_of step rule) → result ≡ starts_of step of
starts_at rules i of step result at starts = from_some (slice_get rules i) of (λ (rule : Rule). result ≡ starts_of step rule) at starts

pub there_at : (c : Capacity) (i : ℕ) (of : Rule) (first starts start days count : ℕ) → slice_get c.rules i ≡ Some of → first ≡ first_of c i → starts ≡ starts_of c.step of → start < starts_of c.step of → days ≡ date_count c.season → count ≡ declared_resources c → (day : ℕ) → day < days → first + day * starts + start < count
there_at c i of first starts start days count at is_first is_starts lt is_days is_count day in_days =
    let row : day * starts ≡ day * starts_of c.step of = ap (λ (n : ℕ). day * n) is_starts in
    let there = window_there c i of day start at (omega (arith, in_days, is_days)) lt in
    omega (arith, there, row, is_first, is_count)

pub next_at : (c : Capacity) (i : ℕ) (of : Rule) (first starts days : ℕ) → slice_get c.rules i ≡ Some of → first ≡ first_of c i → starts ≡ starts_of c.step of → days ≡ date_count c.season → (first + days * starts ≡ first_of c (i + 1)) × (first + days * starts ≤ declared_resources c)
next_at c i of first starts days at is_first is_starts is_days =
    let size : days * starts ≡ windows_of c of = ap (λ (n : ℕ). n * starts) is_days ∙ ap (λ (n : ℕ). date_count c.season * n) is_starts in
    let next = first_next c i of at in
    let room = first_room c i of at in
    (omega (arith, size, next, is_first), omega (arith, size, room, is_first))

pub night_there : (found : Option ℕ) (q : ℕ) (night : Option Night) → found ≡ Some q → (IsNone found ↔ IsNone night) → (quota : Night) × (night ≡ Some quota)
night_there found q None is none = absurd (true≢false (subst IsNone is (none.1 refl)))
night_there found q (Some quota) is none = (quota, refl)
