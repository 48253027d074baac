-- Greatest numbers of days, one day after the other; and lines of starts and of capacity lines, one after the other.
use Rattle.std.proofs.Common.{◌≡◌, ℕ, zero, suc, ◌+◌, ◌*◌, ◌<◌, Bool, true, false, true≢false, List, [], ◌∷◌, ◌++◌, length, drop, add-one, append_assoc, append-nil, Option, Some, None, refl, sym, ◌∙◌, ap, subst, arith, ◌≤◌}
use Rattle.std.specs.Prelude.{codes, IsNone, slice_get, slice_index, nat_lt, if◌then◌else◌, filter, sum_by, All}
use Rattle.std.specs.Fmt.{decimal}
use Rattle.std.specs.List.{range_with_len, flat_map}
use Rattle.std.proofs.lemmas.Bool.{eq-eqb, ne_eqb}
use Rattle.std.proofs.lemmas.List.{drop_all}
use Rattle.std.proofs.lemmas.List.Elements.{filter-append, All-head, All-tail, All-filter}
use Rattle.std.proofs.lemmas.List.FromFn.{length-range_with_len, get_or-range_with_len}
use Rattle.std.proofs.lemmas.Grind.{flat_map-append}
use Rattle.std.proofs.lemmas.Option.{same_Some}
use Rattle.schedule_text.specs.Times.{time_text}
use Rattle.scr_reader.specs.Printed.{day_text}
use Rattle.season_days.specs.Term.{Term}
use Rattle.season_days.specs.Seasons.{date_count, is_on}
use Rattle.season_days.specs.declared.declaration.Rule.{Rule}
use Rattle.season_days.specs.declared.declaration.Night.{Night}
use Rattle.season_days.specs.Capacity.{Capacity, start_of, starts_of, windows_of}
use Rattle.capacity_windows.specs.Windows.{first_of}
use Rattle.report_lines.specs.declared.profile.Peak.{Peak}
use Rattle.report_lines.specs.Peaks.{greatest_from, window_at, rule_days, profile_days, profile_line, rule_profile, quota_profile, profile_from}
use Rattle.report_lines.specs.Private.{HasLoads, IsPeak, with_peak, peak_text, night_text}
use Rattle.report_lines.proofs.WindowLemmas.{line_next, window_there}

-- ---- numbers in a row

range_suc : (a n : ℕ) → range_with_len a (suc n) ≡ range_with_len a n ++ (a + n) ∷ []
range_suc a zero = let e : a ≡ a + 0 = omega arith in ap (λ (k : ℕ). k ∷ []) e
range_suc a (suc n) =
    let e : a + 1 + n ≡ a + suc n = omega arith in
    ap (λ (l : List ℕ). a ∷ l) (range_suc (a + 1) n ∙ ap (λ (k : ℕ). range_with_len (a + 1) n ++ k ∷ []) e)

pub range_more : (n : ℕ) → range_with_len 0 (n + 1) ≡ range_with_len 0 n ++ n ∷ []
range_more n =
    let e : 0 + n ≡ n = omega arith in
    ap (range_with_len 0) (add-one n) ∙ range_suc 0 n ∙ ap (λ (k : ℕ). range_with_len 0 n ++ k ∷ []) e

pub flat_more : {X : Type 0} (f : ℕ → List X) (n : ℕ) → flat_map f (range_with_len 0 (n + 1)) ≡ flat_map f (range_with_len 0 n) ++ f n
flat_more f n = ap (flat_map f) (range_more n) ∙ flat_map-append f (range_with_len 0 n) (n ∷ []) ∙ ap (λ l. flat_map f (range_with_len 0 n) ++ l) (append-nil (f n))

pub range_below : (n : ℕ) → All (λ (k : ℕ). k < n) (range_with_len 0 n)
range_below n = λ k d lt.
    let long = length-range_with_len 0 n in
    let at = get_or-range_with_len 0 n k d (omega (arith, long, lt)) in
    omega (arith, long, lt, at)

-- ---- the first day with the greatest number

pub greatest_more : (f : ℕ → ℕ) (best : ℕ) (days : List ℕ) (day : ℕ) → greatest_from f best (days ++ day ∷ []) ≡ (if nat_lt (f (greatest_from f best days)) (f day) then day else greatest_from f best days)
greatest_more f best [] day = refl
greatest_more f best (x ∷ xs) day = greatest_more f (if nat_lt (f best) (f x) then x else best) xs day

chosen : (P : ℕ → Type 0) (b : Bool) (x y : ℕ) → P x → P y → P (if b then x else y)
chosen P true x y one other = one
chosen P false x y one other = other

pub greatest_in : (f : ℕ → ℕ) (P : ℕ → Type 0) (best : ℕ) (days : List ℕ) → P best → All P days → P (greatest_from f best days)
greatest_in f P best [] it all = it
greatest_in f P best (x ∷ xs) it all = greatest_in f P (if nat_lt (f best) (f x) then x else best) xs (chosen P (nat_lt (f best) (f x)) x best (All-head P x xs all) it) (All-tail P x xs all)

-- ---- the greatest load

abbrev peak_on : (ℕ → ℕ) → ℕ → Peak
peak_on load day = record { day = day; load = load day }

choice_is : (load : ℕ → ℕ) (b : Bool) (x y : ℕ) → (if b then Some (peak_on load x) else Some (peak_on load y)) ≡ Some (peak_on load (if b then x else y))
choice_is load true x y = refl
choice_is load false x y = refl

peak_snoc : (load : ℕ → ℕ) (days : List ℕ) (day : ℕ) (found : Option Peak) → IsPeak load days found → IsPeak load (days ++ day ∷ []) (with_peak found day (load day))
peak_snoc load [] day found is = ap (λ (f : Option Peak). with_peak f day (load day)) is
peak_snoc load (d ∷ ds) day found is =
    let g = greatest_from load d ds in
    ap (λ (f : Option Peak). with_peak f day (load day)) is
    ∙ choice_is load (nat_lt (load g) (load day)) day g
    ∙ sym (ap (λ (k : ℕ). Some (peak_on load k)) (greatest_more load d ds day))

peak_one : (load : ℕ → ℕ) (days : List ℕ) (day : ℕ) (b : Bool) (found : Option Peak) → IsPeak load days found → IsPeak load (days ++ (if b then day ∷ [] else [])) (if b then with_peak found day (load day) else found)
peak_one load days day true found is = peak_snoc load days day found is
peak_one load days day false found is = subst (λ (l : List ℕ). IsPeak load l found) (sym (append-nil days)) is

pub peak_more : (load : ℕ → ℕ) (p : ℕ → Bool) (n value : ℕ) (found : Option Peak) → value ≡ load n → IsPeak load (filter p (range_with_len 0 n)) found → IsPeak load (filter p (range_with_len 0 (n + 1))) (if p n then with_peak found n value else found)
peak_more load p n value found is so_far =
    let days : filter p (range_with_len 0 (n + 1)) ≡ filter p (range_with_len 0 n) ++ (if p n then n ∷ [] else []) = ap (filter p) (range_more n) ∙ filter-append p (range_with_len 0 n) (n ∷ []) in
    subst (λ (l : List ℕ). IsPeak load l (if p n then with_peak found n value else found)) (sym days)
    (subst (λ (v : ℕ). IsPeak load (filter p (range_with_len 0 n) ++ (if p n then n ∷ [] else [])) (if p n then with_peak found n v else found)) (sym is) (peak_one load (filter p (range_with_len 0 n)) n (p n) found so_far))

-- its day is one of those
peak_in : (load : ℕ → ℕ) (P : ℕ → Type 0) (days : List ℕ) (found : Option Peak) (peak : Peak) → All P days → IsPeak load days found → found ≡ Some peak → P peak.day
peak_in load P [] found peak all is some = cc
peak_in load P (d ∷ ds) found peak all is some =
    let g = greatest_from load d ds in
    subst (λ (q : Peak). P q.day) (same_Some (peak_on load g) peak (sym is ∙ some)) (greatest_in load P d ds (All-head P d ds all) (All-tail P d ds all))

pub peak_day : (load : ℕ → ℕ) (p : ℕ → Bool) (n : ℕ) (found : Option Peak) (peak : Peak) → IsPeak load (filter p (range_with_len 0 n)) found → found ≡ Some peak → peak.day < n
peak_day load p n found peak is some = peak_in load (λ (day : ℕ). day < n) (filter p (range_with_len 0 n)) found peak (All-filter p (λ (day : ℕ). day < n) (range_with_len 0 n) (range_below n)) is some

-- ---- the line of a start

days_text_is : (c : Capacity) (load : ℕ → ℕ) (line : ℕ) (rule : Rule) (first start : ℕ) (days : List ℕ) (found : Option Peak) (peak : Peak) → IsPeak (λ (day : ℕ). load (window_at c rule first start day)) days found → found ≡ Some peak
    → peak_text c.season c.step line rule start peak ≡ profile_days c load line rule first start days
days_text_is c load line rule first start [] found peak is some = cc
days_text_is c load line rule first start (d ∷ ds) found peak is some =
    let f : ℕ → ℕ = λ (day : ℕ). load (window_at c rule first start day) in
    let g = greatest_from f d ds in
    ap (λ (q : Peak). peak_text c.season c.step line rule start q) (same_Some peak (peak_on f g) (sym some ∙ is))

pub peak_line : (c : Capacity) (load : ℕ → ℕ) (season : Term) (step line : ℕ) (rule : Rule) (first start : ℕ) (found : Option Peak) (peak : Peak) → season ≡ c.season → step ≡ c.step → IsPeak (λ (day : ℕ). load (window_at c rule first start day)) (rule_days c rule) found → found ≡ Some peak
    → peak_text season step line rule start peak ≡ profile_line c load line rule first start
peak_line c load season step line rule first start found peak is_season is_step is some =
    ap (λ (s : Term). peak_text s step line rule start peak) is_season ∙ ap (λ (s : ℕ). peak_text c.season s line rule start peak) is_step ∙ days_text_is c load line rule first start (rule_days c rule) found peak is some

days_none : (c : Capacity) (load : ℕ → ℕ) (line : ℕ) (rule : Rule) (first start : ℕ) (days : List ℕ) (found : Option Peak) → IsPeak (λ (day : ℕ). load (window_at c rule first start day)) days found → found ≡ None → profile_days c load line rule first start days ≡ []
days_none c load line rule first start [] found is none = refl
days_none c load line rule first start (d ∷ ds) found is none = cc

pub peak_none : (c : Capacity) (load : ℕ → ℕ) (line : ℕ) (rule : Rule) (first start : ℕ) (found : Option Peak) (text : List ℕ) → IsPeak (λ (day : ℕ). load (window_at c rule first start day)) (rule_days c rule) found → found ≡ None
    → text ≡ text ++ profile_line c load line rule first start
peak_none c load line rule first start found text is none = sym (ap (λ (l : List ℕ). text ++ l) (days_none c load line rule first start (rule_days c rule) found is none) ∙ append-nil text)

-- ---- line after line

pub lines_more : (old text new piece : List ℕ) (f : ℕ → List ℕ) (n : ℕ) → text ≡ old ++ flat_map f (range_with_len 0 n) → piece ≡ f n → new ≡ text ++ piece → new ≡ old ++ flat_map f (range_with_len 0 (n + 1))
lines_more old text new piece f n so_far is wrote =
    wrote
    ∙ ap (λ (t : List ℕ). t ++ piece) so_far
    ∙ ap (λ (t : List ℕ). (old ++ flat_map f (range_with_len 0 n)) ++ t) is
    ∙ append_assoc old (flat_map f (range_with_len 0 n)) (f n)
    ∙ ap (λ (t : List ℕ). old ++ t) (sym (flat_more f n))

pub profile_next : (c : Capacity) (load : ℕ → ℕ) (i first next : ℕ) (of : Rule) (text new whole : List ℕ) → slice_get c.rules i ≡ Some of → next ≡ first + windows_of c of → new ≡ text ++ rule_profile c load (i + 1) of first → text ++ profile_from c load (i + 1) (drop i c.rules) first ≡ whole
    → new ++ profile_from c load (i + 1 + 1) (drop (i + 1) c.rules) next ≡ whole
profile_next c load i first next of text new whole at is_next wrote so_far =
    let line : i + 1 + 1 ≡ suc (i + 1) = omega arith in
    let rest = profile_from c load (suc (i + 1)) (drop (i + 1) c.rules) (first + windows_of c of) in
    ap (λ (t : List ℕ). t ++ profile_from c load (i + 1 + 1) (drop (i + 1) c.rules) next) wrote
    ∙ ap (λ (n : ℕ). (text ++ rule_profile c load (i + 1) of first) ++ profile_from c load n (drop (i + 1) c.rules) next) line
    ∙ ap (λ (n : ℕ). (text ++ rule_profile c load (i + 1) of first) ++ profile_from c load (suc (i + 1)) (drop (i + 1) c.rules) n) is_next
    ∙ append_assoc text (rule_profile c load (i + 1) of first) rest
    ∙ ap (λ (rules : List Rule). text ++ profile_from c load (i + 1) rules first) (sym (line_next c.rules i of at))
    ∙ so_far

pub profile_end : (c : Capacity) (load : ℕ → ℕ) (i first : ℕ) (text new whole : List ℕ) → length c.rules ≤ i → first ≡ sum_by (windows_of c) c.rules → new ≡ text ++ quota_profile load c.night (sum_by (windows_of c) c.rules) → text ++ profile_from c load (i + 1) (drop i c.rules) first ≡ whole → new ≡ whole
profile_end c load i first text new whole le is_first wrote so_far =
    wrote
    ∙ ap (λ (n : ℕ). text ++ quota_profile load c.night n) (sym is_first)
    ∙ ap (λ (rules : List Rule). text ++ profile_from c load (i + 1) rules first) (sym (drop_all i c.rules le))
    ∙ so_far

pub quota_is : (load : ℕ → ℕ) (night : Option Night) (r : ℕ) (text : List ℕ) → night ≡ None → text ≡ text ++ quota_profile load night r
quota_is load night r text none = sym (ap (λ (o : Option Night). text ++ quota_profile load o r) none ∙ append-nil text)

-- the line of a quota that is there
pub quota_line : (load : ℕ → ℕ) (night : Option Night) (quota : Night) (r s value : ℕ) → night ≡ Some quota → r ≡ s → value ≡ load r → night_text value quota.limit ≡ quota_profile load night s
quota_line load night quota r s value is number loaded =
    ap (λ (n : ℕ). night_text n quota.limit) (loaded ∙ ap load number) ∙ ap (λ (o : Option Night). quota_profile load o s) (sym is)

pub none_is : (night : Option Night) → IsNone night → night ≡ None
none_is None none = refl
none_is (Some night) none = absurd (true≢false none)

-- ---- as the code has them

pub peak_at : (c : Capacity) (i : ℕ) (of : Rule) (loads : List ℕ) (load : ℕ → ℕ) (season : Term) (days first starts start : ℕ) (found : Option Peak) → slice_get c.rules i ≡ Some of → first ≡ first_of c i → starts ≡ starts_of c.step of → start < starts_of c.step of → season ≡ c.season → days ≡ date_count c.season → HasLoads c loads load
    → ((f : ℕ → ℕ) → ((day : ℕ) → day < days → slice_index loads (first + start + day * starts) ≡ f day) → IsPeak f (filter (is_on season of.days) (range_with_len 0 days)) found)
    → IsPeak (λ (day : ℕ). load (window_at c of first start day)) (rule_days c of) found
peak_at c i of loads load season days first starts start found at is_first is_starts lt is_season is_days has peaks =
    let f : ℕ → ℕ = λ (day : ℕ). load (window_at c of first start day) in
    let same : (day : ℕ) → day < days → slice_index loads (first + start + day * starts) ≡ f day =
    (λ day in_days.
    let row : day * starts ≡ day * starts_of c.step of = ap (λ (n : ℕ). day * n) is_starts in
    let number : first + start + day * starts ≡ window_at c of first start day = omega (arith, row) in
    let there = window_there c i of day start at (omega (arith, in_days, is_days)) lt in
    ap (slice_index loads) number ∙ has (window_at c of first start day) (omega (arith, there, is_first))) in
    subst (λ (n : ℕ). IsPeak f (filter (is_on c.season of.days) (range_with_len 0 n)) found) is_days
    (subst (λ (s : Term). IsPeak f (filter (is_on s of.days) (range_with_len 0 days)) found) is_season (peaks f same))

-- a load of 0 has no line, any other has one
pub peak_text_none : (season : Term) (step line : ℕ) (rule : Rule) (start : ℕ) (peak : Peak) (text : List ℕ) → peak.load ≡ 0 → text ≡ text ++ peak_text season step line rule start peak
peak_text_none season step line rule start peak text none =
    let nothing : peak_text season step line rule start peak ≡ [] = rw (eq-eqb peak.load 0 none) refl in
    sym (ap (λ (l : List ℕ). text ++ l) nothing ∙ append-nil text)

pub peak_text_some : (season : Term) (step line : ℕ) (rule : Rule) (start : ℕ) (peak : Peak) → (peak.load ≡ 0 → ⊥)
    → codes "PROFILE " ++ (decimal line ++ (32 ∷ (time_text (start_of step rule start) ++ (codes " LOAD " ++ (decimal peak.load ++ (codes " LIMIT " ++ (decimal rule.limit ++ (codes " DATE " ++ (day_text season peak.day ++ 10 ∷ []))))))))) ≡ peak_text season step line rule start peak
peak_text_some season step line rule start peak some = sym (rw (ne_eqb peak.load 0 some) refl)

pub peak_step : (load : ℕ → ℕ) (p : ℕ → Bool) (n value : ℕ) (found result : Option Peak) (b : Bool) → value ≡ load n → b ≡ p n → result ≡ (if b then with_peak found n value else found) → IsPeak load (filter p (range_with_len 0 n)) found → IsPeak load (filter p (range_with_len 0 (n + 1))) result
peak_step load p n value found result b is test made so_far =
    subst (IsPeak load (filter p (range_with_len 0 (n + 1)))) (sym (made ∙ ap (λ (t : Bool). if t then with_peak found n value else found) test)) (peak_more load p n value found is so_far)
