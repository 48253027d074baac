-- Days on which windows are above limits, one day after the other, and their lines.
use Rattle.std.proofs.Common.{◌≡◌, ℕ, suc, ◌+◌, ◌*◌, ◌^◌, ◌<◌, ◌≤◌, Bool, true, false, List, [], ◌∷◌, ◌++◌, length, length-append, drop, append_assoc, append-nil, Option, Some, None, refl, sym, ◌∙◌, ap, subst, arith, inl, inr}
use Rattle.std.specs.Prelude.{codes, slice_get, slice_index, nat_lt, IfSome, if◌then◌else◌, filter, sum_by}
use Rattle.std.specs.Fmt.{decimal}
use Rattle.std.specs.List.{range_with_len}
use Rattle.std.proofs.lemmas.Bool.{cases_lt, lt-ltb, le-ltb}
use Rattle.std.proofs.lemmas.List.{drop_all}
use Rattle.std.proofs.lemmas.List.Elements.{filter-append}
use Rattle.std.proofs.lemmas.Option.{same_Some}
use Rattle.season_days.specs.Term.{Term}
use Rattle.season_days.specs.declared.declaration.Rule.{Rule}
use Rattle.season_days.specs.declared.declaration.Night.{Night}
use Rattle.season_days.specs.Seasons.{date_count}
use Rattle.season_days.specs.Capacity.{Capacity, start_of, starts_of, windows_of}
use Rattle.report_lines.specs.declared.excess.Above.{Above}
use Rattle.report_lines.specs.declared.excess.ExcessLists.{ExcessLists}
use Rattle.report_lines.specs.declared.names.WindowName.TheVariants.{Window}
use Rattle.report_lines.specs.Words.{name_words}
use Rattle.report_lines.specs.Peaks.{Excess, is_above, excess_at, greatest_from, window_at, all_days, days_above, excess_on, excess_days, excess_line, rule_excess, quota_excess, excess_from}
use Rattle.report_lines.specs.Private.{IsExcess, IsAboveOf, IsAbove, AddsDay, with_above, by_at, told_by, above_text, above_night}
use Rattle.report_lines.proofs.WindowLemmas.{line_next}
use Rattle.report_lines.proofs.PeakLemmas.{range_more, greatest_more}

-- ---- one day more

abbrev above_on : (ℕ → ℕ) → ℕ → ℕ → Above
above_on f count day = record { day = day; by = f day; count = count }

chosen_day : (b : Bool) (f : ℕ → ℕ) (x y n : ℕ) → (if b then Some (above_on f n x) else Some (above_on f n y)) ≡ Some (above_on f n (if b then x else y))
chosen_day true f x y n = refl
chosen_day false f x y n = refl

above_snoc : (e : Excess) (at : ℕ → ℕ) (days : List ℕ) (day : ℕ) (found : Option Above) → IsAboveOf e at days found → IsAboveOf e at (days ++ day ∷ []) (with_above found day (excess_at e (at day)))
above_snoc e at [] day found is = ap (λ (f : Option Above). with_above f day (excess_at e (at day))) is
above_snoc e at (d ∷ ds) day found is =
    let f : ℕ → ℕ = λ (other : ℕ). excess_at e (at other) in
    let g = greatest_from f d ds in
    let count : suc (length ds) + 1 ≡ suc (length (ds ++ day ∷ [])) = omega (arith, length-append ds (day ∷ [])) in
    ap (λ (a : Option Above). with_above a day (f day)) is
    ∙ chosen_day (nat_lt (f g) (f day)) f day g (suc (length ds) + 1)
    ∙ ap (λ (k : ℕ). Some (above_on f (suc (length ds) + 1) k)) (sym (greatest_more f d ds day))
    ∙ ap (λ (n : ℕ). Some (above_on f n (greatest_from f d (ds ++ day ∷ [])))) count

pub above_more : (e : Excess) (x : ExcessLists) (at : ℕ → ℕ) (n r : ℕ) (found result : Option Above) → IsExcess e x → r ≡ at n → r < length x.limits.now → AddsDay x found n r result → IsAbove e at (range_with_len 0 n) found → IsAbove e at (range_with_len 0 (n + 1)) result
above_more e x at n r found result are same lt adds so_far =
    let test : ℕ → Bool = λ (day : ℕ). is_above e (at day) in
    let split : filter test (range_with_len 0 (n + 1)) ≡ filter test (range_with_len 0 n) ++ filter test (n ∷ []) = ap (filter test) (range_more n) ∙ filter-append test (range_with_len 0 n) (n ∷ []) in
    let limit : slice_index x.limits.now r ≡ e.limit (at n) = are.limits r lt ∙ ap e.limit same in
    let load : slice_index x.loads.now r ≡ e.load (at n) = are.loads r lt ∙ ap e.load same in
    elim (cases_lt (e.limit (at n)) (e.load (at n))) [
      | inl above ↦
          let one : filter test (n ∷ []) ≡ n ∷ [] = rw (lt-ltb (e.limit (at n)) (e.load (at n)) above) refl in
          let days : filter test (range_with_len 0 (n + 1)) ≡ filter test (range_with_len 0 n) ++ n ∷ [] = split ∙ ap (λ (l : List ℕ). filter test (range_with_len 0 n) ++ l) one in
          let value : by_at x r ≡ excess_at e (at n) = omega (arith, limit, load) in
          let tested : nat_lt (slice_index x.limits.now r) (slice_index x.loads.now r) ≡ true = lt-ltb (slice_index x.limits.now r) (slice_index x.loads.now r) (omega (arith, limit, load, above)) in
          let is : result ≡ with_above found n (excess_at e (at n)) = adds ∙ rw tested refl ∙ ap (λ (k : ℕ). with_above found n k) value in
          subst (λ (l : List ℕ). IsAboveOf e at l result) (sym days)
          (subst (λ (a : Option Above). IsAboveOf e at (filter test (range_with_len 0 n) ++ n ∷ []) a) (sym is) (above_snoc e at (filter test (range_with_len 0 n)) n found so_far))
      | inr within ↦
          let none : filter test (n ∷ []) ≡ [] = rw (le-ltb (e.limit (at n)) (e.load (at n)) within) refl in
          let days : filter test (range_with_len 0 (n + 1)) ≡ filter test (range_with_len 0 n) = split ∙ ap (λ (l : List ℕ). filter test (range_with_len 0 n) ++ l) none ∙ append-nil (filter test (range_with_len 0 n)) in
          let tested : nat_lt (slice_index x.limits.now r) (slice_index x.loads.now r) ≡ false = le-ltb (slice_index x.limits.now r) (slice_index x.loads.now r) (omega (arith, limit, load, within)) in
          let is : result ≡ found = adds ∙ rw tested refl in
          subst (λ (l : List ℕ). IsAboveOf e at l result) (sym days) (subst (λ (a : Option Above). IsAboveOf e at (filter test (range_with_len 0 n)) a) (sym is) so_far)
    ]

-- counts stay small, and days are those that were looked at
pub record IsSmall (found : Option Above) (count days : ℕ) : Type 0 where
  pub counted : IfSome found (λ (above : Above). above.count ≤ count)
  pub within : IfSome found (λ (above : Above). above.day < days)

small_with : (found : Option Above) (day n days by : ℕ) → day < days → IsSmall found n days → IsSmall (with_above found day by) (n + 1) days
small_with None day n days by lt small = let one : 1 ≤ n + 1 = omega arith in record { counted = one; within = lt }
small_with (Some best) day n days by lt small = picked (nat_lt best.by by)
  where
    more : best.count + 1 ≤ n + 1
    more = let few : best.count ≤ n = small.counted in omega (arith, few)

    picked : (b : Bool) → IsSmall (if b then Some (record { day = day; by = by; count = best.count + 1 }) else Some (record best { count = best.count + 1 })) (n + 1) days
    picked true = record { counted = more; within = lt }
    picked false = record { counted = more; within = small.within }

small_later : (found : Option Above) (n days : ℕ) → IsSmall found n days → IsSmall found (n + 1) days
small_later None n days small = record { counted = tt; within = tt }
small_later (Some best) n days small =
    let few : best.count ≤ n = small.counted in
    let more : best.count ≤ n + 1 = omega (arith, few) in
    record { counted = more; within = small.within }

pub small_more : (x : ExcessLists) (found result : Option Above) (day r n days : ℕ) → day < days → AddsDay x found day r result → IsSmall found n days → IsSmall result (n + 1) days
small_more x found result day r n days lt adds small = subst (λ (a : Option Above). IsSmall a (n + 1) days) (sym adds) (picked (nat_lt (slice_index x.limits.now r) (slice_index x.loads.now r)))
  where
    picked : (b : Bool) → IsSmall (if b then with_above found day (by_at x r) else found) (n + 1) days
    picked true = small_with found day n days (by_at x r) lt small
    picked false = small_later found n days small

-- ---- the line of a start

excess_text : (c : Capacity) (e : Excess) (x : ExcessLists) (line : ℕ) (rule : Rule) (first start : ℕ) (days : List ℕ) (found : Option Above) (above : Above) → IsExcess e x → IsAboveOf e (window_at c rule first start) days found → found ≡ Some above → window_at c rule first start above.day < length x.limits.now
    → above_text x c.season line (start_of c.step rule start) (window_at c rule first start above.day) above ≡ excess_days c e line rule first start days
excess_text c e x line rule first start [] found above are is some lt = cc
excess_text c e x line rule first start (d ∷ ds) found above are is some lt =
    let f : ℕ → ℕ = λ (other : ℕ). excess_at e (window_at c rule first start other) in
    let g = greatest_from f d ds in
    let r = window_at c rule first start above.day in
    let best : above ≡ above_on f (suc (length ds)) g = same_Some above (above_on f (suc (length ds)) g) (sym some ∙ is) in
    let name = name_words c.season (Window line above.day (start_of c.step rule start)) in
    let rest : List ℕ → List ℕ = λ (told : List ℕ). name ++ (codes " DAYS " ++ (decimal above.count ++ (told ++ 10 ∷ []))) in
    ap (λ (word : List ℕ). word ++ rest (told_by x r)) are.word
    ∙ append_assoc e.word (32 ∷ []) (rest (told_by x r))
    ∙ ap (λ (told : List ℕ). e.word ++ (32 ∷ rest told)) (are.told r lt)
    ∙ ap (λ (a : Above). excess_on c e line rule first start a.count a.day) best

pub above_line : (c : Capacity) (e : Excess) (x : ExcessLists) (season : Term) (line minute resource : ℕ) (rule : Rule) (first start : ℕ) (found : Option Above) (above : Above) (text new : List ℕ) → IsExcess e x → IsAbove e (window_at c rule first start) (all_days c) found → found ≡ Some above
    → season ≡ c.season → minute ≡ start_of c.step rule start → resource ≡ window_at c rule first start above.day → resource < length x.limits.now → new ≡ text ++ above_text x season line minute resource above → new ≡ text ++ excess_line c e line rule first start
above_line c e x season line minute resource rule first start found above text new are is some is_season is_minute is_resource lt wrote =
    wrote
    ∙ ap (λ (s : Term). text ++ above_text x s line minute resource above) is_season
    ∙ ap (λ (m : ℕ). text ++ above_text x c.season line m resource above) is_minute
    ∙ ap (λ (r : ℕ). text ++ above_text x c.season line (start_of c.step rule start) r above) is_resource
    ∙ ap (λ (t : List ℕ). text ++ t) (excess_text c e x line rule first start (days_above c e rule first start) found above are is some (subst (λ (r : ℕ). r < length x.limits.now) is_resource lt))

no_text : (c : Capacity) (e : Excess) (line : ℕ) (rule : Rule) (first start : ℕ) (days : List ℕ) (found : Option Above) → IsAboveOf e (window_at c rule first start) days found → found ≡ None → excess_days c e line rule first start days ≡ []
no_text c e line rule first start [] found is none = refl
no_text c e line rule first start (d ∷ ds) found is none = cc

pub above_none : (c : Capacity) (e : Excess) (line : ℕ) (rule : Rule) (first start : ℕ) (found : Option Above) (text : List ℕ) → IsAbove e (window_at c rule first start) (all_days c) found → found ≡ None → text ≡ text ++ excess_line c e line rule first start
above_none c e line rule first start found text is none = sym (ap (λ (t : List ℕ). text ++ t) (no_text c e line rule first start (days_above c e rule first start) found is none) ∙ append-nil text)

-- ---- line after line

pub excess_next : (c : Capacity) (e : Excess) (i first next : ℕ) (of : Rule) (text new whole : List ℕ) → slice_get c.rules i ≡ Some of → next ≡ first + windows_of c of → new ≡ text ++ rule_excess c e (i + 1) of first → text ++ excess_from c e (i + 1) (drop i c.rules) first ≡ whole
    → new ++ excess_from c e (i + 1 + 1) (drop (i + 1) c.rules) next ≡ whole
excess_next c e i first next of text new whole at is_next wrote so_far =
    let line : i + 1 + 1 ≡ suc (i + 1) = omega arith in
    let rest = excess_from c e (suc (i + 1)) (drop (i + 1) c.rules) (first + windows_of c of) in
    ap (λ (t : List ℕ). t ++ excess_from c e (i + 1 + 1) (drop (i + 1) c.rules) next) wrote
    ∙ ap (λ (n : ℕ). (text ++ rule_excess c e (i + 1) of first) ++ excess_from c e n (drop (i + 1) c.rules) next) line
    ∙ ap (λ (n : ℕ). (text ++ rule_excess c e (i + 1) of first) ++ excess_from c e (suc (i + 1)) (drop (i + 1) c.rules) n) is_next
    ∙ append_assoc text (rule_excess c e (i + 1) of first) rest
    ∙ ap (λ (rules : List Rule). text ++ excess_from c e (i + 1) rules first) (sym (line_next c.rules i of at))
    ∙ so_far

pub excess_end : (c : Capacity) (e : Excess) (i first : ℕ) (text new whole : List ℕ) → length c.rules ≤ i → first ≡ sum_by (windows_of c) c.rules → new ≡ text ++ quota_excess e c.night (sum_by (windows_of c) c.rules) → text ++ excess_from c e (i + 1) (drop i c.rules) first ≡ whole → new ≡ whole
excess_end c e i first text new whole le is_first wrote so_far =
    wrote
    ∙ ap (λ (n : ℕ). text ++ quota_excess e c.night n) (sym is_first)
    ∙ ap (λ (rules : List Rule). text ++ excess_from c e (i + 1) rules first) (sym (drop_all i c.rules le))
    ∙ so_far

pub quota_none : (e : Excess) (night : Option Night) (r : ℕ) (text : List ℕ) → night ≡ None → text ≡ text ++ quota_excess e night r
quota_none e night r text none = sym (ap (λ (o : Option Night). text ++ quota_excess e o r) none ∙ append-nil text)

-- the quota is not above
pub quota_within : (e : Excess) (x : ExcessLists) (night : Option Night) (quota : Night) (r : ℕ) (text : List ℕ) → night ≡ Some quota → IsExcess e x → r < length x.limits.now → slice_index x.loads.now r ≤ slice_index x.limits.now r → text ≡ text ++ quota_excess e night r
quota_within e x night quota r text is are lt within =
    let none : quota_excess e (Some quota) r ≡ [] = rw (le-ltb (e.limit r) (e.load r) (omega (arith, within, are.limits r lt, are.loads r lt))) refl in
    sym (ap (λ (o : Option Night). text ++ quota_excess e o r) is ∙ ap (λ (t : List ℕ). text ++ t) none ∙ append-nil text)

-- and where it is
pub quota_above : (e : Excess) (x : ExcessLists) (night : Option Night) (quota : Night) (r : ℕ) → night ≡ Some quota → IsExcess e x → r < length x.limits.now → slice_index x.limits.now r < slice_index x.loads.now r
    → above_night x r ≡ quota_excess e night r
quota_above e x night quota r is are lt above =
    let there : quota_excess e (Some quota) r ≡ e.word ++ (codes " NIGHT" ++ (e.told r ++ 10 ∷ [])) = rw (lt-ltb (e.limit r) (e.load r) (omega (arith, above, are.limits r lt, are.loads r lt))) refl in
    ap (λ (word : List ℕ). word ++ (codes "NIGHT" ++ (told_by x r ++ 10 ∷ []))) are.word
    ∙ append_assoc e.word (32 ∷ []) (codes "NIGHT" ++ (told_by x r ++ 10 ∷ []))
    ∙ ap (λ (told : List ℕ). e.word ++ (codes " NIGHT" ++ (told ++ 10 ∷ []))) (are.told r lt)
    ∙ sym there
    ∙ ap (λ (o : Option Night). quota_excess e o r) (sym is)

-- ---- as the code has them

pub above_at : (c : Capacity) (of : Rule) (e : Excess) (days first starts start : ℕ) (found : Option Above) → starts ≡ starts_of c.step of → days ≡ date_count c.season → IsAbove e (λ (day : ℕ). first + day * starts + start) (range_with_len 0 days) found → IsAbove e (window_at c of first start) (all_days c) found
above_at c of e days first starts start found is_starts is_days above =
    subst (λ (n : ℕ). IsAbove e (λ (day : ℕ). first + day * n + start) (all_days c) found) is_starts (subst (λ (n : ℕ). IsAbove e (λ (day : ℕ). first + day * starts + start) (range_with_len 0 n) found) is_days above)

pub small_few : (found : Option Above) (n days : ℕ) → IsSmall found n days → n < 2 ^ 31 → IfSome found (λ (above : Above). above.count < 2 ^ 31)
small_few None n days small few = tt
small_few (Some best) n days small few =
    let counted : best.count ≤ n = small.counted in
    let below : best.count < 2 ^ 31 = omega (arith, counted, few) in
    below
