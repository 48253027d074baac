-- The windows of a rule: two bands, one of the movement's day and one of the day before, hold what the rule's windows hold.
use Rattle.std.proofs.Common.{◌≡◌, ℕ, ◌+◌, ◌-◌, ◌*◌, ◌/◌, ◌%◌, ◌<◌, ◌≤◌, min, Bool, true, false, ◌&&◌, leb, ltb, eqb, refl, sym, ◌∙◌, ap, arith, inl, inr, ◌⊎◌}
use Rattle.std.proofs.lemmas.Bool.{lt-ltb, le-ltb, le-leb, lt-leb, eq-eqb, ne_eqb, cases_lt, cases_eq, cases_order, leb-true, ltb-true, and_left, and_right}
use Rattle.std.proofs.lemmas.Bool.Decides.{nat_tests}
use Rattle.std.proofs.lemmas.Nat.{mul-le, div-add-mod', mod_below}
use Rattle.season_days.specs.Term.{Term}
use Rattle.season_days.specs.Seasons.{date_count, is_on}
use Rattle.season_days.specs.declared.day.Period.{Period}
use Rattle.season_days.specs.declared.declaration.Kind.{Kind}
use Rattle.season_days.specs.declared.declaration.Rule.{Rule}
use Rattle.capacity_windows.specs.declared.band.Band.{Band}
use Rattle.capacity_windows.specs.declared.resource.Resource.TheVariants.{Window}
use Rattle.capacity_windows.specs.Windows.{Capacity, IsRule, starts_of, windows_of, start_of, holds, resource_load, is_of_kind, movement_on, stop_movements}
use Rattle.capacity_windows.specs.Bands.{starts_until, is_date, is_in_band, uses_band, band_uses, band_of, rule_load, IsBand}
use Rattle.capacity_windows.proofs.LoadLemmas.{count_dates}
use Rattle.finite_sums.proofs.SumLemmas.{count_below-none}
use Rattle.capacity_windows.proofs.CountLemmas.{one_if, count_below-parts}

-- the starts up to a minute
until_is : (first step minute k : ℕ) → 0 < step → ltb k (starts_until first step minute) ≡ leb (first + k * step) minute
until_is first step minute k some =
    elim (cases_lt minute first) [
      | inl early ↦ rw (lt-ltb minute first early, lt-leb (first + k * step) minute (omega arith)) (le-ltb k 0 (omega arith))
      | inr from ↦
          let q = (minute - first) / step in
          let whole = div-add-mod' (minute - first) step in
          let part = mod_below (minute - first) step some in
          elim (cases_lt q k) [
            | inl past ↦
                let more : (q + 1) * step ≤ k * step = mul-le (q + 1) step k step (omega arith) (omega arith) in
                rw (le-ltb minute first from, le-ltb k (q + 1) (omega arith), lt-leb (first + k * step) minute (omega (arith, more, whole, part))) refl
            | inr within ↦
                let fits : k * step ≤ q * step = mul-le k step q step within (omega arith) in
                rw (le-ltb minute first from, lt-ltb k (q + 1) (omega arith), le-leb (first + k * step) minute (omega (arith, fits, whole, part))) refl
          ]
    ]

cell_before : (first a b n k low high day d : ℕ) → k < n → high ≤ n → day < d → a + n ≤ b → leb (first + a + low) (first + b + k) && ltb (first + b + k) (first + a + high) ≡ eqb day d && (leb low k && ltb k high)
cell_before first a b n k low high day d lt le before row = rw (le-ltb (first + b + k) (first + a + high) (omega arith), ne_eqb day d (omega arith)) (and_right (leb (first + a + low) (first + b + k)) false refl)

cell_after : (first a b n k low high day d : ℕ) → k < n → d < day → b + n ≤ a → leb (first + a + low) (first + b + k) && ltb (first + b + k) (first + a + high) ≡ eqb day d && (leb low k && ltb k high)
cell_after first a b n k low high day d lt after row = rw (lt-leb (first + a + low) (first + b + k) (omega arith), ne_eqb day d (omega arith)) refl

cell_same : (first a b k low high day d : ℕ) → day ≡ d → a ≡ b → leb (first + a + low) (first + b + k) && ltb (first + b + k) (first + a + high) ≡ eqb day d && (leb low k && ltb k high)
cell_same first a b k low high day d is row = grind (arith, nat_tests)

-- a resource of a day and a start is in the rows of that day alone
cell : (first n day d k low high : ℕ) → k < n → high ≤ n
    → leb (first + day * n + low) (first + d * n + k) && ltb (first + d * n + k) (first + day * n + high) ≡ eqb day d && (leb low k && ltb k high)
cell first n day d k low high lt le =
    elim (cases_order day d) [
      | inl is ↦ cell_same first (day * n) (d * n) k low high day d is (ap (λ (e : ℕ). e * n) is)
      | inr (inl before) ↦ let row : (day + 1) * n ≤ d * n = mul-le (day + 1) n d n (omega arith) (omega arith) in cell_before first (day * n) (d * n) n k low high day d lt le before (omega (arith, row))
      | inr (inr after) ↦ let row : (d + 1) * n ≤ day * n = mul-le (d + 1) n day n (omega arith) (omega arith) in cell_after first (day * n) (d * n) n k low high day d lt after (omega (arith, row))
    ]

start_tests : (k n a b minute begin over : ℕ) → k < n → ltb k a ≡ leb over minute → ltb k b ≡ leb begin minute
    → leb (min n a) k && ltb k (min n b) ≡ leb begin minute && ltb minute over
start_tests k n a b minute begin over lt past begun = grind (arith, nat_tests)

-- the starts whose windows hold a minute
pub held_start : (first step length minute n k : ℕ) → 0 < step → k < n
    → leb (min n (starts_until (first + length) step minute)) k && ltb k (min n (starts_until first step minute)) ≡ leb (first + k * step) minute && ltb minute (first + k * step + length)
held_start first step length minute n k some lt =
    let begun = until_is first step minute k some in
    let over = until_is (first + length) step minute k some in
    start_tests k n (starts_until (first + length) step minute) (starts_until first step minute) minute (first + k * step) (first + k * step + length) lt (over ∙ ap (λ (e : ℕ). leb e minute) (omega arith)) begun

-- a window of a day, seen from a movement some days after
pub seen_after : (day d ago begin length minute : ℕ) → day ≡ d + ago → leb (1440 * d + begin) (1440 * day + minute) && ltb (1440 * day + minute) (1440 * d + begin + length) ≡ leb begin (minute + 1440 * ago) && ltb (minute + 1440 * ago) (begin + length)
seen_after day d ago begin length minute is = grind (arith, nat_tests)

-- and from any other day
pub other_day : (day d begin length minute : ℕ) → begin < 1440 → length ≤ 1440 → minute < 1440 → (day ≡ d → ⊥) → (day ≡ d + 1 → ⊥) → leb (1440 * d + begin) (1440 * day + minute) && ltb (1440 * day + minute) (1440 * d + begin + length) ≡ false
other_day day d begin length minute short long in_day other later =
    elim (cases_lt day d) [
      | inl before ↦ and_left (leb (1440 * d + begin) (1440 * day + minute)) _ (lt-leb (1440 * d + begin) (1440 * day + minute) (omega arith))
      | inr after ↦ and_right (leb (1440 * d + begin) (1440 * day + minute)) _ (le-ltb (1440 * day + minute) (1440 * d + begin + length) (omega arith))
    ]

-- what a date uses of a band, where the band's test is known
abbrev band_test : Bool → Bool → (ℕ → Bool) → ℕ → ℕ → Bool → Bool
band_test date listed on day ago inside = date && (listed && (leb ago day && (on (day - ago) && inside)))

band_at : (date listed : Bool) (on : ℕ → Bool) (day ago d : ℕ) (inside held : Bool) → day ≡ d + ago → inside ≡ eqb (day - ago) d && held → band_test date listed on day ago inside ≡ date && (listed && (on d && held))
band_at date listed on day ago d inside held is row =
    let back : day - ago ≡ d = omega arith in
    rw (row, le-leb ago day (omega arith), eq-eqb (day - ago) d back) (ap (λ (e : ℕ). date && (listed && (on e && held))) back)

band_off : (date listed : Bool) (on : ℕ → Bool) (day ago d : ℕ) (inside held : Bool) → (day ≡ d + ago → ⊥) → inside ≡ eqb (day - ago) d && held → band_test date listed on day ago inside ≡ false
band_off date listed on day ago d inside held other row =
    elim (cases_lt day ago) [
      | inl early ↦ rw (lt-leb ago day early) (and_right date _ (and_right listed false refl))
      | inr late ↦ rw (row, ne_eqb (day - ago) d (omega arith)) (and_right date _ (and_right listed _ (and_right (leb ago day) _ (and_right (on (day - ago)) false refl))))
    ]

-- the bands of the movement's day and of the day before hold what a window holds
two_bands : (date listed : Bool) (on : ℕ → Bool) (day d begin length minute : ℕ) (inside before : Bool) → begin < 1440 → length ≤ 1440 → minute < 1440
    → inside ≡ eqb (day - 0) d && (leb begin (minute + 1440 * 0) && ltb (minute + 1440 * 0) (begin + length))
    → before ≡ eqb (day - 1) d && (leb begin (minute + 1440 * 1) && ltb (minute + 1440 * 1) (begin + length))
    → one_if (date && (listed && (on d && (leb (1440 * d + begin) (1440 * day + minute) && ltb (1440 * day + minute) (1440 * d + begin + length)))))
    ≡ one_if (band_test date listed on day 0 inside) + one_if (band_test date listed on day 1 before)
two_bands date listed on day d begin length minute inside before short long in_day row row' =
    let window = leb (1440 * d + begin) (1440 * day + minute) && ltb (1440 * day + minute) (1440 * d + begin + length) in
    let same : Bool → ℕ = λ (h : Bool). one_if (date && (listed && (on d && h))) in
    elim (cases_eq day (d + 0)) [
      | inl is ↦
          let one = ap one_if (band_at date listed on day 0 d inside _ is row) in
          let none = ap one_if (band_off date listed on day 1 d before _ (omega arith) row') in
          let held = ap same (seen_after day d 0 begin length minute is) in
          omega (arith, one, none, held)
      | inr other ↦
          elim (cases_eq day (d + 1)) [
            | inl is ↦
                let none = ap one_if (band_off date listed on day 0 d inside _ other row) in
                let one = ap one_if (band_at date listed on day 1 d before _ is row') in
                let held = ap same (seen_after day d 1 begin length minute is) in
                omega (arith, one, none, held)
            | inr later ↦
                let none = ap one_if (band_off date listed on day 0 d inside _ other row) in
                let none' = ap one_if (band_off date listed on day 1 d before _ later row') in
                let held : same window ≡ 0 = ap same (other_day day d begin length minute short long in_day (omega arith) later) ∙ ap one_if (and_right date _ (and_right listed _ (and_right (on d) false refl))) in
                omega (arith, none, none', held)
          ]
    ]

-- no day's row holds a resource outside the rule's
outside_rows : (first n days day r low high : ℕ) → high ≤ n → (r < first) ⊎ (first + days * n ≤ r) → day < days → leb (first + day * n + low) r && ltb r (first + day * n + high) ≡ false
outside_rows first n days day r low high le (inl early) lt = and_left (leb (first + day * n + low) r) _ (lt-leb (first + day * n + low) r (omega arith))
outside_rows first n days day r low high le (inr late) lt =
    let row : (day + 1) * n ≤ days * n = mul-le (day + 1) n days n (omega arith) (omega arith) in
    and_right (leb (first + day * n + low) r) _ (le-ltb r (first + day * n + high) (omega (arith, row)))

outside_band : (season : Term) (period : Period) (later : ℕ) (band : Band) (r : ℕ) → band.high ≤ band.starts → (r < band.first) ⊎ (band.first + date_count season * band.starts ≤ r) → band_uses season period later band r ≡ 0
outside_band season period later band r le outside =
    count_below-none (date_count season) (uses_band season period later band r) (λ x _.
    elim (cases_lt (x + later) (date_count season)) [
      | inr past ↦ and_right (is_date season period x) _ (and_left (ltb (x + later) (date_count season)) _ (le-ltb (x + later) (date_count season) past))
      | inl listed ↦
          and_right (is_date season period x) _ (and_right (ltb (x + later) (date_count season)) _ (and_right (leb band.ago (x + later)) _ (and_right (is_on season band.days (x + later - band.ago)) _
          (outside_rows band.first band.starts (date_count season) (x + later - band.ago) r band.low band.high le outside (omega arith)))))
    ])

-- the windows of a rule that holds movements of a kind
inside_rule : (c : Capacity) (rule : Rule) (first : ℕ) (kind : Kind) (minute later : ℕ) (period : Period) (d k r : ℕ) → 0 < c.step → IsRule rule → minute < 1440 → is_of_kind rule.kind kind ≡ true → period.last.0 < date_count c.season
    → k < starts_of c.step rule → r ≡ first + d * starts_of c.step rule + k
    → resource_load c (Window rule d k) (stop_movements c kind minute later period) ≡ band_uses c.season period later (band_of c.step rule first minute 0) r + band_uses c.season period later (band_of c.step rule first minute 1) r
inside_rule c rule first kind minute later period d k r some is_rule in_day of_kind within lt is =
    let n = starts_of c.step rule in
    let days = date_count c.season in
    let begin = start_of c.step rule k in
    let steps : k * c.step ≤ (rule.to - rule.from) / c.step * c.step = mul-le k c.step ((rule.to - rule.from) / c.step) c.step (omega arith) (omega arith) in
    let short : begin < 1440 = omega (arith, steps, div-add-mod' (rule.to - rule.from) c.step, is_rule.ordered, is_rule.in_day) in
    count_dates c.season period (movement_on kind minute later) (holds c (Window rule d k)) within
    ∙ count_below-parts days (λ x. is_date c.season period x && holds c (Window rule d k) (movement_on kind minute later x)) (uses_band c.season period later (band_of c.step rule first minute 0) r) (uses_band c.season period later (band_of c.step rule first minute 1) r)
    (λ x _.
    let day = x + later in
    let window = leb (1440 * d + begin) (1440 * day + minute) && ltb (1440 * day + minute) (1440 * d + begin + rule.length) in
    let row : (ago : ℕ) → is_in_band (band_of c.step rule first minute ago) (day - ago) r ≡ eqb (day - ago) d && (leb begin (minute + 1440 * ago) && ltb (minute + 1440 * ago) (begin + rule.length)) =
    (λ ago.
    let band = band_of c.step rule first minute ago in
    ap (λ (e : ℕ). is_in_band band (day - ago) e) is
    ∙ cell first n (day - ago) d k band.low band.high lt (omega arith)
    ∙ ap (λ (h : Bool). eqb (day - ago) d && h) (held_start rule.from c.step rule.length (minute + 1440 * ago) n k some lt)) in
    ap (λ (b : Bool). one_if (is_date c.season period x && (ltb day days && (is_on c.season rule.days d && (b && window))))) of_kind
    ∙ two_bands (is_date c.season period x) (ltb day days) (is_on c.season rule.days) day d begin rule.length minute (is_in_band (band_of c.step rule first minute 0) (day - 0) r) (is_in_band (band_of c.step rule first minute 1) (day - 1) r) short is_rule.short in_day (row 0) (row 1))

-- the two bands of a rule use its windows as often as these hold the movements
pub rule_bands : (c : Capacity) (rule : Rule) (first : ℕ) (kind : Kind) (minute later : ℕ) (period : Period) (r : ℕ) → 0 < c.step → IsRule rule → minute < 1440 → is_of_kind rule.kind kind ≡ true → period.last.0 < date_count c.season
    → rule_load c rule first (stop_movements c kind minute later period) r ≡ band_uses c.season period later (band_of c.step rule first minute 0) r + band_uses c.season period later (band_of c.step rule first minute 1) r
rule_bands c rule first kind minute later period r some is_rule in_day of_kind within =
    let n = starts_of c.step rule in
    let size = windows_of c rule in
    elim (cases_lt r first) [
      | inl early ↦
          rw (lt-leb first r early)
          (let one = outside_band c.season period later (band_of c.step rule first minute 0) r (omega arith) (inl early) in
          let two = outside_band c.season period later (band_of c.step rule first minute 1) r (omega arith) (inl early) in
          omega (arith, one, two))
      | inr from ↦
          elim (cases_lt (r - first) size) [
            | inr late ↦
                rw (le-leb first r from, le-ltb (r - first) size late)
                (let one = outside_band c.season period later (band_of c.step rule first minute 0) r (omega arith) (inr (omega arith)) in
                let two = outside_band c.season period later (band_of c.step rule first minute 1) r (omega arith) (inr (omega arith)) in
                omega (arith, one, two))
            | inl inside ↦
                rw (le-leb first r from, lt-ltb (r - first) size inside)
                (inside_rule c rule first kind minute later period ((r - first) / n) ((r - first) % n) r some is_rule in_day of_kind within (mod_below (r - first) n (omega arith)) (omega (arith, div-add-mod' (r - first) n)))
          ]
    ]

-- windows of other kinds hold none of them
pub rule_none : (c : Capacity) (rule : Rule) (first : ℕ) (kind : Kind) (minute later : ℕ) (period : Period) (r : ℕ) → is_of_kind rule.kind kind ≡ false → period.last.0 < date_count c.season
    → rule_load c rule first (stop_movements c kind minute later period) r ≡ 0
rule_none c rule first kind minute later period r other within =
    elim (cases_lt r first) [
      | inl early ↦ rw (lt-leb first r early) refl
      | inr from ↦
          elim (cases_lt (r - first) (windows_of c rule)) [
            | inr late ↦ rw (le-leb first r from, le-ltb (r - first) (windows_of c rule) late) refl
            | inl inside ↦
                let d = (r - first) / starts_of c.step rule in
                let k = (r - first) % starts_of c.step rule in
                rw (le-leb first r from, lt-ltb (r - first) (windows_of c rule) inside)
                (count_dates c.season period (movement_on kind minute later) (holds c (Window rule d k)) within
                ∙ count_below-none (date_count c.season) (λ x. is_date c.season period x && holds c (Window rule d k) (movement_on kind minute later x)) (λ x _.
                and_right (is_date c.season period x) _ (and_right (ltb (x + later) (date_count c.season)) _ (and_right (is_on c.season rule.days d) _ (and_left (is_of_kind rule.kind kind) _ other)))))
          ]
    ]

-- an earlier first start has no fewer starts up to a minute
until-later : (first length step minute : ℕ) → 0 < step → starts_until (first + length) step minute ≤ starts_until first step minute
until-later first length step minute some =
    let few = starts_until first step minute in
    elim (cases_lt few (starts_until (first + length) step minute)) [
      | inr le ↦ le
      | inl more ↦
          let begun : first + length + few * step ≤ minute = leb-true (first + length + few * step) minute (sym (until_is (first + length) step minute few some) ∙ lt-ltb few (starts_until (first + length) step minute) more) in
          let again : few < few = ltb-true few few (until_is first step minute few some ∙ le-leb (first + few * step) minute (omega arith)) in
          absurd (omega (arith, again))
    ]

pub band_of-is : (c : Capacity) (rule : Rule) (first minute ago : ℕ) → 0 < c.step → first + windows_of c rule ≤ 1000000 → ago < 2 → IsBand c.season (band_of c.step rule first minute ago)
band_of-is c rule first minute ago some room near =
    let later = until-later rule.from rule.length c.step (minute + 1440 * ago) some in
    record { room = room; ordered = omega (arith, later); few = omega arith; near = near }
