-- Lines of the next season, and what is found of all holdings, one after the other.
use Rattle.std.proofs.Common.{◌≡◌, ◌≢◌, ℕ, ◌+◌, ◌-◌, ◌<◌, ◌≤◌, Bool, true, false, cond, min, List, [], ◌∷◌, ◌++◌, length, drop, get_or, refl, sym, ap, ◌∙◌, subst, arith, append_assoc, append-nil}
use Rattle.std.specs.Prelude.{IsTrue, ◌↔◌, All, Contains, Option, Some, None}
use Rattle.std.specs.Option.{option_map}
use Rattle.std.specs.List.{cons_option}
use Rattle.std.proofs.Math.Nat.{min-le_right}
use Rattle.std.proofs.lemmas.Bool.{false≢true}
use Rattle.std.proofs.lemmas.List.{drop_more, drop_all}
use Rattle.std.proofs.lemmas.List.Elements.{All-nil, All-cons, All-head, All-tail}
use Rattle.season_days.specs.Term.{Term}
use Rattle.season_days.specs.Seasons.{date_count, is_on, dates_of}
use Rattle.season_days.specs.Periods.{some_if_any}
use Rattle.season_days.specs.declared.day.Period.{Period}
use Rattle.season_days.specs.declared.season.TheConstants.{MOST_DATES}
use Rattle.scr_reader.specs.Printed.{StopsFit, LineFits}
use Rattle.scr_reader.specs.declared.line.Line.{Line}
use Rattle.scr_reader.specs.declared.line.Stop.{Stop}
use Rattle.scr_reader.specs.declared.line.Code.TheVariants.{F}
use Rattle.holding_book.specs.Lines.{is_state}
use Rattle.holding_book.specs.declared.holding.Holding.{Holding}
use Rattle.holding_book.specs.declared.holding.State.TheVariants.{Confirmed}
use Rattle.usage_watch.specs.declared.operated.Operated.{Operated}
use Rattle.usage_watch.specs.Precedence.{has_precedence}
use Rattle.usage_watch.specs.NextLines.{kept_days, next_period, in_next, next_line, confirmed_lines, next_lines}
use Rattle.usage_watch.specs.NextTexts.{IsHistoric}
use Rattle.usage_watch.proofs.WeekdayLemmas.{days_few}

-- ---- whether a period has a date

pub not_dated : (part : Period) (xs : List ℕ) → (IsTrue false ↔ (xs ≢ [])) → some_if_any part xs ≡ None
not_dated part [] f = refl
not_dated part (x ∷ xs) f = absurd (false≢true (f.1 (λ e. cc)))

pub is_dated : (part : Period) (xs : List ℕ) → (IsTrue true ↔ (xs ≢ [])) → some_if_any part xs ≡ Some part
is_dated part [] f = absurd (f.0 refl refl)
is_dated part (x ∷ xs) f = refl

module _ (next : Term) (line : Line) (days n : ℕ) (has : Bool) (last : n ≡ min line.period.last.0 (date_count next - 1)) (is : IsTrue has ↔ (dates_of next (record { first = line.period.first; last = record { 0 = n }; days = days }) ≢ [])) where
  abbrev part : Period
  part = next_period next line.period days

  of_part : IsTrue has ↔ (dates_of next part ≢ [])
  of_part = subst (λ (k : ℕ). IsTrue has ↔ (dates_of next (record { first = line.period.first; last = record { 0 = k }; days = days }) ≢ [])) last is

  pub no_next_line : has ≡ false → None ≡ in_next next line days
  no_next_line fails =
      let none : some_if_any part (dates_of next part) ≡ None = not_dated part (dates_of next part) (subst (λ (b : Bool). IsTrue b ↔ (dates_of next part ≢ [])) fails of_part) in
      sym (ap (option_map (λ (q : Period). record line { code = F; period = q })) none)

  pub one_next_line : has ≡ true → Some (record line { code = F; period = record { first = line.period.first; last = record { 0 = n }; days = days } }) ≡ in_next next line days
  one_next_line holds =
      let some : some_if_any part (dates_of next part) ≡ Some part = is_dated part (dates_of next part) (subst (λ (b : Bool). IsTrue b ↔ (dates_of next part ≢ [])) holds of_part) in
      let made : ℕ → Option Line = λ k. Some (record line { code = F; period = record { first = line.period.first; last = record { 0 = k }; days = days } }) in
      ap made last ∙ sym (ap (option_map (λ (q : Period). record line { code = F; period = q })) some)

-- ---- the line of the next season has a spelling

stops_same : (line other : Line) → other.nights ≡ line.nights → (arrival departure : Option Stop) → StopsFit line arrival departure → StopsFit other arrival departure
stops_same line other e None None fit = fit
stops_same line other e None (Some going) fit = (fit.0, e ∙ fit.1)
stops_same line other e (Some coming) None fit = (fit.0, e ∙ fit.1)
stops_same line other e (Some coming) (Some going) fit = (fit.0, fit.1, rw e fit.2, rw e fit.3)

abbrev pub Members : Type 0
Members = (season : Term) (period : Period) (day : ℕ) → Contains (dates_of season period) day ↔ ((period.first.0 ≤ day) × (day ≤ period.last.0) × (is_on season period.days day ≡ true))

abbrev pub Bounds : Type 0
Bounds = (season : Term) → (147 ≤ date_count season) × (date_count season ≤ MOST_DATES)

module _ (members : Members) (bounds : Bounds) (season next : Term) where
  in_season : (line : Line) (days x : ℕ) (xs : List ℕ) → dates_of next (next_period next line.period days) ≡ x ∷ xs → (line.period.first.0 ≤ min line.period.last.0 (date_count next - 1)) × (min line.period.last.0 (date_count next - 1) < date_count next)
  in_season line days x xs e =
      let p = next_period next line.period days in
      let has : Contains (dates_of next p) x = rw e (0, omega arith, refl) in
      let m = (members next p x).0 has in
      let from : line.period.first.0 ≤ x = m.0 in
      let to : x ≤ min line.period.last.0 (date_count next - 1) = m.1 in
      let low : min line.period.last.0 (date_count next - 1) ≤ date_count next - 1 = min-le_right line.period.last.0 (date_count next - 1) in
      let long : 147 ≤ date_count next = (bounds next).0 in
      (omega (arith, from, to), omega (arith, low, long))

  historic : (line : Line) (days x : ℕ) (xs : List ℕ) → LineFits season line → days < 128 → dates_of next (next_period next line.period days) ≡ x ∷ xs → IsHistoric next (record line { code = F; period = next_period next line.period days })
  historic line days x xs fits few e =
      let within = in_season line days x xs e in
      record {
        fits = record {
          stops = stops_same line (record line { code = F; period = next_period next line.period days }) refl line.arrival line.departure fits.stops;
          first = omega (arith, within.0, within.1);
          last = within.1;
          ordered = within.0;
          week = few;
          dated = λ none. let never : x ∷ xs ≡ [] = sym e ∙ none in cc;
          seats = fits.seats;
          craft = fits.craft;
        };
        code = refl;
      }

  one_historic : (line : Line) (days : ℕ) (xs : List ℕ) (lines : List Line) → LineFits season line → days < 128 → dates_of next (next_period next line.period days) ≡ xs → All (IsHistoric next) lines
      → All (IsHistoric next) (cons_option (option_map (λ period. record line { code = F; period = period }) (some_if_any (next_period next line.period days) xs)) lines)
  one_historic line days [] lines fits few e are = are
  one_historic line days (x ∷ xs) lines fits few e are = All-cons (IsHistoric next) (record line { code = F; period = next_period next line.period days }) lines (historic line days x xs fits few e) are

  pub all_historic : (reports : List Operated) (held : List Holding) → All (λ (holding : Holding). LineFits season holding.line) held → All (IsHistoric next) (next_lines season next reports (confirmed_lines held))
  all_historic reports [] fit = All-nil (IsHistoric next)
  all_historic reports (holding ∷ held) fit =
      let line = holding.line in
      let rest = all_historic reports held (All-tail (λ (h : Holding). LineFits season h.line) holding held fit) in
      let own : LineFits season line = All-head (λ (h : Holding). LineFits season h.line) holding held fit in
      elim (is_state Confirmed holding.state) as (λ b. All (IsHistoric next) (next_lines season next reports (cond b (line ∷ confirmed_lines held) (confirmed_lines held)))) [
        | true ↦ one_historic line (kept_days season reports line) (dates_of next (next_period next line.period (kept_days season reports line))) (next_lines season next reports (confirmed_lines held)) own (days_few (has_precedence season reports line) 7) refl rest
        | false ↦ rest
      ]

-- ---- one holding after the other

module _ (held : List Holding) (i : ℕ) (d : Holding) (lt : i < length held) where
  abbrev holding : Holding
  holding = get_or held i d

  next_is : drop i held ≡ holding ∷ drop (i + 1) held
  next_is = drop_more held i d lt

  abbrev behind : List Line
  behind = confirmed_lines (drop (i + 1) held)

  -- a count over lines that adds them up
  count_if : (one : Line → ℕ) (all : List Line → ℕ) → ((line : Line) (lines : List Line) → all (line ∷ lines) ≡ one line + all lines) → (b : Bool) → all (cond b (holding.line ∷ behind) behind) ≡ cond b (one holding.line) 0 + all behind
  count_if one all adds true = adds holding.line behind
  count_if one all adds false = let e : all behind ≡ 0 + all behind = omega arith in e

  pub counted_more : (one : Line → ℕ) (all : List Line → ℕ) → ((line : Line) (lines : List Line) → all (line ∷ lines) ≡ one line + all lines) → (count whole : ℕ) → count + all (confirmed_lines (drop i held)) ≡ whole → (count + cond (is_state Confirmed holding.state) (one holding.line) 0) + all behind ≡ whole
  counted_more one all adds count whole so_far =
      let step : all (confirmed_lines (drop i held)) ≡ cond (is_state Confirmed holding.state) (one holding.line) 0 + all behind =
      ap (λ (h : List Holding). all (confirmed_lines h)) next_is ∙ count_if one all adds (is_state Confirmed holding.state) in
      omega (arith, step, so_far)

  cons_append : (line : Option Line) (lines : List Line) → cons_option line lines ≡ cons_option line [] ++ lines
  cons_append None lines = refl
  cons_append (Some line) lines = refl

  lines_if : (season next : Term) (reports : List Operated) (b : Bool) → next_lines season next reports (cond b (holding.line ∷ behind) behind) ≡ cond b (cons_option (next_line season next reports holding.line) []) [] ++ next_lines season next reports behind
  lines_if season next reports true = cons_append (next_line season next reports holding.line) (next_lines season next reports behind)
  lines_if season next reports false = refl

  pub lines_more : (season next : Term) (reports : List Operated) (lines whole : List Line) → lines ++ next_lines season next reports (confirmed_lines (drop i held)) ≡ whole
      → (lines ++ cond (is_state Confirmed holding.state) (cons_option (next_line season next reports holding.line) []) []) ++ next_lines season next reports behind ≡ whole
  lines_more season next reports lines whole so_far =
      append_assoc lines (cond (is_state Confirmed holding.state) (cons_option (next_line season next reports holding.line) []) []) (next_lines season next reports behind)
      ∙ ap (λ (l : List Line). lines ++ l) (sym (ap (λ (h : List Holding). next_lines season next reports (confirmed_lines h)) next_is ∙ lines_if season next reports (is_state Confirmed holding.state)))
      ∙ so_far

module _ (held : List Holding) (i : ℕ) (le : length held ≤ i) where
  pub counted_end : (all : List Line → ℕ) → all [] ≡ 0 → (count whole : ℕ) → count + all (confirmed_lines (drop i held)) ≡ whole → count ≡ whole
  counted_end all none count whole so_far =
      let end : all (confirmed_lines (drop i held)) ≡ 0 = ap (λ (h : List Holding). all (confirmed_lines h)) (drop_all i held le) ∙ none in
      omega (arith, end, so_far)

  pub lines_end : (season next : Term) (reports : List Operated) (lines whole : List Line) → lines ++ next_lines season next reports (confirmed_lines (drop i held)) ≡ whole → lines ≡ whole
  lines_end season next reports lines whole so_far =
      sym (append-nil lines)
      ∙ ap (λ (h : List Holding). lines ++ next_lines season next reports (confirmed_lines h)) (sym (drop_all i held le))
      ∙ so_far
