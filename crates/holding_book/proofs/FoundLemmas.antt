-- What is found at the places of flights is what looking at all holdings finds.
use Rattle.std.proofs.Common.{◌≡◌, ◌⊎◌, ℕ, zero, suc, ◌+◌, ◌<◌, ◌≤◌, ◌==◌, ◌&&◌, ◌||◌, not, Bool, true, false, cond, List, [], ◌∷◌, ◌++◌, length, take, drop, get_or, filter, refl, sym, ap, ◌∙◌, subst, arith, Option, Some, None, inl, inr, add-one, append-nil, append_assoc}
use Rattle.std.proofs.Math.Seq.{take-suc, take-length}
use Rattle.std.specs.Prelude.{All}
use Rattle.std.specs.Option.{option_map}
use Rattle.std.specs.List.{list_any, flat_map, slice_get, cons_option}
use Rattle.std.proofs.lemmas.Bool.{cases_Bool, eqb-true}
use Rattle.std.proofs.lemmas.List.Elements.{All-nil, All-cons}
use Rattle.std.proofs.lemmas.List.Folds.{list_any-append}
use Rattle.season_days.specs.Term.{Term}
use Rattle.season_days.specs.Periods.{shares_date, has_all_dates}
use Rattle.scr_reader.specs.declared.line.Flight.{Flight}
use Rattle.scr_reader.specs.declared.line.Line.{Line}
use Rattle.scr_reader.specs.declared.line.Stop.{Stop}
use Rattle.holding_book.specs.declared.holding.Holding.{Holding}
use Rattle.holding_book.specs.Lines.{is_flight, has_stop_flight, has_flight, shares_flight, clashes, is_same_stop, is_state}
use Rattle.holding_book.specs.Books.{clashes_with, places_from, places_of}
use Rattle.holding_book.specs.Private.Steps.{first_place, replaced_at}
use Rattle.holding_book.specs.Private.Found.{passes_option, passes_at, is_place, clash_but, stop_places, first_of, held_at, HasEachMatch}
use Rattle.holding_book.proofs.FlightLemmas.{both_true}

-- ---- places and the list from a place on

drop_step : (whole : List Holding) (n : ℕ) (holding : Holding) (holdings : List Holding) → drop n whole ≡ holding ∷ holdings → (slice_get whole n ≡ Some holding) × (drop (suc n) whole ≡ holdings)
drop_step [] zero holding holdings e = cc
drop_step [] (suc n) holding holdings e = cc
drop_step (x ∷ whole) zero holding holdings e =
    let head : x ≡ holding = cc in
    let tail : whole ≡ holdings = cc in
    (ap (λ (h : Holding). Some h) head, tail)
drop_step (x ∷ whole) (suc n) holding holdings e = drop_step whole n holding holdings e

-- each place is one of the list
places_below : (flight : Flight) (n m : ℕ) (holdings : List Holding) → n + length holdings ≤ m → All (λ k. k < m) (places_from flight n holdings)
places_below flight n m [] le = All-nil (λ k. k < m)
places_below flight n m (holding ∷ holdings) le =
    let rest = places_below flight (suc n) m holdings (omega (arith, le)) in
    elim (has_flight flight holding.line) as (λ b. All (λ k. k < m) (cond b (n ∷ places_from flight (suc n) holdings) (places_from flight (suc n) holdings))) [
      | true ↦ All-cons (λ k. k < m) n (places_from flight (suc n) holdings) (omega (arith, le)) rest
      | false ↦ rest
    ]

pub places_there : (flight : Flight) (holdings : List Holding) (places : List ℕ) → places ≡ places_of flight holdings → All (λ k. k < length holdings) places
places_there flight holdings places is = subst (All (λ k. k < length holdings)) (sym is) (places_below flight 0 (length holdings) holdings (omega arith))

-- ---- a test of the holdings and of their places

abbrev any_from : (ℕ → Holding → Bool) → ℕ → List Holding → Bool
any_from test n [] = false
any_from test n (holding ∷ holdings) = test n holding || any_from test (suc n) holdings

abbrev pub has_stop : Option Stop → Holding → Bool
has_stop None holding = false
has_stop (Some stop) holding = has_flight stop.flight holding.line

abbrev stop_from : Option Stop → ℕ → List Holding → List ℕ
stop_from None n holdings = []
stop_from (Some stop) n holdings = places_from stop.flight n holdings

stop_more : (stop : Option Stop) (passes : ℕ → Bool) (n : ℕ) (holding : Holding) (holdings : List Holding) → list_any passes (stop_from stop n (holding ∷ holdings)) ≡ cond (has_stop stop holding) (passes n || list_any passes (stop_from stop (suc n) holdings)) (list_any passes (stop_from stop (suc n) holdings))
stop_more None passes n holding holdings = refl
stop_more (Some stop) passes n holding holdings =
    elim (has_flight stop.flight holding.line) as (λ b. list_any passes (cond b (n ∷ places_from stop.flight (suc n) holdings) (places_from stop.flight (suc n) holdings)) ≡ cond b (passes n || list_any passes (places_from stop.flight (suc n) holdings)) (list_any passes (places_from stop.flight (suc n) holdings))) [
      | true ↦ refl
      | false ↦ refl
    ]

joined : (t a d x y : Bool) → (t ≡ true → (a || d) ≡ true) → (t || (x || y)) ≡ (cond a (t || x) x || cond d (t || y) y)
joined true true d x y e = refl
joined true false true true y e = refl
joined true false true false y e = refl
joined true false false x y e = let no = e refl in cc
joined false true true x y e = refl
joined false true false x y e = refl
joined false false true x y e = refl
joined false false false x y e = refl

module _ (test : ℕ → Holding → Bool) (one two : Option Stop) (has : (n : ℕ) (holding : Holding) → test n holding ≡ true → (has_stop one holding || has_stop two holding) ≡ true) (whole : List Holding) where
  any_placed : (n : ℕ) (holdings : List Holding) → drop n whole ≡ holdings → any_from test n holdings ≡ (list_any (passes_at test whole) (stop_from one n holdings) || list_any (passes_at test whole) (stop_from two n holdings))
  any_placed n [] e = none one two
    where
      none : (a b : Option Stop) → false ≡ (list_any (passes_at test whole) (stop_from a n []) || list_any (passes_at test whole) (stop_from b n []))
      none None None = refl
      none None (Some stop) = refl
      none (Some stop) None = refl
      none (Some stop) (Some other) = refl
  any_placed n (holding ∷ holdings) e =
      let here = drop_step whole n holding holdings e in
      let is : passes_at test whole n ≡ test n holding = ap (passes_option test n) here.0 in
      let x = list_any (passes_at test whole) (stop_from one (suc n) holdings) in
      let y = list_any (passes_at test whole) (stop_from two (suc n) holdings) in
      ap (λ (b : Bool). test n holding || b) (any_placed (suc n) holdings here.1)
      ∙ joined (test n holding) (has_stop one holding) (has_stop two holding) x y (has n holding)
      ∙ sym (ap (λ (b : Bool). b || list_any (passes_at test whole) (stop_from two n (holding ∷ holdings))) (stop_more one (passes_at test whole) n holding holdings ∙ ap (λ (b : Bool). cond (has_stop one holding) (b || x) x) is)
      ∙ ap (λ (b : Bool). cond (has_stop one holding) (test n holding || x) x || b) (stop_more two (passes_at test whole) n holding holdings ∙ ap (λ (b : Bool). cond (has_stop two holding) (b || y) y) is))

at_start : (stop : Option Stop) (holdings : List Holding) → stop_from stop 0 holdings ≡ stop_places stop holdings
at_start None holdings = refl
at_start (Some stop) holdings = refl

any_at_places : (test : ℕ → Holding → Bool) (one two : Option Stop) → ((n : ℕ) (holding : Holding) → test n holding ≡ true → (has_stop one holding || has_stop two holding) ≡ true) → (holdings : List Holding) → any_from test 0 holdings ≡ (list_any (passes_at test holdings) (stop_places one holdings) || list_any (passes_at test holdings) (stop_places two holdings))
any_at_places test one two has holdings =
    any_placed test one two has holdings 0 holdings refl
    ∙ ap (λ (ns : List ℕ). list_any (passes_at test holdings) ns || list_any (passes_at test holdings) (stop_from two 0 holdings)) (at_start one holdings)
    ∙ ap (λ (ns : List ℕ). list_any (passes_at test holdings) (stop_places one holdings) || list_any (passes_at test holdings) ns) (at_start two holdings)

-- ---- clashes

or_left : (a b : Bool) → a ≡ true → (a || b) ≡ true
or_left a b e = rw e refl

or_right : (a b : Bool) → b ≡ true → (a || b) ≡ true
or_right true b e = refl
or_right false b e = e

cases_or : (a b : Bool) → (a || b) ≡ true → (a ≡ true) ⊎ (b ≡ true)
cases_or true b e = inl refl
cases_or false b e = inr e

has_arrival : (stop : Option Stop) (holding : Holding) → shares_flight stop holding.line.arrival ≡ true → has_stop stop holding ≡ true
has_arrival None holding e = cc
has_arrival (Some stop) holding e = or_left (has_stop_flight stop.flight holding.line.arrival) (has_stop_flight stop.flight holding.line.departure) e

has_departure : (stop : Option Stop) (holding : Holding) → shares_flight stop holding.line.departure ≡ true → has_stop stop holding ≡ true
has_departure None holding e = cc
has_departure (Some stop) holding e = or_right (has_stop_flight stop.flight holding.line.arrival) (has_stop_flight stop.flight holding.line.departure) e

clash_has : (season : Term) (line : Line) (holding : Holding) → clashes season line holding.line ≡ true → (has_stop line.arrival holding || has_stop line.departure holding) ≡ true
clash_has season line holding e =
    let shares = (both_true (shares_flight line.arrival holding.line.arrival || shares_flight line.departure holding.line.departure) (shares_date season line.period holding.line.period) e).0 in
    elim (cases_or (shares_flight line.arrival holding.line.arrival) (shares_flight line.departure holding.line.departure) shares) [
      | inl a ↦ or_left (has_stop line.arrival holding) (has_stop line.departure holding) (has_arrival line.arrival holding a)
      | inr d ↦ or_right (has_stop line.arrival holding) (has_stop line.departure holding) (has_departure line.departure holding d)
    ]

module _ (season : Term) (line : Line) where
  abbrev clash : Holding → Bool
  clash holding = clashes season line holding.line

  but_has : (but : Option ℕ) (n : ℕ) (holding : Holding) → clash_but season line but n holding ≡ true → (has_stop line.arrival holding || has_stop line.departure holding) ≡ true
  but_has but n holding e = clash_has season line holding (both_true (not (is_place but n)) (clash holding) e).1

  -- no place is left out
  any_clash : (n : ℕ) (holdings : List Holding) → any_from (clash_but season line None) n holdings ≡ list_any clash holdings
  any_clash n [] = refl
  any_clash n (holding ∷ holdings) = ap (λ (b : Bool). clash holding || b) (any_clash (suc n) holdings)

  pub clash_placed : (holdings : List Holding) → clashes_with season line holdings ≡ (list_any (passes_at (clash_but season line None) holdings) (stop_places line.arrival holdings) || list_any (passes_at (clash_but season line None) holdings) (stop_places line.departure holdings))
  clash_placed holdings = sym (any_clash 0 holdings) ∙ any_at_places (clash_but season line None) line.arrival line.departure (but_has None) holdings

  -- behind the place that is left out
  after_place : (at n : ℕ) (holdings : List Holding) → at < n → any_from (clash_but season line (Some at)) n holdings ≡ list_any clash holdings
  after_place at n [] lt = refl
  after_place at n (holding ∷ holdings) lt =
      elim (cases_Bool (at == n)) [
        | inl same ↦ let e : at ≡ n = eqb-true at n same in absurd (omega (arith, e, lt))
        | inr other ↦ rw other (ap (λ (b : Bool). clash holding || b) (after_place at (suc n) holdings (omega (arith, lt))))
      ]

  same_place : (n : ℕ) → (n == n) ≡ true
  same_place n = grind arith

  other_place : (k n : ℕ) → (n + suc k == n) ≡ false
  other_place k n = elim (cases_Bool (n + suc k == n)) [
    | inl same ↦ let e : n + suc k ≡ n = eqb-true (n + suc k) n same in absurd (omega (arith, e))
    | inr other ↦ other
  ]

  but_one : (k n : ℕ) (holdings : List Holding) → any_from (clash_but season line (Some (n + k))) n holdings ≡ (list_any clash (take k holdings) || list_any clash (drop (suc k) holdings))
  but_one zero n [] = refl
  but_one (suc k) n [] = refl
  but_one zero n (holding ∷ holdings) =
      let e : n + 0 ≡ n = omega arith in
      subst (λ (k : ℕ). any_from (clash_but season line (Some k)) n (holding ∷ holdings) ≡ list_any clash holdings) (sym e)
      (rw (same_place n) (after_place n (suc n) holdings (omega arith)))
  but_one (suc k) n (holding ∷ holdings) =
      let e : n + suc k ≡ suc n + k = omega arith in
      let rest = but_one k (suc n) holdings in
      let here : clash_but season line (Some (n + suc k)) n holding ≡ clash holding = ap (λ (b : Bool). not b && clash holding) (other_place k n) in
      ap (λ (b : Bool). b || any_from (clash_but season line (Some (n + suc k))) (suc n) holdings) here
      ∙ ap (λ (b : Bool). clash holding || b) (ap (λ (j : ℕ). any_from (clash_but season line (Some j)) (suc n) holdings) e ∙ rest)
      ∙ or_more (clash holding) (list_any clash (take k holdings)) (list_any clash (drop (suc k) holdings))
    where
      or_more : (a b c : Bool) → (a || (b || c)) ≡ ((a || b) || c)
      or_more true b c = refl
      or_more false b c = refl

  turned : (a b c : Bool) → (a || (b || c)) ≡ (b || (a || c))
  turned true true c = refl
  turned true false c = refl
  turned false true c = refl
  turned false false c = refl

  pub clash_replaced : (at : ℕ) (others holdings : List Holding) → clashes_with season line (replaced_at at others holdings) ≡ (clashes_with season line others || (list_any (passes_at (clash_but season line (Some at)) holdings) (stop_places line.arrival holdings) || list_any (passes_at (clash_but season line (Some at)) holdings) (stop_places line.departure holdings)))
  clash_replaced at others holdings =
      let e : 0 + at ≡ at = omega arith in
      list_any-append clash (take at holdings) (others ++ drop (suc at) holdings)
      ∙ ap (λ (b : Bool). list_any clash (take at holdings) || b) (list_any-append clash others (drop (suc at) holdings))
      ∙ turned (list_any clash (take at holdings)) (list_any clash others) (list_any clash (drop (suc at) holdings))
      ∙ ap (λ (b : Bool). list_any clash others || b)
      (sym (but_one at 0 holdings) ∙ ap (λ (j : ℕ). any_from (clash_but season line (Some j)) 0 holdings) e ∙ any_at_places (clash_but season line (Some at)) line.arrival line.departure (but_has (Some at)) holdings)

-- ---- matches

same_flight : (one other : Option Stop) (stop : Stop) → one ≡ Some stop → is_same_stop one other ≡ true → has_stop_flight stop.flight other ≡ true
same_flight None other stop is e = cc
same_flight (Some one) None stop is e = cc
same_flight (Some one) (Some other) stop is e =
    let f : one.flight ≡ stop.flight = same_stop one stop is in
    subst (λ (g : Flight). is_flight g other.flight ≡ true) f (both_true (is_flight one.flight other.flight) (one.minute == other.minute) e).0
  where
    same_stop : (one stop : Stop) → Some one ≡ Some stop → one.flight ≡ stop.flight
    same_stop one stop e = let s : one ≡ stop = cc in ap (λ (t : Stop). t.flight) s

pub match_arrival : (line : Line) (stop : Stop) → line.arrival ≡ Some stop → HasEachMatch line stop.flight
match_arrival line stop is season state holding e =
    let one = both_true (is_state state holding.state) (is_same_stop line.arrival holding.line.arrival && (is_same_stop line.departure holding.line.departure && (line.nights == holding.line.nights && has_all_dates season holding.line.period line.period))) e in
    let two = both_true (is_same_stop line.arrival holding.line.arrival) (is_same_stop line.departure holding.line.departure && (line.nights == holding.line.nights && has_all_dates season holding.line.period line.period)) one.1 in
    or_left (has_stop_flight stop.flight holding.line.arrival) (has_stop_flight stop.flight holding.line.departure) (same_flight line.arrival holding.line.arrival stop is two.0)

pub match_departure : (line : Line) (stop : Stop) → line.departure ≡ Some stop → HasEachMatch line stop.flight
match_departure line stop is season state holding e =
    let one = both_true (is_state state holding.state) (is_same_stop line.arrival holding.line.arrival && (is_same_stop line.departure holding.line.departure && (line.nights == holding.line.nights && has_all_dates season holding.line.period line.period))) e in
    let two = both_true (is_same_stop line.arrival holding.line.arrival) (is_same_stop line.departure holding.line.departure && (line.nights == holding.line.nights && has_all_dates season holding.line.period line.period)) one.1 in
    let three = both_true (is_same_stop line.departure holding.line.departure) (line.nights == holding.line.nights && has_all_dates season holding.line.period line.period) two.1 in
    or_right (has_stop_flight stop.flight holding.line.arrival) (has_stop_flight stop.flight holding.line.departure) (same_flight line.departure holding.line.departure stop is three.0)

module _ (test : Holding → Bool) (flight : Flight) (has : (holding : Holding) → test holding ≡ true → has_flight flight holding.line ≡ true) (whole : List Holding) where
  abbrev passes : ℕ → Bool
  passes = passes_at (λ _ holding. test holding) whole

  lacks : (holding : Holding) → has_flight flight holding.line ≡ false → test holding ≡ false
  lacks holding e = elim (cases_Bool (test holding)) [
    | inl passed ↦ let h = has holding passed in cc
    | inr failed ↦ failed
  ]

  shifted : (n : ℕ) (place : Option ℕ) → option_map (λ k. suc n + k) place ≡ option_map (λ k. n + k) (option_map (λ k. suc k) place)
  shifted n None = refl
  shifted n (Some k) = let e : suc n + k ≡ n + suc k = omega arith in ap (λ (j : ℕ). Some j) e

  first_from : (n : ℕ) (holdings : List Holding) → drop n whole ≡ holdings → first_of passes (places_from flight n holdings) ≡ option_map (λ k. n + k) (first_place test holdings)
  first_from n [] e = refl
  first_from n (holding ∷ holdings) e =
      let here = drop_step whole n holding holdings e in
      let is : passes n ≡ test holding = ap (passes_option (λ _ h. test h) n) here.0 in
      let zero_more : n ≡ n + 0 = omega arith in
      let rest = first_from (suc n) holdings here.1 ∙ shifted n (first_place test holdings) in
      elim (cases_Bool (has_flight flight holding.line)) [
        | inl it ↦ rw it (ap (λ (b : Bool). cond b (Some n) (first_of passes (places_from flight (suc n) holdings))) is ∙
            elim (test holding) as (λ b. cond b (Some n) (first_of passes (places_from flight (suc n) holdings)) ≡ option_map (λ k. n + k) (cond b (Some 0) (option_map (λ k. suc k) (first_place test holdings)))) [
              | true ↦ ap (λ (j : ℕ). Some j) zero_more
              | false ↦ rest
            ])
        | inr not_it ↦ rw (not_it, lacks holding not_it) rest
      ]

  unshifted : (place : Option ℕ) → option_map (λ k. 0 + k) place ≡ place
  unshifted None = refl
  unshifted (Some k) = let e : 0 + k ≡ k = omega arith in ap (λ (j : ℕ). Some j) e

  pub first_placed : first_of passes (places_of flight whole) ≡ first_place test whole
  first_placed = first_from 0 whole refl ∙ unshifted (first_place test whole)

-- ---- a question

module _ (flight : Flight) (whole : List Holding) where
  held_from : (n : ℕ) (holdings : List Holding) → drop n whole ≡ holdings → flat_map (held_at whole) (places_from flight n holdings) ≡ filter (λ holding. has_flight flight holding.line) holdings
  held_from n [] e = refl
  held_from n (holding ∷ holdings) e =
      let here = drop_step whole n holding holdings e in
      let rest = held_from (suc n) holdings here.1 in
      let is : held_at whole n ≡ holding ∷ [] = ap (λ (o : Option Holding). cons_option o []) here.0 in
      elim (has_flight flight holding.line) as (λ b. flat_map (held_at whole) (cond b (n ∷ places_from flight (suc n) holdings) (places_from flight (suc n) holdings)) ≡ cond b (holding ∷ filter (λ h. has_flight flight h.line) holdings) (filter (λ h. has_flight flight h.line) holdings)) [
        | true ↦ ap (λ (l : List Holding). l ++ flat_map (held_at whole) (places_from flight (suc n) holdings)) is ∙ ap (λ (l : List Holding). holding ∷ l) rest
        | false ↦ rest
      ]

  pub held_placed : (places : List ℕ) → places ≡ places_of flight whole → flat_map (held_at whole) places ≡ filter (λ holding. has_flight flight holding.line) whole
  held_placed places is = ap (flat_map (held_at whole)) is ∙ held_from 0 whole refl

-- ---- loops over places

pub at_held : (test : ℕ → Holding → Bool) (holdings : List Holding) (n : ℕ) (holding : Holding) → slice_get holdings n ≡ Some holding → passes_at test holdings n ≡ test n holding
at_held test holdings n holding is = ap (passes_option test n) is

of-none-more : (test : ℕ → Bool) (ns : List ℕ) (n : ℕ) → first_of test ns ≡ None → test n ≡ false → first_of test (ns ++ n ∷ []) ≡ None
of-none-more test [] n none fails = rw fails refl
of-none-more test (m ∷ ns) n none fails =
    elim (test m) as (λ b. cond b (Some m) (first_of test ns) ≡ None → cond b (Some m) (first_of test (ns ++ n ∷ [])) ≡ None) [
      | true ↦ λ e. cc
      | false ↦ λ e. of-none-more test ns n e fails
    ] none

pub of-none-next : (test : ℕ → Bool) (ns : List ℕ) (i : ℕ) → i < length ns → first_of test (take i ns) ≡ None → test (get_or ns i 0) ≡ false → first_of test (take (i + 1) ns) ≡ None
of-none-next test ns i lt none fails = ap (first_of test) (ap (λ (k : ℕ). take k ns) (add-one i) ∙ take-suc ns i 0 lt) ∙ of-none-more test (take i ns) (get_or ns i 0) none fails

pub of-here : (test : ℕ → Bool) (ns : List ℕ) (i : ℕ) → i < length ns → first_of test (take i ns) ≡ None → test (get_or ns i 0) ≡ true → first_of test ns ≡ Some (get_or ns i 0)
of-here test [] i lt none passes = absurd (omega (arith, lt))
of-here test (m ∷ ns) zero lt none passes = rw passes refl
of-here test (m ∷ ns) (suc i) lt none passes =
    elim (test m) as (λ b. cond b (Some m) (first_of test (take i ns)) ≡ None → cond b (Some m) (first_of test ns) ≡ Some (get_or ns i 0)) [
      | true ↦ λ e. cc
      | false ↦ λ e. of-here test ns i (omega (arith, lt)) e passes
    ] none

pub of-none-end : (test : ℕ → Bool) (ns : List ℕ) (i : ℕ) → i ≤ length ns → length ns ≤ i → first_of test (take i ns) ≡ None → first_of test ns ≡ None
of-none-end test ns i le ge none =
    let e : length ns ≡ i = omega (arith, le, ge) in
    sym (ap (first_of test) (ap (λ (k : ℕ). take k ns) (sym e) ∙ take-length ns)) ∙ none

pub any-next : (test : ℕ → Bool) (ns : List ℕ) (i : ℕ) → i < length ns → list_any test (take i ns) ≡ false → test (get_or ns i 0) ≡ false → list_any test (take (i + 1) ns) ≡ false
any-next test ns i lt none fails =
    ap (list_any test) (ap (λ (k : ℕ). take k ns) (add-one i) ∙ take-suc ns i 0 lt) ∙ list_any-append test (take i ns) (get_or ns i 0 ∷ []) ∙ rw (none, fails) refl

pub any-here : (test : ℕ → Bool) (ns : List ℕ) (i : ℕ) → i < length ns → test (get_or ns i 0) ≡ true → list_any test ns ≡ true
any-here test [] i lt passes = absurd (omega (arith, lt))
any-here test (m ∷ ns) zero lt passes = rw passes refl
any-here test (m ∷ ns) (suc i) lt passes = or_right (test m) (list_any test ns) (any-here test ns i (omega (arith, lt)) passes)

pub any-end : (test : ℕ → Bool) (ns : List ℕ) (i : ℕ) → i ≤ length ns → length ns ≤ i → list_any test (take i ns) ≡ false → list_any test ns ≡ false
any-end test ns i le ge none =
    let e : length ns ≡ i = omega (arith, le, ge) in
    sym (ap (list_any test) (ap (λ (k : ℕ). take k ns) (sym e) ∙ take-length ns)) ∙ none

pub flat-next : (f : ℕ → List Holding) (ns : List ℕ) (i : ℕ) → i < length ns → flat_map f (take (i + 1) ns) ≡ flat_map f (take i ns) ++ f (get_or ns i 0)
flat-next f ns i lt = ap (flat_map f) (ap (λ (k : ℕ). take k ns) (add-one i) ∙ take-suc ns i 0 lt) ∙ more (take i ns) (get_or ns i 0)
  where
    more : (ms : List ℕ) (m : ℕ) → flat_map f (ms ++ m ∷ []) ≡ flat_map f ms ++ f m
    more [] m = append-nil (f m)
    more (n ∷ ms) m = ap (λ (t : List Holding). f n ++ t) (more ms m) ∙ sym (append_assoc (f n) (flat_map f ms) (f m))
