-- The order of airlines, and one put into its place.
use Rattle.std.proofs.Common.{◌≡◌, ℕ, zero, suc, ◌<◌, ◌≤◌, inl, inr, Bool, true, false, ◌&&◌, refl, sym, ◌∙◌, ap, subst, arith, List, [], ◌∷◌, ◌++◌, length, get_or, take, drop}
use Rattle.std.specs.Prelude.{All, IfSome, slice_get, nat_lt, ◌==◌, if◌then◌else◌}
use Rattle.std.proofs.lemmas.Bool.{cases_eq, eq-eqb, ne_eqb, and_left, and_right, ltb-true, ltb-false, lt-ltb, le-ltb}
use Rattle.std.proofs.lemmas.Option.{slice_get_past}
use Rattle.std.proofs.lemmas.List.Elements.{All-head, All-tail}
use Rattle.series_model.specs.Submissions.{are_letters}
use Rattle.season_report.specs.Tallies.{comes_before, with_airline}

abbrev before_by : ℕ → List ℕ → ℕ → List ℕ → Bool → Bool
before_by a one b other same = if same then comes_before one other else nat_lt a b

-- an airline that comes before another is not that one, and not the later
not_same : (one other : List ℕ) → comes_before other one ≡ true → are_letters one other ≡ false
not_same [] [] before = cc
not_same [] (b ∷ other) before = refl
not_same (a ∷ one) [] before = refl
not_same (a ∷ one) (b ∷ other) before =
    elim (cases_eq a b) as (λ w. are_letters (a ∷ one) (b ∷ other) ≡ false) [
      | inl same ↦ and_right (a == b) (are_letters one other) (not_same one other (sym (ap (before_by b other a one) (eq-eqb b a (sym same))) ∙ before))
      | inr apart ↦ and_left (a == b) (are_letters one other) (ne_eqb a b apart)
    ]

not_later : (one other : List ℕ) → comes_before other one ≡ true → comes_before one other ≡ false
not_later [] [] before = refl
not_later [] (b ∷ other) before = cc
not_later (a ∷ one) [] before = refl
not_later (a ∷ one) (b ∷ other) before =
    elim (cases_eq a b) as (λ w. comes_before (a ∷ one) (b ∷ other) ≡ false) [
      | inl same ↦
          ap (before_by a one b other) (eq-eqb a b same)
          ∙ not_later one other (sym (ap (before_by b other a one) (eq-eqb b a (sym same))) ∙ before)
      | inr apart ↦
          let less : nat_lt b a ≡ true = sym (ap (before_by b other a one) (ne_eqb b a (λ e. apart (sym e)))) ∙ before in
          let lt : b < a = ltb-true b a less in
          ap (before_by a one b other) (ne_eqb a b apart) ∙ le-ltb a b (omega arith)
    ]

-- of two that are not the same one comes before the other
one_before : (one other : List ℕ) → comes_before other one ≡ false → are_letters one other ≡ false → comes_before one other ≡ true
one_before [] [] before same = cc
one_before [] (b ∷ other) before same = refl
one_before (a ∷ one) [] before same = cc
one_before (a ∷ one) (b ∷ other) before apart =
    elim (cases_eq a b) as (λ w. comes_before (a ∷ one) (b ∷ other) ≡ true) [
      | inl same ↦
          ap (before_by a one b other) (eq-eqb a b same)
          ∙ one_before one other
          (sym (ap (before_by b other a one) (eq-eqb b a (sym same))) ∙ before)
          (sym (ap (λ (t : Bool). t && are_letters one other) (eq-eqb a b same)) ∙ apart)
      | inr other_byte ↦
          let less : nat_lt b a ≡ false = sym (ap (before_by b other a one) (ne_eqb b a (λ e. other_byte (sym e)))) ∙ before in
          let le : a ≤ b = ltb-false b a less in
          ap (before_by a one b other) (ne_eqb a b other_byte) ∙ lt-ltb a b (omega (arith, le, other_byte))
    ]

-- ---- an airline in its place

abbrev with_by : List ℕ → List ℕ → List (List ℕ) → Bool → Bool → List (List ℕ)
with_by airline other others same before =
    if same then other ∷ others else (if before then airline ∷ other ∷ others else other ∷ with_airline others airline)

later : (airline other : List ℕ) (others : List (List ℕ)) → comes_before other airline ≡ true → with_airline (other ∷ others) airline ≡ other ∷ with_airline others airline
later airline other others before =
    ap (λ (same : Bool). with_by airline other others same (comes_before airline other)) (not_same airline other before)
    ∙ ap (λ (b : Bool). with_by airline other others false b) (not_later airline other before)

pub airline_there : (airlines : List (List ℕ)) (airline : List ℕ) (at : ℕ) (d : List ℕ) → All (λ other. comes_before other airline ≡ true) (take at airlines) → at < length airlines → are_letters airline (get_or airlines at d) ≡ true →
    with_airline airlines airline ≡ airlines
airline_there [] airline at d before lt same = absurd (omega arith)
airline_there (other ∷ others) airline zero d before lt same =
    ap (λ (t : Bool). with_by airline other others t (comes_before airline other)) same
airline_there (other ∷ others) airline (suc at) d before lt same =
    let P : List ℕ → Type 0 = λ (one : List ℕ). comes_before one airline ≡ true in
    later airline other others (All-head P other (take at others) before)
    ∙ ap (λ (rest : List (List ℕ)). other ∷ rest) (airline_there others airline at d (All-tail P other (take at others) before) (omega arith) same)

pub airline_placed : (airlines : List (List ℕ)) (airline : List ℕ) (at : ℕ) (d : List ℕ) → All (λ other. comes_before other airline ≡ true) (take at airlines) → IfSome (slice_get airlines at) (λ other. comes_before other airline ≡ false) →
    at ≤ length airlines → (at < length airlines → are_letters airline (get_or airlines at d) ≡ false) → with_airline airlines airline ≡ take at airlines ++ airline ∷ drop at airlines
airline_placed [] airline zero d before next le apart = refl
airline_placed [] airline (suc at) d before next le apart = absurd (omega arith)
airline_placed (other ∷ others) airline zero d before next le apart =
    let not_it : are_letters airline other ≡ false = apart (omega arith) in
    ap (λ (t : Bool). with_by airline other others t (comes_before airline other)) not_it
    ∙ ap (λ (t : Bool). with_by airline other others false t) (one_before airline other next not_it)
airline_placed (other ∷ others) airline (suc at) d before next le apart =
    let P : List ℕ → Type 0 = λ (one : List ℕ). comes_before one airline ≡ true in
    later airline other others (All-head P other (take at others) before)
    ∙ ap (λ (rest : List (List ℕ)). other ∷ rest) (airline_placed others airline at d (All-tail P other (take at others) before) next (omega arith) (λ lt. apart (omega arith)))

pub next_none : (airlines : List (List ℕ)) (airline : List ℕ) → IfSome (slice_get airlines (length airlines)) (λ other. comes_before other airline ≡ false)
next_none airlines airline = subst (λ o. IfSome o (λ other. comes_before other airline ≡ false)) (sym (slice_get_past airlines (length airlines) (omega arith))) tt
