-- A search by rising cost finds the first cheapest of the times that fit.
use Rattle.std.proofs.Common.{◌≡◌, ℕ, zero, suc, ◌<◌, ◌≤◌, ◌==◌, ◌&&◌, nat_le, Bool, true, false, cond, List, [], ◌∷◌, ◌++◌, length, get_or, map, filter, refl, sym, ap, ◌∙◌, subst, arith, inl, inr, Option, Some, None}
use Rattle.std.specs.Prelude.{All, Contains, sum_by, is_some}
use Rattle.std.specs.Option.{ForSome}
use Rattle.std.proofs.lemmas.Bool.{cases_Bool, cases_lt, eqb-true, eqb-false, leb-true, leb-false, le-leb, lt-leb, and_parts, and_cases, both_ways}
use Rattle.std.proofs.lemmas.List.Elements.{All-nil, All-cons, All-head, All-tail, All-push, All-weaker, Contains-push, Contains-append_left}
use Rattle.std.proofs.lemmas.List.Sums.{sum_by-cons}
use Rattle.series_model.specs.declared.times.Times.{Times}
use Rattle.holding_book.specs.Books.{cheaper, first_cheapest}
use Rattle.holding_book.specs.Private.Levels.{is_passed, lesser, IsNextLevel, IsFloor, first_at_level, levels_left}
use Rattle.holding_book.proofs.NextLemmas.{cheapest_is}

le_true : (n m : ℕ) → n ≤ m → nat_le n m ≡ true
le_true n m le = le-leb n m le

le_false : (n m : ℕ) → m < n → nat_le n m ≡ false
le_false n m lt = lt-leb n m lt

-- the test of one level
abbrev passes : (Times → ℕ) → (Times → Bool) → ℕ → Times → Bool
passes cost fits level times = cost times == level && fits times

module _ (cost : Times → ℕ) (fits : Times → Bool) where
  -- what is found has the cost
  at_level : (level : ℕ) (shifts : List Times) (times : Times) → first_at_level cost fits level shifts ≡ Some times → cost times ≡ level
  at_level level [] times e = cc
  at_level level (first ∷ shifts) times e =
      elim (cases_Bool (passes cost fits level first)) [
        | inl here ↦
            let same : first ≡ times = some_same first times (subst (λ (b : Bool). cond b (Some first) (first_at_level cost fits level shifts) ≡ Some times) here e) in
            ap cost (sym same) ∙ eqb-true (cost first) level (and_parts (cost first == level) (fits first) here).0
        | inr not_here ↦ at_level level shifts times (subst (λ (b : Bool). cond b (Some first) (first_at_level cost fits level shifts) ≡ Some times) not_here e)
      ]
    where
      some_same : (one other : Times) → Some one ≡ Some other → one ≡ other
      some_same one other e = cc

  -- the first of the least cost is the first cheapest
  keeps_first : (level : ℕ) (times : Times) (rest : Option Times) → cost times ≡ level → ((t : Times) → rest ≡ Some t → level ≤ cost t) → cheaper cost times rest ≡ times
  keeps_first level times None e least = refl
  keeps_first level times (Some later) e least = rw (le_true (cost times) (cost later) (omega (arith, e, least later refl))) refl

  takes_later : (level : ℕ) (first times : Times) → cost times ≡ level → level < cost first → cheaper cost first (Some times) ≡ times
  takes_later level first times e lt = rw (le_false (cost first) (cost times) (omega (arith, e, lt))) refl

  -- times that fit and are not of the level cost more
  above : (level : ℕ) (first : Times) → fits first ≡ true → (cost first == level && fits first) ≡ false → level ≤ cost first → level < cost first
  above level first fit not_both le =
      elim (and_cases (cost first == level) (fits first) not_both) [
        | inl other ↦ elim (cases_lt level (cost first)) [
          | inl lt ↦ lt
          | inr ge ↦ absurd (eqb-false (cost first) level other (omega (arith, le, ge)))
        ]
        | inr full ↦ absurd (both_ways (fits first) full fit)
      ]

  level_found : (level : ℕ) (shifts : List Times) (times : Times) → IsFloor cost fits shifts (Some level) → first_at_level cost fits level shifts ≡ Some times → first_cheapest cost (filter fits shifts) ≡ Some times
  level_found level [] times floor e = cc
  level_found level (first ∷ shifts) times floor e =
      let head : fits first ≡ true → level ≤ cost first = All-head (λ (t : Times). fits t ≡ true → level ≤ cost t) first shifts floor in
      let tail = All-tail (λ (t : Times). fits t ≡ true → level ≤ cost t) first shifts floor in
      elim (cases_Bool (passes cost fits level first)) [
        | inl here ↦
            let both = and_parts (cost first == level) (fits first) here in
            let fit : fits first ≡ true = both.1 in
            let found : Some first ≡ Some times = subst (λ (b : Bool). cond b (Some first) (first_at_level cost fits level shifts) ≡ Some times) here e in
            let least : (t : Times) → first_cheapest cost (filter fits shifts) ≡ Some t → level ≤ cost t = cheapest_is (λ (t : Times). level ≤ cost t) cost (filter fits shifts) (fitting level shifts tail) in
            rw fit (ap Some (keeps_first level first (first_cheapest cost (filter fits shifts)) (eqb-true (cost first) level both.0) least) ∙ found)
        | inr not_here ↦
            let later = subst (λ (b : Bool). cond b (Some first) (first_at_level cost fits level shifts) ≡ Some times) not_here e in
            let rest : first_cheapest cost (filter fits shifts) ≡ Some times = level_found level shifts times tail later in
            elim (cases_Bool (fits first)) [
              | inl fit ↦ rw (fit, rest) (ap Some (takes_later level first times (at_level level shifts times later) (above level first fit not_here (head fit))))
              | inr full ↦ rw full rest
            ]
      ]
    where
      -- of those that fit each costs at least the level
      fitting : (level : ℕ) (shifts : List Times) → All (λ (t : Times). fits t ≡ true → level ≤ cost t) shifts → All (λ (t : Times). level ≤ cost t) (filter fits shifts)
      fitting level [] floor = All-nil (λ (t : Times). level ≤ cost t)
      fitting level (first ∷ shifts) floor =
          let head : fits first ≡ true → level ≤ cost first = All-head (λ (t : Times). fits t ≡ true → level ≤ cost t) first shifts floor in
          let rest = fitting level shifts (All-tail (λ (t : Times). fits t ≡ true → level ≤ cost t) first shifts floor) in
          elim (cases_Bool (fits first)) [
            | inl fit ↦ rw fit (All-cons (λ (t : Times). level ≤ cost t) first (filter fits shifts) (head fit) rest)
            | inr full ↦ rw full rest
          ]

  -- what was found at the level is the answer
  pub best_found : (level : ℕ) (shifts : List Times) (best : Option Times) → IsFloor cost fits shifts (Some level) → best ≡ first_at_level cost fits level shifts → is_some best ≡ true → best ≡ first_cheapest cost (filter fits shifts)
  best_found level shifts None floor e some = absurd (cc some)
  best_found level shifts (Some times) floor e some = sym (level_found level shifts times floor (sym e))

  pub none_found : (level : ℕ) (shifts : List Times) (best : Option Times) → best ≡ first_at_level cost fits level shifts → is_some best ≡ false → first_at_level cost fits level shifts ≡ None
  none_found level shifts None e some = sym e
  none_found level shifts (Some times) e some = absurd (cc some)

  not_first : (level : ℕ) (first : Times) (shifts : List Times) → first_at_level cost fits level (first ∷ shifts) ≡ None → (passes cost fits level first ≡ false) × (first_at_level cost fits level shifts ≡ None)
  not_first level first shifts none =
      elim (passes cost fits level first) as (λ b. cond b (Some first) (first_at_level cost fits level shifts) ≡ None → (b ≡ false) × (first_at_level cost fits level shifts ≡ None)) [
        | true ↦ λ e. absurd (cc e)
        | false ↦ λ e. (refl, e)
      ] none

  -- the next level is a floor where this one is, and none of this one fits
  pub next_floor : (level : ℕ) (next : Option ℕ) (shifts : List Times) → IsFloor cost fits shifts (Some level) → first_at_level cost fits level shifts ≡ None → IsNextLevel (Some level) (map cost shifts) next → IsFloor cost fits shifts next
  next_floor level None [] floor none is = All-nil (λ (t : Times). fits t ≡ false)
  next_floor level None (first ∷ shifts) floor none is =
      let head : fits first ≡ true → level ≤ cost first = All-head (λ (t : Times). fits t ≡ true → level ≤ cost t) first shifts floor in
      let tail = All-tail (λ (t : Times). fits t ≡ true → level ≤ cost t) first shifts floor in
      let passed : nat_le (cost first) level ≡ true = All-head (λ (n : ℕ). is_passed (Some level) n ≡ true) (cost first) (map cost shifts) is in
      let others = All-tail (λ (n : ℕ). is_passed (Some level) n ≡ true) (cost first) (map cost shifts) is in
      let split = not_first level first shifts none in
      let full : fits first ≡ false = elim (cases_Bool (fits first)) [
        | inl fit ↦ let lt = above level first fit split.0 (head fit) in absurd (omega (arith, lt, leb-true (cost first) level passed))
        | inr full ↦ full
      ] in
      All-cons (λ (t : Times). fits t ≡ false) first shifts full (next_floor level None shifts tail split.1 others)
  next_floor level (Some next) shifts floor none is = more level next shifts floor none is.2
    where
      more : (level next : ℕ) (shifts : List Times) → All (λ (t : Times). fits t ≡ true → level ≤ cost t) shifts → first_at_level cost fits level shifts ≡ None → All (λ (n : ℕ). is_passed (Some level) n ≡ false → next ≤ n) (map cost shifts) → All (λ (t : Times). fits t ≡ true → next ≤ cost t) shifts
      more level next [] floor none is = All-nil (λ (t : Times). fits t ≡ true → next ≤ cost t)
      more level next (first ∷ shifts) floor none is =
          let head : fits first ≡ true → level ≤ cost first = All-head (λ (t : Times). fits t ≡ true → level ≤ cost t) first shifts floor in
          let tail = All-tail (λ (t : Times). fits t ≡ true → level ≤ cost t) first shifts floor in
          let least : nat_le (cost first) level ≡ false → next ≤ cost first = All-head (λ (n : ℕ). is_passed (Some level) n ≡ false → next ≤ n) (cost first) (map cost shifts) is in
          let others = All-tail (λ (n : ℕ). is_passed (Some level) n ≡ false → next ≤ n) (cost first) (map cost shifts) is in
          let split = not_first level first shifts none in
          All-cons (λ (t : Times). fits t ≡ true → next ≤ cost t) first shifts
          (λ fit. least (le_false (cost first) level (above level first fit split.0 (head fit))))
          (more level next shifts tail split.1 others)

  -- without a level nothing fits
  pub none_fits : (shifts : List Times) → IsFloor cost fits shifts None → first_cheapest cost (filter fits shifts) ≡ None
  none_fits [] floor = refl
  none_fits (first ∷ shifts) floor =
      let full : fits first ≡ false = All-head (λ (t : Times). fits t ≡ false) first shifts floor in
      rw full (none_fits shifts (All-tail (λ (t : Times). fits t ≡ false) first shifts floor))

  -- the first level is a floor
  pub first_floor : (level : Option ℕ) (shifts : List Times) → IsNextLevel None (map cost shifts) level → IsFloor cost fits shifts level
  first_floor None [] is = All-nil (λ (t : Times). fits t ≡ false)
  first_floor None (first ∷ shifts) is =
      let no : false ≡ true = All-head (λ (n : ℕ). is_passed None n ≡ true) (cost first) (map cost shifts) is in
      absurd (cc no)
  first_floor (Some level) shifts is = all_above level shifts is.2
    where
      all_above : (level : ℕ) (shifts : List Times) → All (λ (n : ℕ). is_passed None n ≡ false → level ≤ n) (map cost shifts) → All (λ (t : Times). fits t ≡ true → level ≤ cost t) shifts
      all_above level [] is = All-nil (λ (t : Times). fits t ≡ true → level ≤ cost t)
      all_above level (first ∷ shifts) is =
          let here : false ≡ false → level ≤ cost first = All-head (λ (n : ℕ). is_passed None n ≡ false → level ≤ n) (cost first) (map cost shifts) is in
          All-cons (λ (t : Times). fits t ≡ true → level ≤ cost t) first shifts (λ fit. here refl)
          (all_above level shifts (All-tail (λ (n : ℕ). is_passed None n ≡ false → level ≤ n) (cost first) (map cost shifts) is))

-- ---- which level comes next

-- one cost more
pub next_more : (last : Option ℕ) (costs : List ℕ) (cost : ℕ) (least : Option ℕ) → IsNextLevel last costs least → IsNextLevel last (costs ++ cost ∷ []) (lesser least last cost)
next_more last costs cost None is =
    elim (is_passed last cost) as (λ b. is_passed last cost ≡ b → IsNextLevel last (costs ++ cost ∷ []) (cond b None (Some cost))) [
      | true ↦ λ e. All-push (λ (n : ℕ). is_passed last n ≡ true) costs cost is e
      | false ↦ λ e. (
        Contains-push costs cost,
        e,
        All-push (λ (n : ℕ). is_passed last n ≡ false → cost ≤ n) costs cost
            (All-weaker (λ (n : ℕ). is_passed last n ≡ true) (λ (n : ℕ). is_passed last n ≡ false → cost ≤ n) (λ n t f. absurd (both_ways (is_passed last n) f t)) costs is)
            (λ _. omega arith),
      )
    ] refl
next_more last costs cost (Some least) is =
    elim (is_passed last cost) as (λ b. is_passed last cost ≡ b → IsNextLevel last (costs ++ cost ∷ []) (cond b (Some least) (Some (cond (nat_le least cost) least cost)))) [
      | true ↦ λ e. (
        Contains-append_left costs (cost ∷ []) least is.0,
        is.1,
        All-push (λ (n : ℕ). is_passed last n ≡ false → least ≤ n) costs cost is.2 (λ f. absurd (both_ways (is_passed last cost) f e)),
      )
      | false ↦ λ e. elim (nat_le least cost) as (λ b. nat_le least cost ≡ b → IsNextLevel last (costs ++ cost ∷ []) (Some (cond b least cost))) [
        | true ↦ λ le. (
          Contains-append_left costs (cost ∷ []) least is.0,
          is.1,
          All-push (λ (n : ℕ). is_passed last n ≡ false → least ≤ n) costs cost is.2 (λ _. leb-true least cost le),
        )
        | false ↦ λ gt. (
          Contains-push costs cost,
          e,
          All-push (λ (n : ℕ). is_passed last n ≡ false → cost ≤ n) costs cost
              (All-weaker (λ (n : ℕ). is_passed last n ≡ false → least ≤ n) (λ (n : ℕ). is_passed last n ≡ false → cost ≤ n) (λ n h f. omega (arith, leb-false least cost gt, h f)) costs is.2)
              (λ _. omega arith),
        )
      ] refl
    ] refl

-- each level is one of the costs
pub level_there : (last : Option ℕ) (costs : List ℕ) (next : Option ℕ) → IsNextLevel last costs next → ForSome next (Contains costs)
level_there last costs None is = λ x e. absurd (cc e)
level_there last costs (Some level) is = λ x e. let same : level ≡ x = cc e in subst (λ (n : ℕ). Contains costs n) same is.0

-- ---- levels run out

one_fewer : (level next cost : ℕ) → level < next → cond (nat_le next cost) 1 0 ≤ cond (nat_le level cost) 1 0
one_fewer level next cost lt =
    elim (cases_Bool (nat_le next cost)) [
      | inl le ↦
          let other = le_true level cost (omega (arith, lt, leb-true next cost le)) in
          rw (le, other) (omega arith)
      | inr gt ↦ rw gt (omega arith)
    ]

here_fewer : (level next cost : ℕ) → level < next → cost ≡ level → cond (nat_le next cost) 1 0 < cond (nat_le level cost) 1 0
here_fewer level next cost lt e =
    let above = le_false next cost (omega (arith, lt, e)) in
    let here = le_true level cost (omega (arith, e)) in
    rw (above, here) (omega arith)

no_more : (level next : ℕ) (costs : List ℕ) → level < next → sum_by (λ (cost : ℕ). cond (nat_le next cost) 1 0) costs ≤ sum_by (λ (cost : ℕ). cond (nat_le level cost) 1 0) costs
no_more level next [] lt = omega arith
no_more level next (cost ∷ costs) lt =
    omega (arith, sum_by-cons (λ (cost : ℕ). cond (nat_le next cost) 1 0) cost costs, sum_by-cons (λ (cost : ℕ). cond (nat_le level cost) 1 0) cost costs, one_fewer level next cost lt, no_more level next costs lt)

strictly : (level next : ℕ) (costs : List ℕ) (k d : ℕ) → level < next → k < length costs → get_or costs k d ≡ level → sum_by (λ (cost : ℕ). cond (nat_le next cost) 1 0) costs < sum_by (λ (cost : ℕ). cond (nat_le level cost) 1 0) costs
strictly level next [] k d lt l e = absurd (omega (arith, l))
strictly level next (cost ∷ costs) zero d lt l e =
    omega (arith, sum_by-cons (λ (cost : ℕ). cond (nat_le next cost) 1 0) cost costs, sum_by-cons (λ (cost : ℕ). cond (nat_le level cost) 1 0) cost costs, here_fewer level next cost lt e, no_more level next costs lt)
strictly level next (cost ∷ costs) (suc k) d lt l e =
    omega (arith, sum_by-cons (λ (cost : ℕ). cond (nat_le next cost) 1 0) cost costs, sum_by-cons (λ (cost : ℕ). cond (nat_le level cost) 1 0) cost costs, one_fewer level next cost lt, strictly level next costs k d lt (omega (arith, l)) e)

-- behind the next level are fewer costs than behind this one
pub fewer_left : (level : ℕ) (costs : List ℕ) (next : Option ℕ) → Contains costs level → IsNextLevel (Some level) costs next → levels_left costs next < levels_left costs (Some level)
fewer_left level costs None has is =
    let less : sum_by (λ (cost : ℕ). cond (nat_le (suc level) cost) 1 0) costs < levels_left costs (Some level) = strictly level (suc level) costs has.0 level (omega arith) has.1 has.2 in
    omega (arith, less)
fewer_left level costs (Some next) has is = strictly level next costs has.0 level (leb-false next level is.1) has.1 has.2
