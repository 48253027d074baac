-- Least loads of resources that are kept while the ranges change.
use Rattle.std.proofs.Common.{◌≡◌, ◌⊎◌, ℕ, ◌+◌, ◌-◌, ◌*◌, ◌<◌, ◌≤◌, refl, sym, ◌∙◌, ap, subst, arith, List, [], ◌∷◌, length, length-drop, get_or, set, inl, inr}
use Rattle.std.specs.Prelude.{drop, take, Option, Some, None, IfSome, slice_set}
use Rattle.std.specs.List.{Contains}
use Rattle.std.proofs.lemmas.Bool.{cases_lt}
use Rattle.std.proofs.lemmas.List.{get_or-set_same, get_or-set_other, length-set}
use Rattle.finite_sums.specs.Sums.{least_within}
use Rattle.finite_sums.proofs.ChangeLemmas.{sum_below-change, sum_below-const, term-le}
use Rattle.choice_problem.specs.declared.problems.TheConstants.{MOST_UNITS, MOST_USES}
use Rattle.choice_problem.specs.Problems.{ProblemView, unit_count, alt_uses}
use Rattle.choice_problem.specs.Bounds.{AreRanges, low_of, high_of, least_load}
use Rattle.choice_problem.specs.Walks.{AreChanges}
use Rattle.cert_checker.specs.declared.kept_loads.KeptLoad.{KeptLoad}
use Rattle.kept_bounds.specs.Changes.{AgreeBut, HasSeen}
use Rattle.cert_checker.specs.KeptLoads.{least_at, IsKeptLoad, AreKeptLoads}

-- one unit's uses
pub part-within : (p : ProblemView) (k : KeptLoad) (unit : ℕ) → IsKeptLoad p k → unit < unit_count p → get_or k.uses.items unit 0 ≤ k.load
part-within p k unit is lt =
    let part = term-le (unit_count p) unit (least_at p k.ranges k.resource) lt in
    omega (arith, part, is.load, is.uses unit lt)

pub load-small : (p : ProblemView) (k : KeptLoad) → IsKeptLoad p k → k.load ≤ MOST_UNITS * MOST_USES
load-small p k is =
    let most = sum_below-const (unit_count p) MOST_USES (least_at p k.ranges k.resource) is.few in
    let few : unit_count p ≤ MOST_UNITS = is.size in
    omega (arith, most, few, is.load)

same-range : (p : ProblemView) (one other : List (ℕ × ℕ)) (r u : ℕ) → get_or one u (0, 0) ≡ get_or other u (0, 0) → least_at p one r u ≡ least_at p other r u
same-range p one other r u e = ap (λ (s : ℕ × ℕ). least_within s.0 s.1 (λ a. alt_uses p u a r)) e

-- one unit is at its range
pub unit-moved : (p : ProblemView) (old new : KeptLoad) (ranges : List (ℕ × ℕ)) (unit uses : ℕ) → IsKeptLoad p old → unit < unit_count p → uses ≡ least_at p ranges old.resource unit → uses ≤ MOST_USES
    → new.resource ≡ old.resource → new.ranges ≡ set old.ranges unit (low_of ranges unit, high_of ranges unit) → new.uses.items ≡ set old.uses.items unit uses
    → new.load + get_or old.uses.items unit 0 ≡ old.load + uses → AreRanges p new.ranges → IsKeptLoad p new
unit-moved p old new ranges unit uses is lt uses_is few resource moved stored load valid =
    let r = old.resource in
    let span : ℕ × ℕ = (low_of ranges unit, high_of ranges unit) in
    let in_range : unit < length old.ranges = omega (arith, lt, is.valid.length) in
    let in_uses : unit < length old.uses.items = omega (arith, lt, is.count) in
    let at_unit : get_or new.ranges unit (0, 0) ≡ get_or ranges unit (0, 0) = ap (λ (xs : List (ℕ × ℕ)). get_or xs unit (0, 0)) moved ∙ get_or-set_same old.ranges unit span (0, 0) in_range in
    let away : (u : ℕ) → (u ≡ unit → ⊥) → get_or new.ranges u (0, 0) ≡ get_or old.ranges u (0, 0) =
    λ u other. ap (λ (xs : List (ℕ × ℕ)). get_or xs u (0, 0)) moved ∙ get_or-set_other old.ranges unit u span (0, 0) other in
    let here : least_at p new.ranges r unit ≡ uses = same-range p new.ranges ranges r unit at_unit ∙ sym uses_is in
    let others : (u : ℕ) → (u ≡ unit → ⊥) → least_at p new.ranges r u ≡ least_at p old.ranges r u = λ u other. same-range p new.ranges old.ranges r u (away u other) in
    let change : least_load p old.ranges r + least_at p new.ranges r unit ≡ least_load p new.ranges r + least_at p old.ranges r unit =
    sum_below-change (unit_count p) unit (least_at p old.ranges r) (least_at p new.ranges r) lt (λ u lu other. sym (others u other)) in
    let was = is.uses unit lt in
    let stored_here : get_or new.uses.items unit 0 ≡ uses = ap (λ (xs : List ℕ). get_or xs unit 0) stored ∙ get_or-set_same old.uses.items unit uses 0 in_uses in
    let stored_away : (u : ℕ) → (u ≡ unit → ⊥) → get_or new.uses.items u 0 ≡ get_or old.uses.items u 0 =
    λ u other. ap (λ (xs : List ℕ). get_or xs u 0) stored ∙ get_or-set_other old.uses.items unit u uses 0 other in
    let each : (u : ℕ) → u < unit_count p → (get_or new.uses.items u 0 ≡ least_at p new.ranges r u) × (least_at p new.ranges r u ≤ MOST_USES) = λ u lu.
    elim (same-or-not u unit) [
      | inl e ↦ subst (λ (v : ℕ). (get_or new.uses.items v 0 ≡ least_at p new.ranges r v) × (least_at p new.ranges r v ≤ MOST_USES)) (sym e) (stored_here ∙ sym here, omega (arith, here, few))
      | inr other ↦ (stored_away u other ∙ is.uses u lu ∙ sym (others u other), subst (λ (n : ℕ). n ≤ MOST_USES) (sym (others u other)) (is.few u lu))
    ] in
    let total : new.load ≡ least_load p new.ranges r = omega (arith, load, change, here, was, is.load) in
    record {
      size = is.size;
      there = omega (arith, resource, is.there);
      valid = valid;
      count = ap (λ (xs : List ℕ). length xs) stored ∙ length-set old.uses.items unit uses ∙ is.count;
      uses = λ u lu. (each u lu).0 ∙ ap (λ (n : ℕ). least_at p new.ranges n u) (sym resource);
      few = λ u lu. subst (λ (n : ℕ). least_at p new.ranges n u ≤ MOST_USES) (sym resource) (each u lu).1;
      load = total ∙ ap (λ (n : ℕ). least_load p new.ranges n) (sym resource);
    }
  where
    same-or-not : (u v : ℕ) → (u ≡ v) ⊎ (u ≡ v → ⊥)
    same-or-not u v = elim (cases_lt u v) [
      | inl below ↦ inr (λ e. let no : ⊥ = omega (arith, below, e) in no)
      | inr past ↦ elim (cases_lt v u) [
        | inl above ↦ inr (λ e. let no : ⊥ = omega (arith, above, e) in no)
        | inr last ↦ inl (omega (arith, past, last))
      ]
    ]

-- what has seen all changes but the last ones has so after more of them
abbrev pub SeenMore : Type 0
SeenMore = (at old new : List (ℕ × ℕ)) (before after : List ℕ) (seen : ℕ) → AreChanges old new before after → HasSeen at old before seen → HasSeen at new after seen

-- ---- places

abbrev IsInPlace : ProblemView → List (ℕ × ℕ) → List (ℕ × ℕ) → List ℕ → List ℕ → KeptLoad → Type 0
IsInPlace p ranges whole changes marked k = IsKeptLoad p k × HasSeen k.ranges ranges changes k.seen × AgreeBut marked whole k.ranges

place-more : SeenMore → (p : ProblemView) (old new whole : List (ℕ × ℕ)) (before after marked more : List ℕ) (o : Option KeptLoad) → AreChanges old new before after → ((u : ℕ) → Contains marked u → Contains more u)
    → IfSome o (IsInPlace p old whole before marked) → IfSome o (IsInPlace p new whole after more)
place-more law p old new whole before after marked more None changed stay h = tt
place-more law p old new whole before after marked more (Some k) changed stay h =
    (h.0, law k.ranges old new before after k.seen changed h.1, λ u out. h.2 u (λ there. out (stay u there)))

pub places-more : SeenMore → (p : ProblemView) (old new whole : List (ℕ × ℕ)) (before after marked more : List ℕ) (kept : List (Option KeptLoad)) → AreChanges old new before after → ((u : ℕ) → Contains marked u → Contains more u)
    → AreKeptLoads p old whole before marked kept → AreKeptLoads p new whole after more kept
places-more law p old new whole before after marked more kept changed stay are = λ i. place-more law p old new whole before after marked more (get_or kept i None) changed stay (are i)

-- a place filled again
pub places-again : (p : ProblemView) (ranges whole : List (ℕ × ℕ)) (changes marked : List ℕ) (old : List (Option KeptLoad)) (i : ℕ) (x : Option KeptLoad) (k : KeptLoad) → AreKeptLoads p ranges whole changes marked old → i < length old
    → IsKeptLoad p k → k.ranges ≡ ranges → k.seen ≡ length changes → AgreeBut marked whole ranges → AreKeptLoads p ranges whole changes marked (slice_set (slice_set old i x) i (Some k))
places-again p ranges whole changes marked old i x k are lt is at all agree =
    let one = set old i x in
    let new = set one i (Some k) in
    let count : length one ≡ length old = length-set old i x in
    let here : get_or new i None ≡ Some k = get_or-set_same one i (Some k) None (omega (arith, lt, count)) in
    let others : (j : ℕ) → (j ≡ i → ⊥) → get_or new j None ≡ get_or old j None = λ j other. get_or-set_other one i j (Some k) None other ∙ get_or-set_other old i j x None other in
    let full : IsInPlace p ranges whole changes marked k =
    (is, record { few = omega (arith, all); others = λ u out. ap (λ (xs : List (ℕ × ℕ)). get_or xs u (0, 0)) at }, λ u out. agree u out ∙ ap (λ (xs : List (ℕ × ℕ)). get_or xs u (0, 0)) (sym at)) in
    λ j. elim (cases_lt j i) [
      | inl below ↦ subst (λ (o : Option KeptLoad). IfSome o (IsInPlace p ranges whole changes marked)) (sym (others j (λ e. let no : ⊥ = omega (arith, below, e) in no))) (are j)
      | inr past ↦ elim (cases_lt i j) [
        | inl above ↦ subst (λ (o : Option KeptLoad). IfSome o (IsInPlace p ranges whole changes marked)) (sym (others j (λ e. let no : ⊥ = omega (arith, above, e) in no))) (are j)
        | inr last ↦ let e : i ≡ j = omega arith in
            subst (λ (n : ℕ). IfSome (get_or new n None) (IsInPlace p ranges whole changes marked)) e
            (subst (λ (o : Option KeptLoad). IfSome o (IsInPlace p ranges whole changes marked)) (sym here) full)
      ]
    ]

pub places-none : (p : ProblemView) (ranges whole : List (ℕ × ℕ)) (changes marked : List ℕ) (kept : List (Option KeptLoad)) → ((i : ℕ) → get_or kept i None ≡ None) → AreKeptLoads p ranges whole changes marked kept
places-none p ranges whole changes marked kept none = λ i. subst (λ (o : Option KeptLoad). IfSome o (IsInPlace p ranges whole changes marked)) (sym (none i)) tt

-- what a place asks of a node's ranges
pub place-now : (p : ProblemView) (ranges whole : List (ℕ × ℕ)) (changes marked : List ℕ) (o : Option KeptLoad) → AgreeBut marked whole ranges → IfSome o (IsInPlace p ranges whole changes marked)
    → IfSome o (λ (k : KeptLoad). IsKeptLoad p k × HasSeen k.ranges ranges changes k.seen × AgreeBut marked k.ranges ranges)
place-now p ranges whole changes marked None agree h = tt
place-now p ranges whole changes marked (Some k) agree h = (h.0, h.1, λ u out. sym (h.2 u out) ∙ agree u out)

-- the end of a list
take-length : (xs : List ℕ) → take (length xs) xs ≡ xs
take-length [] = refl
take-length (x ∷ xs) = ap (λ (ys : List ℕ). x ∷ ys) (take-length xs)

pub take-rest : (xs : List ℕ) (n : ℕ) → take (length xs - n) (drop n xs) ≡ drop n xs
take-rest xs n = ap (λ (k : ℕ). take k (drop n xs)) (sym (length-drop n xs)) ∙ take-length (drop n xs)
