-- Floors of ranges, one after the other, and the least of what they give.
use Rattle.std.proofs.Common.{◌≡◌, ℕ, ◌<◌, ◌≤◌, refl, sym, ◌∙◌, ap, subst, arith, List, [], ◌∷◌, ◌++◌, length, inl, inr, Option, Some, None}
use Rattle.std.specs.Prelude.{All, Contains, ◌⊎◌, min}
use Rattle.std.specs.List.{AllZip}
use Rattle.std.proofs.lemmas.Bool.{cases_lt}
use Rattle.std.proofs.lemmas.List.{append-nil}
use Rattle.std.proofs.Math.Nat.{min-le_left, min-le_right}
use Rattle.std.proofs.lemmas.List.Elements.{All-push, All-cons, All-nil, All-weaker, Contains-push, Contains-append_left}
use Rattle.choice_problem.specs.declared.vectors.Price.{Price}
use Rattle.choice_problem.specs.Problems.{ProblemView}
use Rattle.choice_problem.specs.Floors.{IsAtMost}
use Rattle.choice_problem.specs.Trees.{LeafHolds}
use Rattle.dual_bound.specs.Stated.{IsStatedFloor, scale_at}
use Rattle.cert_format.specs.declared.cert.Floor.{Floor}
use Rattle.season_run.specs.Ends.{IsLeastOf, floor_cost, floor_costs}
use Rattle.season_run.specs.Steps.{IsFoundFloor, IsLeastSoFar, least_with, AreFound}
use Rattle.season_run.specs.declared.floors.Stated.{Stated}

pub AllZip-push : {A B : Type 0} (R : A → B → Type 0) (xs : List A) (ys : List B) (x : A) (y : B) → AllZip R xs ys → R x y → AllZip R (xs ++ x ∷ []) (ys ++ y ∷ [])
AllZip-push R [] [] x y h r = (r, tt)
AllZip-push R [] (b ∷ ys) x y h r = absurd h
AllZip-push R (a ∷ xs) [] x y h r = absurd h
AllZip-push R (a ∷ xs) (b ∷ ys) x y h r = (h.0, AllZip-push R xs ys x y h.1 r)

pub AllZip-weaker : {A B : Type 0} (R Q : A → B → Type 0) (xs : List A) (ys : List B) → ((x : A) (y : B) → R x y → Q x y) → AllZip R xs ys → AllZip Q xs ys
AllZip-weaker R Q [] [] f h = tt
AllZip-weaker R Q [] (b ∷ ys) f h = absurd h
AllZip-weaker R Q (a ∷ xs) [] f h = absurd h
AllZip-weaker R Q (a ∷ xs) (b ∷ ys) f h = (f a b h.0, AllZip-weaker R Q xs ys f h.1)

costs-push : (p : ProblemView) (vectors : List (List Price)) (R : List (ℕ × ℕ) → Floor → Type 0) (pieces : List (List (ℕ × ℕ))) (floors : List Floor) (ranges : List (ℕ × ℕ)) (floor : Floor) →
    AllZip R pieces floors → floor_costs p vectors (pieces ++ ranges ∷ []) (floors ++ floor ∷ []) ≡ floor_costs p vectors pieces floors ++ floor_cost p vectors ranges floor ∷ []
costs-push p vectors R [] [] ranges floor h = refl
costs-push p vectors R [] (f ∷ floors) ranges floor h = absurd h
costs-push p vectors R (r ∷ pieces) [] ranges floor h = absurd h
costs-push p vectors R (r ∷ pieces) (f ∷ floors) ranges floor h =
    ap (λ (l : List ℕ). floor_cost p vectors r f ∷ l) (costs-push p vectors R pieces floors ranges floor h.1)

at_most-less : (least less : ℕ) (cost : Option ℕ) → less ≤ least → IsAtMost least cost → IsAtMost less cost
at_most-less least less None le h = tt
at_most-less least less (Some cost) le h = omega (arith, le, h)

which : (cost : Option ℕ) (numbers : List ℕ) (least n : ℕ) → IsLeastOf cost numbers least → (least < n) ⊎ (n ≤ least) →
    (cost ≡ Some (min least n)) ⊎ Contains (numbers ++ n ∷ []) (min least n)
which cost numbers least n h (inl le) =
    let same : min least n ≡ least = omega (arith, le) in
    elim h.reached [
      | inl at ↦ inl (at ∙ ap Some (sym same))
      | inr there ↦ inr (subst (Contains (numbers ++ n ∷ [])) (sym same) (Contains-append_left numbers (n ∷ []) least there))
    ]
which cost numbers least n h (inr le) =
    let same : min least n ≡ n = omega (arith, le) in
    inr (subst (Contains (numbers ++ n ∷ [])) (sym same) (Contains-push numbers n))

least-push : (cost : Option ℕ) (numbers : List ℕ) (least : Option ℕ) (n : ℕ) → IsLeastSoFar cost numbers least → IsLeastOf cost (numbers ++ n ∷ []) (least_with least n)
least-push cost numbers None n h = record {
  within = subst (IsAtMost n) (sym h.0) tt;
  below = subst (λ (l : List ℕ). All (λ m. n ≤ m) (l ++ n ∷ [])) (sym h.1) (All-cons (λ m. n ≤ m) n [] (omega arith) (All-nil (λ m. n ≤ m)));
  reached = inr (Contains-push numbers n);
}
least-push cost numbers (Some least) n h = record {
  within = at_most-less least (min least n) cost (min-le_left least n) h.within;
  below = All-push (λ m. min least n ≤ m) numbers n
      (All-weaker (λ m. least ≤ m) (λ m. min least n ≤ m) (λ m le. omega (arith, le, min-le_left least n)) numbers h.below) (min-le_right least n);
  reached = which cost numbers least n h (cases_lt least n);
}

-- one floor more
pub found-push : (p : ProblemView) (vectors : List (List Price)) (cost : Option ℕ) (pieces : List (List (ℕ × ℕ))) (old new : Stated) (ranges : List (ℕ × ℕ)) (floor : Floor) (given : ℕ) →
    new.floors.items ≡ old.floors.items ++ floor ∷ [] → new.bound ≡ Some (least_with old.bound given) → given ≡ floor_cost p vectors ranges floor →
    IsFoundFloor p vectors ranges floor → AreFound p vectors cost pieces old → AreFound p vectors cost (pieces ++ ranges ∷ []) new
found-push p vectors cost pieces old new ranges floor given floors bound is found h =
    let costs = costs-push p vectors (IsFoundFloor p vectors) pieces old.floors.items ranges floor h.floors in
    let least = least-push cost (floor_costs p vectors pieces old.floors.items) old.bound (floor_cost p vectors ranges floor) h.least in
    record {
      floors = rw floors (AllZip-push (IsFoundFloor p vectors) pieces old.floors.items ranges floor h.floors found);
      least = rw (floors, bound, is, costs) least;
    }

-- at the end there is a bound, where there are floors
pub found_bound : (p : ProblemView) (vectors : List (List Price)) (cost : Option ℕ) (pieces : List (List (ℕ × ℕ))) (floors : List Floor) (bound : Option ℕ) →
    AllZip (IsFoundFloor p vectors) pieces floors → 0 < length pieces → IsLeastSoFar cost (floor_costs p vectors pieces floors) bound →
    (least : ℕ) × (bound ≡ Some least) × IsLeastOf cost (floor_costs p vectors pieces floors) least
found_bound p vectors cost [] floors bound h some is = absurd (omega (arith, some))
found_bound p vectors cost (ranges ∷ pieces) [] bound h some is = absurd h
found_bound p vectors cost (ranges ∷ pieces) (floor ∷ floors) None h some is =
    let no : length (floor_costs p vectors (ranges ∷ pieces) (floor ∷ floors)) ≡ 0 = ap (λ (l : List ℕ). length l) is.1 in
    absurd (omega (arith, no))
found_bound p vectors cost (ranges ∷ pieces) (floor ∷ floors) (Some least) h some is = (least, refl, is)

least-start : (cost : Option ℕ) → IsLeastSoFar cost [] cost
least-start None = (refl, refl)
least-start (Some c) = record { within = omega arith; below = All-nil (λ m. c ≤ m); reached = inl refl }

-- before the first floor
pub found-start : (p : ProblemView) (vectors : List (List Price)) (cost : Option ℕ) (stated : Stated) → stated.floors.items ≡ [] → stated.bound ≡ cost → AreFound p vectors cost [] stated
found-start p vectors cost stated f b = record { floors = rw f tt; least = rw b (least-start cost) }

-- behind the last one
pub found-end : (p : ProblemView) (vectors : List (List Price)) (cost : Option ℕ) (stated : Stated) (pieces rest whole : List (List (ℕ × ℕ))) → rest ≡ [] → pieces ++ rest ≡ whole →
    AreFound p vectors cost pieces stated → AreFound p vectors cost whole stated
found-end p vectors cost stated pieces rest whole r e h =
    subst (λ (ps : List (List (ℕ × ℕ))). AreFound p vectors cost ps stated) (sym (append-nil pieces) ∙ ap (λ (l : List (List (ℕ × ℕ))). pieces ++ l) (sym r) ∙ e) h

-- what `floor_of` gives, as a floor
pub floor-found : (p : ProblemView) (vectors : List (List Price)) (ranges : List (ℕ × ℕ)) (given vector scale : ℕ) → IsStatedFloor p ranges vectors given vector →
    LeafHolds p vectors (Some given) ranges vector (scale_at vector) → scale ≡ scale_at vector → IsFoundFloor p vectors ranges (record { vector = vector; scale = scale })
floor-found p vectors ranges given vector scale s h e = record {
  greatest = record { most = subst (λ (k : ℕ). IsStatedFloor p ranges vectors k vector) s.value s; scale = e };
  closes = subst (λ (k : ℕ). LeafHolds p vectors (Some k) ranges vector scale) s.value (subst (λ (z : ℕ). LeafHolds p vectors (Some given) ranges vector z) (sym e) h);
}

-- it is added
pub push-found : (p : ProblemView) (vectors : List (List Price)) (cost : Option ℕ) (pieces : List (List (ℕ × ℕ))) (old new : Stated) (ranges : List (ℕ × ℕ)) (given vector scale : ℕ) →
    IsStatedFloor p ranges vectors given vector → LeafHolds p vectors (Some given) ranges vector (scale_at vector) → scale ≡ scale_at vector →
    new.floors.items ≡ old.floors.items ++ record { vector = vector; scale = scale } ∷ [] → new.bound ≡ Some (least_with old.bound given) →
    AreFound p vectors cost pieces old → AreFound p vectors cost (pieces ++ ranges ∷ []) new
push-found p vectors cost pieces old new ranges given vector scale s h e floors bound found =
    found-push p vectors cost pieces old new ranges (record { vector = vector; scale = scale }) given floors bound s.value (floor-found p vectors ranges given vector scale s h e) found
