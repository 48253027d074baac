-- Ranges that change, unit by unit.
use Rattle.std.proofs.Common.{◌≡◌, ℕ, zero, suc, ◌+◌, ◌<◌, ◌≤◌, refl, sym, ◌∙◌, ap, subst, arith, List, [], ◌∷◌, ◌++◌, length, get_or, inl, inr, length-append}
use Rattle.std.specs.Prelude.{drop, slice_set, slice_index_or}
use Rattle.std.proofs.lemmas.Bool.{cases_lt}
use Rattle.std.proofs.lemmas.List.{get_or-set_same, get_or-set_other, drop_more, drop_all, drop-append-le}
use Rattle.std.specs.List.{Contains}
use Rattle.std.proofs.lemmas.List.Elements.{Contains-append_left, Contains-append_right}
use Rattle.choice_problem.specs.Bounds.{low_of, high_of}
use Rattle.choice_problem.specs.Walks.{AreChanges}
use Rattle.kept_bounds.specs.Changes.{AgreeBut, HasSeen}

-- lists with the same elements
same-elements : {X : Type 0} (d : X) (xs ys : List X) → length xs ≡ length ys → ((i : ℕ) → i < length xs → get_or xs i d ≡ get_or ys i d) → xs ≡ ys
same-elements d [] [] count same = refl
same-elements d [] (y ∷ ys) count same = absurd (omega arith)
same-elements d (x ∷ xs) [] count same = absurd (omega arith)
same-elements d (x ∷ xs) (y ∷ ys) count same =
    ap (λ (z : _). z ∷ xs) (same 0 (omega arith)) ∙ ap (λ (zs : List _). y ∷ zs) (same-elements d xs ys (omega arith) (λ i lt. same (suc i) (omega arith)))

-- a number that is not the first one of a list
contains-later : (k m u : ℕ) (rest : List ℕ) → k < length (m ∷ rest) → slice_index_or (m ∷ rest) k u ≡ u → (u ≡ m → ⊥) → Contains rest u
contains-later zero m u rest lt is other = absurd (other (sym is))
contains-later (suc k) m u rest lt is other = (k, omega arith, is)

-- one unit more is at its range
pub agree-next : (old new ranges : List (ℕ × ℕ)) (units : List ℕ) (i unit d : ℕ) → i < length units → unit ≡ get_or units i d → unit < length old → new ≡ slice_set old unit (low_of ranges unit, high_of ranges unit) →
    AgreeBut (drop i units) old ranges → AgreeBut (drop (i + 1) units) new ranges
agree-next old new ranges units i unit d lt at there is before u out =
    let head : drop i units ≡ unit ∷ drop (i + 1) units = drop_more units i d lt ∙ ap (λ (n : ℕ). n ∷ drop (i + 1) units) (sym at) in
    let span : ℕ × ℕ = (low_of ranges unit, high_of ranges unit) in
    let otherwise : (u ≡ unit → ⊥) → get_or new u (0, 0) ≡ get_or ranges u (0, 0) = λ other.
    ap (λ (xs : List (ℕ × ℕ)). get_or xs u (0, 0)) is ∙ get_or-set_other old unit u span (0, 0) other
    ∙ before u (λ h. let k : Contains (unit ∷ drop (i + 1) units) u = subst (λ (xs : List ℕ). Contains xs u) head h in out (contains-later k.0 unit u (drop (i + 1) units) k.1 k.2 other)) in
    elim (cases_lt u unit) [
      | inl below ↦ otherwise (λ e. let no : ⊥ = omega (arith, below, e) in no)
      | inr past ↦ elim (cases_lt unit u) [
        | inl above ↦ otherwise (λ e. let no : ⊥ = omega (arith, above, e) in no)
        | inr last ↦ let e : unit ≡ u = omega arith in
            rw (← e) (ap (λ (xs : List (ℕ × ℕ)). get_or xs unit (0, 0)) is ∙ get_or-set_same old unit span (0, 0) there)
      ]
    ]

-- the end of the units
pub agree-all : (one ranges : List (ℕ × ℕ)) (units : List ℕ) (i : ℕ) → length units ≤ i → length one ≡ length ranges → AgreeBut (drop i units) one ranges → one ≡ ranges
agree-all one ranges units i past count agree =
    same-elements (0, 0) one ranges count (λ u lt. agree u (λ h. let k : Contains [] u = subst (λ (xs : List ℕ). Contains xs u) (drop_all i units past) h in let no : ⊥ = omega (arith, k.1) in no))

-- some changes more
pub seen-more : (at old new : List (ℕ × ℕ)) (before after : List ℕ) (seen : ℕ) → AreChanges old new before after → HasSeen at old before seen → HasSeen at new after seen
seen-more at old new before after seen changed has =
    let is = changed.after_is in
    let later : drop seen after ≡ drop seen before ++ changed.more = ap (λ (xs : List ℕ). drop seen xs) is ∙ drop-append-le seen before changed.more has.few in
    record {
      few = omega (arith, has.few, ap (λ (xs : List ℕ). length xs) is, length-append before changed.more);
      others = λ u out.
          has.others u (λ h. out (subst (λ (xs : List ℕ). Contains xs u) (sym later) (Contains-append_left (drop seen before) changed.more u h)))
          ∙ sym (changed.same u (λ h. out (subst (λ (xs : List ℕ). Contains xs u) (sym later) (Contains-append_right (drop seen before) changed.more u h))));
    }
