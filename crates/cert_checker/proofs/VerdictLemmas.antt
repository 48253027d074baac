-- Verdicts on lines one after the other.
use Rattle.std.proofs.Common.{◌≡◌, ℕ, zero, suc, ◌+◌, refl, sym, ◌∙◌, ap, subst, arith, List, [], ◌∷◌, ◌++◌, length, inl, inr}
use Rattle.std.specs.Prelude.{Option, Some, None, IfSome, option_map, unwrap_or, flat_map}
use Rattle.choice_problem.specs.declared.vectors.Price.{Price}
use Rattle.choice_problem.specs.Bounds.{IsPrice}
use Rattle.std.proofs.lemmas.List.{drop_more}
use Rattle.std.specs.List.{AllByRecursion}
use Rattle.cert_checker.specs.declared.verdict.Reason.{Reason}
use Rattle.std.proofs.Common.{◌<◌, ◌≤◌, get_or, drop, length-append}
use Rattle.choice_problem.specs.Problems.{ProblemView, unit_count, alt_count}
use Rattle.choice_problem.specs.Choices.{Fits, choice_cost}
use Rattle.cert_format.specs.declared.cert.StageCert.{StageCert}
use Rattle.cert_checker.specs.declared.verdict.Reason.TheVariants as because
use Rattle.cert_checker.specs.declared.verdict.Verdict.{Verdict}
use Rattle.cert_checker.specs.declared.verdict.Verdict.TheVariants.{Yes, No}
use Rattle.cert_checker.specs.Tests.{Test, reason_of, Passes, HasChoice, IsAbove, price_allowed, alternative_tests, choice_tests, cost_tests, price_tests, vector_tests}
use Rattle.cert_checker.specs.Verdicts.{FailsFirst, NoneFails, IsFirstFailing, IsVerdict}
use Rattle.cert_checker.specs.Parts.{IsPart, Completes}

pub NoneFails-append : (Holds : Test → Type 0) (xs ys : List (List Test)) → NoneFails Holds xs → NoneFails Holds ys → NoneFails Holds (xs ++ ys)
NoneFails-append Holds [] ys one other = other
NoneFails-append Holds (x ∷ xs) ys one other = (one.0, NoneFails-append Holds xs ys one.1 other)

pub NoneFails-front : (Holds : Test → Type 0) (xs ys : List (List Test)) → NoneFails Holds (xs ++ ys) → NoneFails Holds xs
NoneFails-front Holds [] ys all = tt
NoneFails-front Holds (x ∷ xs) ys all = (all.0, NoneFails-front Holds xs ys all.1)

pub NoneFails-back : (Holds : Test → Type 0) (xs ys : List (List Test)) → NoneFails Holds (xs ++ ys) → NoneFails Holds ys
NoneFails-back Holds [] ys all = all
NoneFails-back Holds (x ∷ xs) ys all = NoneFails-back Holds xs ys all.1

pub FailsFirst-not_all : (Holds : Test → Type 0) (tests : List Test) (reason : Reason) → AllByRecursion Holds tests → FailsFirst Holds tests reason → ⊥
FailsFirst-not_all Holds [] reason all fails = fails
FailsFirst-not_all Holds (test ∷ tests) reason all fails =
    elim fails [ inl here ↦ here.0 all.0 | inr later ↦ FailsFirst-not_all Holds tests reason all.1 later.1 ]

-- where none fails no line is the first that does
pub IsFirstFailing-not_none : (Holds : Test → Type 0) (n : ℕ) (lines : List (List Test)) (line : ℕ) (reason : Reason) →
    NoneFails Holds lines → IsFirstFailing Holds n lines line reason → ⊥
IsFirstFailing-not_none Holds n [] line reason none fails = fails
IsFirstFailing-not_none Holds n (tests ∷ lines) line reason none fails =
    elim fails [
      | inl here ↦ FailsFirst-not_all Holds tests reason none.0 here.1
      | inr later ↦ IsFirstFailing-not_none Holds (suc n) lines line reason none.1 later.1
    ]

pub FailsFirst-one : (Holds : Test → Type 0) (tests : List Test) (a b : Reason) → FailsFirst Holds tests a → FailsFirst Holds tests b → a ≡ b
FailsFirst-one Holds [] a b one other = absurd one
FailsFirst-one Holds (test ∷ tests) a b one other =
    elim one [
      | inl here ↦ elim other [ inl also ↦ here.1 ∙ sym also.1 | inr later ↦ absurd (here.0 later.0) ]
      | inr later ↦ elim other [ inl here ↦ absurd (here.0 later.0) | inr also ↦ FailsFirst-one Holds tests a b later.1 also.1 ]
    ]

-- there is one first failing line, with one reason
pub IsFirstFailing-one : (Holds : Test → Type 0) (n : ℕ) (lines : List (List Test)) (k m : ℕ) (a b : Reason) →
    IsFirstFailing Holds n lines k a → IsFirstFailing Holds n lines m b → (k ≡ m) × (a ≡ b)
IsFirstFailing-one Holds n [] k m a b one other = absurd one
IsFirstFailing-one Holds n (tests ∷ lines) k m a b one other =
    elim one [
      | inl here ↦ elim other [
        | inl also ↦ (here.0 ∙ sym also.0, FailsFirst-one Holds tests a b here.1 also.1)
        | inr later ↦ absurd (FailsFirst-not_all Holds tests a later.0 here.1)
      ]
      | inr later ↦ elim other [
        | inl here ↦ absurd (FailsFirst-not_all Holds tests b later.0 here.1)
        | inr also ↦ IsFirstFailing-one Holds (suc n) lines k m a b later.1 also.1
      ]
    ]

pub IsFirstFailing-front : (Holds : Test → Type 0) (n : ℕ) (xs ys : List (List Test)) (line : ℕ) (reason : Reason) →
    IsFirstFailing Holds n xs line reason → IsFirstFailing Holds n (xs ++ ys) line reason
IsFirstFailing-front Holds n [] ys line reason fails = absurd fails
IsFirstFailing-front Holds n (x ∷ xs) ys line reason fails =
    elim fails [ inl here ↦ inl here | inr later ↦ inr (later.0, IsFirstFailing-front Holds (suc n) xs ys line reason later.1) ]

pub IsFirstFailing-back : (Holds : Test → Type 0) (n : ℕ) (xs ys : List (List Test)) (line : ℕ) (reason : Reason) →
    NoneFails Holds xs → IsFirstFailing Holds (n + length xs) ys line reason → IsFirstFailing Holds n (xs ++ ys) line reason
IsFirstFailing-back Holds n [] ys line reason none fails =
    let same : n + 0 ≡ n = omega arith in
    subst (λ k. IsFirstFailing Holds k ys line reason) same fails
IsFirstFailing-back Holds n (x ∷ xs) ys line reason none fails =
    let same : n + suc (length xs) ≡ suc n + length xs = omega arith in
    inr (none.0, IsFirstFailing-back Holds (suc n) xs ys line reason none.1 (subst (λ k. IsFirstFailing Holds k ys line reason) same fails))

-- ---- parts

pub IsPart-then : (p : ProblemView) (c : StageCert) (number : ℕ) (xs ys : List (List Test)) (one other : Verdict) (next last : ℕ) → IsPart p c number xs one next → one ≡ Yes → IsPart p c next ys other last →
    IsPart p c number (xs ++ ys) other last
IsPart-then p c number xs ys one Yes next last front passed back =
    let none : NoneFails (Passes p c) xs = subst (λ (v : Verdict). IsVerdict (Passes p c) number xs v) passed front.verdict_is in
    record {
      verdict_is = NoneFails-append (Passes p c) xs ys none back.verdict_is;
      counted = λ _. omega (arith, back.counted refl, front.counted passed, length-append xs ys);
    }
IsPart-then p c number xs ys one (No line reason) next last front passed back =
    let none : NoneFails (Passes p c) xs = subst (λ (v : Verdict). IsVerdict (Passes p c) number xs v) passed front.verdict_is in
    record {
      verdict_is = IsFirstFailing-back (Passes p c) number xs ys line reason none
          (subst (λ (n : ℕ). IsFirstFailing (Passes p c) n ys line reason) (front.counted passed) back.verdict_is);
      counted = λ e. let no : ⊥ = cc in absurd no;
    }

pub IsPart-stop : (p : ProblemView) (c : StageCert) (number : ℕ) (xs ys : List (List Test)) (verdict : Verdict) (next : ℕ) → IsPart p c number xs verdict next → (verdict ≡ Yes → ⊥) →
    IsPart p c number (xs ++ ys) verdict next
IsPart-stop p c number xs ys Yes next front refused = absurd (refused refl)
IsPart-stop p c number xs ys (No line reason) next front refused = record {
  verdict_is = IsFirstFailing-front (Passes p c) number xs ys line reason front.verdict_is;
  counted = λ e. absurd (refused e);
}

-- a line that is not tested
pub IsPart-untested : (p : ProblemView) (c : StageCert) (number : ℕ) (xs : List (List Test)) (verdict : Verdict) (next : ℕ) → IsPart p c (number + 1) xs verdict next → IsPart p c number ([] ∷ xs) verdict next
IsPart-untested p c number xs Yes next part = record {
  verdict_is = (tt, part.verdict_is);
  counted = λ _. omega (arith, part.counted refl);
}
IsPart-untested p c number xs (No line reason) next part =
    let count : number + 1 ≡ suc number = omega arith in
    record {
      verdict_is = inr (tt, subst (λ (n : ℕ). IsFirstFailing (Passes p c) n xs line reason) count part.verdict_is);
      counted = λ e. let no : ⊥ = cc in absurd no;
    }

-- ---- lines of alternatives: those before a number pass

pub alternatives-pass : (p : ProblemView) (c : StageCert) (unit : ℕ) (alts : List ℕ) → ((i : ℕ) → i < length alts → get_or alts i 0 < alt_count p (unit + i)) → NoneFails (Passes p c) (alternative_tests unit alts)
alternatives-pass p c unit [] there = tt
alternatives-pass p c unit (alt ∷ alts) there =
    let same : unit + 0 ≡ unit = omega arith in (
      (subst (λ u. alt < alt_count p u) same (there 0 (omega arith)), tt),
      alternatives-pass p c (suc unit) alts (λ i lt.
          let next : unit + suc i ≡ suc unit + i = omega arith in
          subst (λ u. get_or alts i 0 < alt_count p u) next (there (suc i) (omega arith))),
    )

pub alternatives-fail : (p : ProblemView) (c : StageCert) (number unit : ℕ) (alts : List ℕ) (k : ℕ) → k < length alts → ((i : ℕ) → i < k → get_or alts i 0 < alt_count p (unit + i)) → (get_or alts k 0 < alt_count p (unit + k) → ⊥) →
    IsFirstFailing (Passes p c) number (alternative_tests unit alts) (number + k) because.Choice
alternatives-fail p c number unit [] k lt before fails = absurd (omega arith)
alternatives-fail p c number unit (alt ∷ alts) zero lt before fails =
    let same : unit + 0 ≡ unit = omega arith in
    let line : number + 0 ≡ number = omega arith in
    inl (line, inl ((λ passes. fails (subst (λ u. alt < alt_count p u) (sym same) passes)), refl))
alternatives-fail p c number unit (alt ∷ alts) (suc k) lt before fails =
    let same : unit + 0 ≡ unit = omega arith in
    let next : unit + suc k ≡ suc unit + k = omega arith in
    let line : suc number + k ≡ number + suc k = omega arith in
    inr (
      (subst (λ u. alt < alt_count p u) same (before 0 (omega arith)), tt),
      subst (λ (n : ℕ). IsFirstFailing (Passes p c) (suc number) (alternative_tests (suc unit) alts) n because.Choice) line
          (alternatives-fail p c (suc number) (suc unit) alts k (omega arith)
          (λ i l. let at : unit + suc i ≡ suc unit + i = omega arith in subst (λ u. get_or alts i 0 < alt_count p u) at (before (suc i) (omega arith)))
          (λ passes. fails (subst (λ u. get_or alts k 0 < alt_count p u) (sym next) passes))),
    )

pub alternatives-count : (unit : ℕ) (alts : List ℕ) → length (alternative_tests unit alts) ≡ length alts
alternatives-count unit [] = refl
alternatives-count unit (alt ∷ alts) = ap suc (alternatives-count (suc unit) alts)

pub alternatives-passed : (p : ProblemView) (c : StageCert) (number : ℕ) (alts : List ℕ) → ((i : ℕ) → i < length alts → get_or alts i 0 < alt_count p i) → IsPart p c number (alternative_tests 0 alts) Yes (number + length alts)
alternatives-passed p c number alts there = record {
  verdict_is = alternatives-pass p c 0 alts (λ i lt. let same : i ≡ 0 + i = omega arith in subst (λ u. get_or alts i 0 < alt_count p u) same (there i lt));
  counted = λ _. omega (arith, alternatives-count 0 alts);
}

pub alternatives-refused : (p : ProblemView) (c : StageCert) (number : ℕ) (alts : List ℕ) (k next : ℕ) → k < length alts → ((i : ℕ) → i < k → get_or alts i 0 < alt_count p i) → (get_or alts k 0 < alt_count p k → ⊥) →
    IsPart p c number (alternative_tests 0 alts) (No (number + k) because.Choice) next
alternatives-refused p c number alts k next lt before fails = record {
  verdict_is = alternatives-fail p c number 0 alts k lt
      (λ i l. let same : i ≡ 0 + i = omega arith in subst (λ u. get_or alts i 0 < alt_count p u) same (before i l))
      (λ passes. let same : 0 + k ≡ k = omega arith in fails (subst (λ u. get_or alts k 0 < alt_count p u) same passes));
  counted = λ e. let no : ⊥ = cc in absurd no;
}

-- ---- the line of the choice

pub choice-mark_refused : (p : ProblemView) (c : StageCert) (number next : ℕ) (choice : Option (List ℕ)) → (HasChoice c.mark c.choice → ⊥) → IsPart p c number (choice_tests choice) (No number because.Mark) next
choice-mark_refused p c number next None refused = record { verdict_is = inl (refl, inl (refused, refl)); counted = λ e. let no : ⊥ = cc in absurd no }
choice-mark_refused p c number next (Some x) refused = record { verdict_is = inl (refl, inl (refused, refl)); counted = λ e. let no : ⊥ = cc in absurd no }

pub choice-none_passed : (p : ProblemView) (c : StageCert) (number : ℕ) → HasChoice c.mark c.choice → IsPart p c number (choice_tests None) Yes (number + 1)
choice-none_passed p c number marked = record { verdict_is = ((marked, tt), tt); counted = λ _. refl }

pub choice-units_refused : (p : ProblemView) (c : StageCert) (number next : ℕ) (x : List ℕ) → HasChoice c.mark c.choice → c.choice ≡ Some x → (length x ≡ unit_count p → ⊥) →
    IsPart p c number (choice_tests (Some x)) (No number because.Units) next
choice-units_refused p c number next x marked is refused = record {
  verdict_is = inl (refl, inr (marked, inl ((λ counted. refused (subst (λ (o : Option (List ℕ)). IfSome o (λ y. length y ≡ unit_count p)) is counted)), refl)));
  counted = λ e. let no : ⊥ = cc in absurd no;
}

pub choice-some : (p : ProblemView) (c : StageCert) (number : ℕ) (x : List ℕ) (verdict : Verdict) (next : ℕ) → HasChoice c.mark c.choice → c.choice ≡ Some x → length x ≡ unit_count p →
    IsPart p c (number + 1) (alternative_tests 0 x) verdict next → IsPart p c number (choice_tests (Some x)) verdict next
choice-some p c number x Yes next marked is counted part = record {
  verdict_is = ((marked, (subst (λ (o : Option (List ℕ)). IfSome o (λ y. length y ≡ unit_count p)) (sym is) counted, tt)), part.verdict_is);
  counted = λ _. omega (arith, part.counted refl);
}
choice-some p c number x (No line reason) next marked is counted part =
    let count : number + 1 ≡ suc number = omega arith in
    record {
      verdict_is = inr (
        (marked, (subst (λ (o : Option (List ℕ)). IfSome o (λ y. length y ≡ unit_count p)) (sym is) counted, tt)),
        subst (λ (n : ℕ). IsFirstFailing (Passes p c) n (alternative_tests 0 x) line reason) count part.verdict_is,
      );
      counted = λ e. let no : ⊥ = cc in absurd no;
    }

-- ---- the line of the cost

pub cost-refused : (p : ProblemView) (c : StageCert) (number next : ℕ) (x : List ℕ) (cost : ℕ) → c.choice ≡ Some x → c.cost ≡ Some cost → (choice_cost p x ≡ cost → ⊥) →
    IsPart p c number (cost_tests (Some cost)) (No number because.Cost) next
cost-refused p c number next x cost choice_is cost_is refused = record {
  verdict_is = inl (
    refl,
    inl (
      (λ exact.
          let same : Some cost ≡ Some (choice_cost p x) = sym cost_is ∙ exact ∙ ap (option_map (choice_cost p)) choice_is in
          refused (sym (ap (λ (o : Option ℕ). unwrap_or o 0) same))),
      refl,
    ),
  );
  counted = λ e. let no : ⊥ = cc in absurd no;
}

cost-exact : (p : ProblemView) (c : StageCert) (x : List ℕ) (cost : ℕ) → c.choice ≡ Some x → c.cost ≡ Some cost → choice_cost p x ≡ cost → c.cost ≡ option_map (choice_cost p) c.choice
cost-exact p c x cost choice_is cost_is same = cost_is ∙ ap (λ (n : ℕ). Some n) (sym same) ∙ sym (ap (option_map (choice_cost p)) choice_is)

pub cost-unfit : (p : ProblemView) (c : StageCert) (number next : ℕ) (x : List ℕ) (cost : ℕ) → c.choice ≡ Some x → c.cost ≡ Some cost → choice_cost p x ≡ cost → (Fits p x → ⊥) →
    IsPart p c number (cost_tests (Some cost)) (No number because.Fit) next
cost-unfit p c number next x cost choice_is cost_is same unfit = record {
  verdict_is = inl (refl, inr (cost-exact p c x cost choice_is cost_is same, inl ((λ fits. unfit (subst (λ (o : Option (List ℕ)). IfSome o (Fits p)) choice_is fits)), refl)));
  counted = λ e. let no : ⊥ = cc in absurd no;
}

pub cost-passed : (p : ProblemView) (c : StageCert) (number : ℕ) (x : List ℕ) (cost : ℕ) → c.choice ≡ Some x → c.cost ≡ Some cost → choice_cost p x ≡ cost → Fits p x →
    IsPart p c number (cost_tests (Some cost)) Yes (number + 1)
cost-passed p c number x cost choice_is cost_is same fits = record {
  verdict_is = ((cost-exact p c x cost choice_is cost_is same, (subst (λ (o : Option (List ℕ)). IfSome o (Fits p)) (sym choice_is) fits, tt)), tt);
  counted = λ _. refl;
}

-- ---- lines that are left

pub Completes-start : (p : ProblemView) (c : StageCert) (number : ℕ) (lines : List (List Test)) → Completes p c number lines number lines
Completes-start p c number lines verdict next part = part

-- one line passes
pub line-passed : (p : ProblemView) (c : StageCert) (number : ℕ) (test : Test) (left : List (List Test)) (verdict : Verdict) (next : ℕ) → Passes p c test → IsPart p c (number + 1) left verdict next →
    IsPart p c number ((test ∷ []) ∷ left) verdict next
line-passed p c number test left Yes next passes part = record { verdict_is = ((passes, tt), part.verdict_is); counted = λ _. omega (arith, part.counted refl) }
line-passed p c number test left (No line reason) next passes part =
    let count : number + 1 ≡ suc number = omega arith in
    record {
      verdict_is = inr ((passes, tt), subst (λ (n : ℕ). IsFirstFailing (Passes p c) n left line reason) count part.verdict_is);
      counted = λ e. let no : ⊥ = cc in absurd no;
    }

pub line-refused : (p : ProblemView) (c : StageCert) (number next : ℕ) (test : Test) (left : List (List Test)) → (Passes p c test → ⊥) → IsPart p c number ((test ∷ []) ∷ left) (No number (reason_of test)) next
line-refused p c number next test left refused = record { verdict_is = inl (refl, inl (refused, refl)); counted = λ e. let no : ⊥ = cc in absurd no }

-- prices
pub prices-next : (p : ProblemView) (c : StageCert) (number at i : ℕ) (before : Option ℕ) (prices : List Price) (lines : List (List Test)) (e : Price) → i < length prices →
    (IsAbove before (get_or prices i e).resource × IsPrice p (get_or prices i e)) → Completes p c at (price_tests before (drop i prices)) number lines →
    Completes p c (at + 1) (price_tests (Some (get_or prices i e).resource) (drop (i + 1) prices)) number lines
prices-next p c number at i before prices lines e lt allowed leads verdict next part =
    leads verdict next (subst (λ (ps : List Price). IsPart p c at (price_tests before ps) verdict next) (sym (drop_more prices i e lt))
    (line-passed p c at (price_allowed before (get_or prices i e)) (price_tests (Some (get_or prices i e).resource) (drop (i + 1) prices)) verdict next allowed part))

pub prices-refused : (p : ProblemView) (c : StageCert) (number at i next : ℕ) (before : Option ℕ) (prices : List Price) (lines : List (List Test)) (e : Price) → i < length prices →
    ((IsAbove before (get_or prices i e).resource × IsPrice p (get_or prices i e)) → ⊥) → Completes p c at (price_tests before (drop i prices)) number lines →
    IsPart p c number lines (No at because.Price) next
prices-refused p c number at i next before prices lines e lt refused leads =
    leads (No at because.Price) next (subst (λ (ps : List Price). IsPart p c at (price_tests before ps) (No at because.Price) next) (sym (drop_more prices i e lt))
    (line-refused p c at next (price_allowed before (get_or prices i e)) (price_tests (Some (get_or prices i e).resource) (drop (i + 1) prices)) refused))

past-end : {X : Type 0} (xs : List X) (i : ℕ) → length xs ≤ i → drop i xs ≡ []
past-end [] zero le = refl
past-end [] (suc i) le = refl
past-end (x ∷ xs) zero le = absurd (omega arith)
past-end (x ∷ xs) (suc i) le = past-end xs i (omega arith)

part-end : (p : ProblemView) (c : StageCert) (number : ℕ) → IsPart p c number [] Yes number
part-end p c number = record { verdict_is = tt; counted = λ _. omega arith }

pub prices-end : (p : ProblemView) (c : StageCert) (number at i : ℕ) (before : Option ℕ) (prices : List Price) (lines : List (List Test)) → length prices ≤ i →
    Completes p c at (price_tests before (drop i prices)) number lines → IsPart p c number lines Yes at
prices-end p c number at i before prices lines past leads =
    leads Yes at (subst (λ (ps : List Price). IsPart p c at (price_tests before ps) Yes at) (sym (past-end prices i past)) (part-end p c at))

pub prices-count : (before : Option ℕ) (prices : List Price) → length (price_tests before prices) ≡ length prices
prices-count before [] = refl
prices-count before (e ∷ prices) = ap suc (prices-count (Some e.resource) prices)

-- vectors
pub vectors-next : (p : ProblemView) (c : StageCert) (number at i next : ℕ) (verdict : Verdict) (vector : List Price) (vectors : List (List Price)) (lines : List (List Test)) → i < length vectors → vector ≡ get_or vectors i vector →
    IsPart p c at (vector_tests vector) verdict next → verdict ≡ Yes → Completes p c at (flat_map vector_tests (drop i vectors)) number lines →
    Completes p c next (flat_map vector_tests (drop (i + 1) vectors)) number lines
vectors-next p c number at i next verdict vector vectors lines lt is part passed leads other last rest =
    let head : drop i vectors ≡ vector ∷ drop (i + 1) vectors = drop_more vectors i vector lt ∙ ap (λ (v : List Price). v ∷ drop (i + 1) vectors) (sym is) in
    leads other last (subst (λ (vs : List (List Price)). IsPart p c at (flat_map vector_tests vs) other last) (sym head)
    (IsPart-then p c at (vector_tests vector) (flat_map vector_tests (drop (i + 1) vectors)) verdict other next last part passed rest))

pub vectors-refused : (p : ProblemView) (c : StageCert) (number at i next : ℕ) (verdict : Verdict) (vector : List Price) (vectors : List (List Price)) (lines : List (List Test)) → i < length vectors → vector ≡ get_or vectors i vector →
    IsPart p c at (vector_tests vector) verdict next → (verdict ≡ Yes → ⊥) → Completes p c at (flat_map vector_tests (drop i vectors)) number lines → IsPart p c number lines verdict next
vectors-refused p c number at i next verdict vector vectors lines lt is part refused leads =
    let head : drop i vectors ≡ vector ∷ drop (i + 1) vectors = drop_more vectors i vector lt ∙ ap (λ (v : List Price). v ∷ drop (i + 1) vectors) (sym is) in
    leads verdict next (subst (λ (vs : List (List Price)). IsPart p c at (flat_map vector_tests vs) verdict next) (sym head)
    (IsPart-stop p c at (vector_tests vector) (flat_map vector_tests (drop (i + 1) vectors)) verdict next part refused))

pub vectors-end : (p : ProblemView) (c : StageCert) (number at i : ℕ) (vectors : List (List Price)) (lines : List (List Test)) → length vectors ≤ i →
    Completes p c at (flat_map vector_tests (drop i vectors)) number lines → IsPart p c number lines Yes at
vectors-end p c number at i vectors lines past leads =
    leads Yes at (subst (λ (vs : List (List Price)). IsPart p c at (flat_map vector_tests vs) Yes at) (sym (past-end vectors i past)) (part-end p c at))

pub vectors-room : (at i : ℕ) (vector : List Price) (vectors : List (List Price)) → i < length vectors → vector ≡ get_or vectors i vector →
    length (flat_map vector_tests (drop i vectors)) ≡ length (vector_tests vector) + length (flat_map vector_tests (drop (i + 1) vectors))
vectors-room at i vector vectors lt is =
    let head : drop i vectors ≡ vector ∷ drop (i + 1) vectors = drop_more vectors i vector lt ∙ ap (λ (v : List Price). v ∷ drop (i + 1) vectors) (sym is) in
    ap (λ (vs : List (List Price)). length (flat_map vector_tests vs)) head ∙ length-append (vector_tests vector) (flat_map vector_tests (drop (i + 1) vectors))
