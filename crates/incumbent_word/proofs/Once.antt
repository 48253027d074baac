-- A list in which each number below n stands once, and no other stands, has n elements.
use Rattle.std.proofs.Common.{◌≡◌, ◌≢◌, ℕ, zero, suc, ◌+◌, ◌<◌, ◌≤◌, eqb, cond, Bool, true, false, List, [], ◌∷◌, length, inl, inr, refl, ap, sym, ◌∙◌, eq-eqb, ne_eqb, arith}
use Rattle.std.specs.List.{count_by}
use Rattle.std.proofs.lemmas.Bool.{cases_Bool, eqb-true}
use Rattle.std.proofs.lemmas.List.Sums.{sum_by-cons}
use mathlib.Core.Logic.{dite}
use native.Mathlib.Decide.{ℕ_discrete}
use Rattle.incumbent_word.specs.Core.{EachOnce}

abbrev pub had_in : List ℕ → ℕ → ℕ
had_in xs x = count_by (λ y. eqb y x) xs

had_cons : (y : ℕ) (ys : List ℕ) (x : ℕ) → had_in (y ∷ ys) x ≡ cond (eqb y x) 1 0 + had_in ys x
had_cons y ys x = sum_by-cons (λ z. cond (eqb z x) 1 0) y ys

hit : (y x : ℕ) → y ≡ x → cond {A = ℕ} (eqb y x) 1 0 ≡ 1
hit y x e = ap (λ (b : Bool). cond {A = ℕ} b 1 0) (eq-eqb y x e)

miss : (y x : ℕ) → y ≢ x → cond {A = ℕ} (eqb y x) 1 0 ≡ 0
miss y x n = ap (λ (b : Bool). cond {A = ℕ} b 1 0) (ne_eqb y x n)

-- the list without one number
without : ℕ → List ℕ → List ℕ
without m [] = []
without m (y ∷ ys) = cond (eqb y m) (without m ys) (y ∷ without m ys)

skip : (m y : ℕ) (ys : List ℕ) → y ≡ m → without m (y ∷ ys) ≡ without m ys
unfolding without
skip m y ys e = ap (λ (b : Bool). cond b (without m ys) (y ∷ without m ys)) (eq-eqb y m e)

keep : (m y : ℕ) (ys : List ℕ) → y ≢ m → without m (y ∷ ys) ≡ y ∷ without m ys
unfolding without
keep m y ys n = ap (λ (b : Bool). cond b (without m ys) (y ∷ without m ys)) (ne_eqb y m n)

length-without : (m : ℕ) (xs : List ℕ) → length xs ≡ length (without m xs) + had_in xs m
unfolding without
length-without m [] = refl
length-without m (y ∷ ys) = let again = length-without m ys in let c = had_cons y ys m in dite (ℕ_discrete y m)
    (λ is. let l = ap length (skip m y ys is) in let h = hit y m is in omega arith)
    (λ other. let l = ap length (keep m y ys other) in let h = miss y m other in omega arith)

gone : (m : ℕ) (xs : List ℕ) → had_in (without m xs) m ≡ 0
unfolding without
gone m [] = refl
gone m (y ∷ ys) = let again = gone m ys in dite (ℕ_discrete y m)
    (λ is. ap (λ (l : List ℕ). had_in l m) (skip m y ys is) ∙ again)
    (λ other. let l = ap (λ (l : List ℕ). had_in l m) (keep m y ys other) in let c = had_cons y (without m ys) m in let h = miss y m other in omega arith)

left : (m x : ℕ) (xs : List ℕ) → x ≢ m → had_in (without m xs) x ≡ had_in xs x
unfolding without
left m x [] n = refl
left m x (y ∷ ys) n = let again = left m x ys n in let c = had_cons y ys x in dite (ℕ_discrete y m)
    (λ is. let l = ap (λ (l : List ℕ). had_in l x) (skip m y ys is) in let h = miss y x (λ e. n (sym e ∙ is)) in omega arith)
    (λ other. let l = ap (λ (l : List ℕ). had_in l x) (keep m y ys other) in let d = had_cons y (without m ys) x in omega arith)

none_had : (xs : List ℕ) → ((x : ℕ) → had_in xs x ≡ 0) → length xs ≡ 0
none_had [] none = refl
none_had (y ∷ ys) none = absurd (let c = had_cons y ys y in let h = hit y y refl in let z = none y in omega arith)

pub once_length : (xs : List ℕ) (n : ℕ) → EachOnce (had_in xs) n → length xs ≡ n
once_length xs zero once = none_had xs (λ x. (once x).1 (omega arith))
once_length xs (suc m) once =
    let rest = once_length (without m xs) m (λ x. dite (ℕ_discrete x m)
    (λ is. let g : had_in (without m xs) x ≡ 0 = ap (had_in (without m xs)) is ∙ gone m xs in ((λ h. absurd (omega arith)), (λ h. g)))
    (λ other. let l = left m x xs other in let o = once x in ((λ h. l ∙ o.0 (omega arith)), (λ h. l ∙ o.1 (omega arith))))) in
    let l = length-without m xs in let one : had_in xs m ≡ 1 = (once m).0 (omega arith) in omega arith
