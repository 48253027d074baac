-- Texts that are put one after the other.
use Rattle.std.proofs.Common.{◌≡◌, ℕ, List, [], ◌∷◌, ◌++◌, Result, Ok, Err, append_assoc}
use Rattle.std.specs.Prelude.{OnOk}

pub on_ok : {X E : Type 0} (P Q : Type 0) (r : Result X E) → (P → Q) → OnOk r P → OnOk r Q
on_ok P Q (Ok x) f h = f h
on_ok P Q (Err e) f h = tt

pub put_two : (o a b r1 r2 : List ℕ) → r1 ≡ o ++ a → r2 ≡ r1 ++ b → r2 ≡ o ++ (a ++ b)
put_two o a b r1 r2 e1 e2 = rw (e2, e1) (simp append_assoc)

pub middle : (o d e w s k r1 r2 r3 r4 r5 r6 r7 r8 r9 : List ℕ) → r1 ≡ o ++ 32 ∷ [] → r2 ≡ r1 ++ d → r3 ≡ r2 ++ e → r4 ≡ r3 ++ 32 ∷ [] → r5 ≡ r4 ++ w → r6 ≡ r5 ++ 32 ∷ [] → r7 ≡ r6 ++ s → r8 ≡ r7 ++ k → r9 ≡ r8 ++ 32 ∷ []
    → r9 ≡ o ++ (32 ∷ ((d ++ e) ++ (32 ∷ (w ++ (32 ∷ ((s ++ k) ++ (32 ∷ [])))))))
middle o d e w s k r1 r2 r3 r4 r5 r6 r7 r8 r9 e1 e2 e3 e4 e5 e6 e7 e8 e9 = rw (e9, e8, e7, e6, e5, e4, e3, e2, e1) (simp append_assoc)

-- what stands between the flights and the groups
abbrev pub Between : List ℕ → List ℕ → List ℕ → List ℕ
Between d w s = 32 ∷ (d ++ (32 ∷ (w ++ (32 ∷ (s ++ (32 ∷ []))))))

pub arrival : (o f d w s g r1 r2 r3 r4 r5 : List ℕ) (code service : ℕ) → r1 ≡ o ++ code ∷ [] → r2 ≡ r1 ++ f → r3 ≡ r2 ++ Between d w s → r4 ≡ r3 ++ g → r5 ≡ r4 ++ 32 ∷ service ∷ []
    → r5 ≡ o ++ ((code ∷ f) ++ (32 ∷ (d ++ (32 ∷ (w ++ (32 ∷ (s ++ (32 ∷ (g ++ (32 ∷ (service ∷ [])))))))))))
arrival o f d w s g r1 r2 r3 r4 r5 code service e1 e2 e3 e4 e5 = rw (e5, e4, e3, e2, e1) (simp append_assoc)

pub departure : (o f d w s g r1 r2 r3 r4 r5 : List ℕ) (code service : ℕ) → r1 ≡ o ++ code ∷ 32 ∷ [] → r2 ≡ r1 ++ f → r3 ≡ r2 ++ Between d w s → r4 ≡ r3 ++ g → r5 ≡ r4 ++ 32 ∷ service ∷ []
    → r5 ≡ o ++ ((code ∷ []) ++ (32 ∷ (f ++ (32 ∷ (d ++ (32 ∷ (w ++ (32 ∷ (s ++ (32 ∷ (g ++ (32 ∷ (service ∷ [])))))))))))))
departure o f d w s g r1 r2 r3 r4 r5 code service e1 e2 e3 e4 e5 = rw (e5, e4, e3, e2, e1) (simp append_assoc)

pub turnaround : (o f h d w s g j r1 r2 r3 r4 r5 r6 r7 r8 r9 : List ℕ) (code a b : ℕ) → r1 ≡ o ++ code ∷ [] → r2 ≡ r1 ++ f → r3 ≡ r2 ++ 32 ∷ [] → r4 ≡ r3 ++ h → r5 ≡ r4 ++ Between d w s → r6 ≡ r5 ++ g → r7 ≡ r6 ++ 32 ∷ [] → r8 ≡ r7 ++ j → r9 ≡ r8 ++ 32 ∷ a ∷ b ∷ []
    → r9 ≡ o ++ ((code ∷ f) ++ (32 ∷ (h ++ (32 ∷ (d ++ (32 ∷ (w ++ (32 ∷ (s ++ (32 ∷ (g ++ (32 ∷ (j ++ (32 ∷ (a ∷ b ∷ [])))))))))))))))
turnaround o f h d w s g j r1 r2 r3 r4 r5 r6 r7 r8 r9 code a b e1 e2 e3 e4 e5 e6 e7 e8 e9 = rw (e9, e8, e7, e6, e5, e4, e3, e2, e1) (simp append_assoc)

pub header_put : (o s d a r1 r2 r3 r4 r5 r6 r7 : List ℕ) → r1 ≡ o ++ 83 ∷ 67 ∷ 82 ∷ 10 ∷ [] → r2 ≡ r1 ++ s → r3 ≡ r2 ++ 10 ∷ [] → r4 ≡ r3 ++ d → r5 ≡ r4 ++ 10 ∷ [] → r6 ≡ r5 ++ a → r7 ≡ r6 ++ 10 ∷ []
    → r7 ≡ o ++ (83 ∷ 67 ∷ 82 ∷ 10 ∷ (s ++ (10 ∷ (d ++ (10 ∷ (a ++ (10 ∷ [])))))))
header_put o s d a r1 r2 r3 r4 r5 r6 r7 e1 e2 e3 e4 e5 e6 e7 = rw (e7, e6, e5, e4, e3, e2, e1) (simp append_assoc)
