-- What is kept from node to node.
use Rattle.std.proofs.Common.{◌≡◌, ℕ, ◌<◌, refl, sym, ap, subst, arith, List, [], ◌∷◌, length, length-append, ◌≤◌}
use Rattle.std.specs.Prelude.{All, drop}
use Rattle.std.specs.List.{Contains}
use Rattle.choice_problem.specs.declared.vectors.Price.{Price}
use Rattle.choice_problem.specs.Problems.{ProblemView, unit_count}
use Rattle.choice_problem.specs.Bounds.{AreRanges}
use Rattle.choice_problem.specs.Walks.{AreChanges, ChangesFirst}
use Rattle.cert_checker.specs.declared.states.State.{State}
use Rattle.kept_bounds.specs.Kept.{BoundsView, AreKept}
use Rattle.cert_checker.specs.States.{IsState, IsStateFirst}
use Rattle.cert_checker.proofs.KeptLoadLemmas.{SeenMore}
use Rattle.cert_checker.proofs.LoadLemmas.{loads-more, changes-there}

pub state-first : (p : ProblemView) (vectors : List (List Price)) (walk rest : List (List (ℕ × ℕ))) (ranges : List (ℕ × ℕ)) (s : State) → walk ≡ ranges ∷ rest → IsStateFirst p vectors walk s → IsState p vectors ranges s
state-first p vectors walk rest ranges s is h = subst (λ (w : List (List (ℕ × ℕ))). IsStateFirst p vectors w s) is h

pub state-back : (p : ProblemView) (vectors : List (List Price)) (walk rest : List (List (ℕ × ℕ))) (ranges : List (ℕ × ℕ)) (s : State) → walk ≡ ranges ∷ rest → IsState p vectors ranges s → IsStateFirst p vectors walk s
state-back p vectors walk rest ranges s is h = subst (λ (w : List (List (ℕ × ℕ))). IsStateFirst p vectors w s) (sym is) h

pub state-done : (p : ProblemView) (vectors : List (List Price)) (walk : List (List (ℕ × ℕ))) (s : State) → walk ≡ [] → IsStateFirst p vectors walk s
state-done p vectors walk s is = subst (λ (w : List (List (ℕ × ℕ))). IsStateFirst p vectors w s) (sym is) tt

-- the units that a step added, where the walk is still on
pub marks-there : (p : ProblemView) (old new rest : List (List (ℕ × ℕ))) (ranges : List (ℕ × ℕ)) (before after : List ℕ) → old ≡ ranges ∷ rest → (new ≡ [] → ⊥) → length ranges ≡ unit_count p → ChangesFirst old new before after →
    (All (λ u. u < unit_count p) (drop (length before) after)) × (length before ≤ length after)
marks-there p old [] rest ranges before after is on count changed = absurd (on refl)
marks-there p old (next ∷ others) rest ranges before after is on count changed =
    let here : AreChanges ranges next before after = subst (λ (w : List (List (ℕ × ℕ))). ChangesFirst w (next ∷ others) before after) is changed in
    (changes-there p ranges next before after count here, omega (arith, ap (λ (xs : List ℕ). length xs) here.after_is, length-append before here.more))

-- what is kept of bounds, after a step
abbrev pub KeptMore : Type 0
KeptMore = (p : ProblemView) (vectors : List (List Price)) (old new : List (ℕ × ℕ)) (before after : List ℕ) (kept : BoundsView) → length old ≡ unit_count p → AreChanges old new before after →
    AreKept p vectors old before kept → AreKept p vectors new after kept

-- the state after a step, where the walk is still on
pub state-more : KeptMore → SeenMore → (p : ProblemView) (vectors : List (List Price)) (old new rest : List (List (ℕ × ℕ))) (ranges : List (ℕ × ℕ)) (s next : State) → old ≡ ranges ∷ rest → (new ≡ [] → ⊥) → length ranges ≡ unit_count p →
    ChangesFirst old new s.changes.items next.changes.items → next.bounds ≡ s.bounds → next.loads.whole ≡ s.loads.whole → next.loads.named ≡ s.loads.named → next.loads.known ≡ s.loads.known → next.loads.kept ≡ s.loads.kept → next.loads.changed.most ≡ s.loads.changed.most →
    ((u : ℕ) → Contains (drop (length s.changes.items) next.changes.items) u → Contains next.loads.changed.units u) → ((u : ℕ) → Contains s.loads.changed.units u → Contains next.loads.changed.units u) →
    IsState p vectors ranges s → IsStateFirst p vectors new next
state-more kept-more seen-more p vectors old [] rest ranges s next is on count changed bounds whole named known kept most all stay are = absurd (on refl)
state-more kept-more seen-more p vectors old (first ∷ others) rest ranges s next is on count changed bounds whole named known kept most all stay are =
    let here : AreChanges ranges first s.changes.items next.changes.items = subst (λ (w : List (List (ℕ × ℕ))). ChangesFirst w (first ∷ others) s.changes.items next.changes.items) is changed in
    let moved : AreKept p vectors first next.changes.items s.bounds = kept-more p vectors ranges first s.changes.items next.changes.items s.bounds count here are.bounds in
    record {
      bounds = subst (AreKept p vectors first next.changes.items) (sym bounds) moved;
      loads = loads-more seen-more p ranges first s.changes.items next.changes.items s.loads next.loads here whole named known kept most all stay are.loads;
    }

-- ---- a step of a walk that ranges are pending for

pub step-there : (p : ProblemView) (vectors : List (List Price)) (old new : List (List (ℕ × ℕ))) (s : State) (after : List ℕ) → 0 < length old → All (AreRanges p) old → IsStateFirst p vectors old s → (new ≡ [] → ⊥) →
    ChangesFirst old new s.changes.items after → All (λ u. u < s.loads.changed.most) (drop (length s.changes.items) after)
step-there p vectors [] new s after some ranges first on changed = absurd (omega arith)
step-there p vectors (now ∷ rest) new s after some ranges first on changed =
    let count = (ranges 0 now (omega arith)).length in
    subst (λ (n : ℕ). All (λ u. u < n) (drop (length s.changes.items) after)) (sym first.loads.most) (marks-there p (now ∷ rest) new rest now s.changes.items after refl on count changed).0

pub step-more : KeptMore → SeenMore → (p : ProblemView) (vectors : List (List Price)) (old new : List (List (ℕ × ℕ))) (s next : State) → 0 < length old → All (AreRanges p) old → IsStateFirst p vectors old s → (new ≡ [] → ⊥) →
    ChangesFirst old new s.changes.items next.changes.items → next.bounds ≡ s.bounds → next.loads.whole ≡ s.loads.whole → next.loads.named ≡ s.loads.named → next.loads.known ≡ s.loads.known → next.loads.kept ≡ s.loads.kept → next.loads.changed.most ≡ s.loads.changed.most →
    ((u : ℕ) → Contains (drop (length s.changes.items) next.changes.items) u → Contains next.loads.changed.units u) → ((u : ℕ) → Contains s.loads.changed.units u → Contains next.loads.changed.units u) →
    IsStateFirst p vectors new next
step-more kept-more seen-more p vectors [] new s next some ranges first on changed bounds whole named known kept most all stay = absurd (omega arith)
step-more kept-more seen-more p vectors (now ∷ rest) new s next some ranges first on changed bounds whole named known kept most all stay =
    state-more kept-more seen-more p vectors (now ∷ rest) new rest now s next refl on (ranges 0 now (omega arith)).length changed bounds whole named known kept most all stay first
