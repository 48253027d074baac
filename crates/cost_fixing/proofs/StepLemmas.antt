-- Steps of the loops that make what is left.
use Rattle.std.proofs.Common.{◌≡◌, ℕ, ◌+◌, ◌-◌, ◌<◌, ◌≤◌, ◌↔◌, Bool, true, false, not, cond, List, [], ◌∷◌, ◌++◌, length, set, map, take, Some, refl, sym, ◌∙◌, ap, ap₂, subst, arith, inl, inr, pos, ℤ}
use Rattle.std.specs.Prelude.{All, slice_set, slice_index, ◌≤ℤ◌}
use Rattle.std.specs.List.{range_with_len}
use Rattle.std.proofs.lemmas.Int.{ints}
use Rattle.std.proofs.lemmas.Bool.{cases_Bool}
use Rattle.std.proofs.lemmas.List.{set-set, set-get_or, append-nil, ext_get_or, take_all, take_more, map_push, length-map}
use Rattle.std.proofs.lemmas.List.FromFn.{map-range_with_len_more, get_or-map-range_with_len, length-map-range_with_len}
use Rattle.std.proofs.lemmas.List.Elements.{All-map}
use Rattle.choice_problem.specs.declared.vectors.Price.{Price}
use Rattle.choice_problem.specs.declared.strips.Strip.{Strip}
use Rattle.choice_problem.specs.declared.problems.Alt.{Alt}
use Rattle.choice_problem.specs.Problems.{ProblemView, ChooserView, IsChooser, unit_count, alt_count, resource_count, chooser_at, alt_at, amount, problem_of}
use Rattle.choice_problem.specs.Choices.{IsChoice}
use Rattle.choice_problem.specs.Bounds.{whole_of, Closes}
use Rattle.price_table.specs.Totals.{TotalsView}
use Rattle.cost_fixing.specs.Fixings.{fixed_at, is_out, uses_last, left_alts, left_problem, unit_with, problem_with, whole_choice, LeavesSome}
use Rattle.cost_fixing.specs.Loops.{AreWholeBut, AreAltsOf, IsNumbering, alts_in}
use Rattle.cost_fixing.proofs.ListLemmas.{passing, passing-more, parted-few, parted-there}
use Rattle.cost_fixing.proofs.WithLemmas.{numbers_with, numbers-at, numbers-count, with-count, with-alts, whole-number, unit_with-IsChooser}
use Rattle.cost_fixing.proofs.FixLemmas.{out-closes, whole-at}

-- ranges while one unit's alternatives are tried
pub but-whole : (p : ProblemView) (u : ℕ) (ranges : List (ℕ × ℕ)) → ranges ≡ whole_of p → AreWholeBut p u ranges
but-whole p u ranges e = λ span. ap (λ (r : List (ℕ × ℕ)). slice_set r u span) e

pub but-set : (p : ProblemView) (u : ℕ) (old new : List (ℕ × ℕ)) (at : ℕ × ℕ) → AreWholeBut p u old → new ≡ slice_set old u at → AreWholeBut p u new
but-set p u old new at h e = λ span. ap (λ (r : List (ℕ × ℕ)). slice_set r u span) e ∙ set-set old u at span ∙ h span

pub but-back : (p : ProblemView) (u : ℕ) (old new : List (ℕ × ℕ)) → u < unit_count p → AreWholeBut p u old → new ≡ slice_set old u (0, alt_count p u - 1) →
    new ≡ whole_of p
but-back p u old new l h e =
    e ∙ h (0, alt_count p u - 1) ∙ ap (λ (s : ℕ × ℕ). set (whole_of p) u s) (sym (whole-at p u l)) ∙ set-get_or (whole_of p) u (0, 0)

-- an answer that says whether the ranges close
same-answer : (a b : Bool) → (a ≡ true → b ≡ true) → (b ≡ true → a ≡ true) → a ≡ b
same-answer true b f g = sym (f refl)
same-answer false b f g = elim (cases_Bool b) [ inl t ↦ g t ∙ sym t | inr n ↦ sym n ]

pub answer-out : (p : ProblemView) (prices : List Price) (scale cost u a : ℕ) (old : List (ℕ × ℕ)) (t : TotalsView) (r : Bool) → AreWholeBut p u old →
    t.ranges ≡ slice_set old u (a, a) → t.scale ≡ scale → (r ≡ true ↔ Closes p t.ranges prices t.scale (Some cost)) → r ≡ is_out p prices scale cost u a
answer-out p prices scale cost u a old t r h e s k =
    let ranges : t.ranges ≡ fixed_at p u a = e ∙ h (a, a) in
    let closes = out-closes p prices scale cost u a in
    same-answer r (is_out p prices scale cost u a)
    (λ y. closes.1 (subst (λ (n : ℕ). Closes p (fixed_at p u a) prices n (Some cost)) s (subst (λ (rs : List (ℕ × ℕ)). Closes p rs prices t.scale (Some cost)) ranges (k.0 y))))
    (λ y. k.1 (subst (λ (rs : List (ℕ × ℕ)). Closes p rs prices t.scale (Some cost)) (sym ranges) (subst (λ (n : ℕ). Closes p (fixed_at p u a) prices n (Some cost)) (sym s) (closes.0 y))))

-- a number is added where it passes
pub passing-push : (p : ℕ → Bool) (n : ℕ) (old : List ℕ) → old ≡ passing p n → p n ≡ true → old ++ n ∷ [] ≡ passing p (n + 1)
passing-push p n old e is =
    ap (λ (l : List ℕ). l ++ n ∷ []) e ∙ ap (λ (b : Bool). passing p n ++ cond b (n ∷ []) []) (sym is) ∙ sym (passing-more p n)

pub passing-same : (p : ℕ → Bool) (n : ℕ) (old : List ℕ) → old ≡ passing p n → p n ≡ false → old ≡ passing p (n + 1)
passing-same p n old e is =
    e ∙ sym (append-nil (passing p n)) ∙ ap (λ (b : Bool). passing p n ++ cond b (n ∷ []) []) (sym is) ∙ sym (passing-more p n)

-- one value more
pub map-push : {X : Type 0} (f : ℕ → X) (n : ℕ) (old : List X) (x : X) → old ≡ map f (range_with_len 0 n) → x ≡ f n → old ++ x ∷ [] ≡ map f (range_with_len 0 (n + 1))
map-push {X} f n old x e is =
    let s : 0 + n ≡ n = omega arith in
    ap (λ (l : List X). l ++ x ∷ []) e ∙ ap (λ (y : X). map f (range_with_len 0 n) ++ y ∷ []) is ∙ sym (map-range_with_len_more f 0 n n s)

-- limits as integers and back
pub amounts : (limits : List ℕ) → map amount (map pos limits) ≡ limits
amounts [] = refl
amounts (n ∷ limits) = ap (λ (l : List ℕ). n ∷ l) (amounts limits)

pub limits-from : (limits : List ℕ) → All (λ z. pos 0 ≤ℤ z) (map pos limits)
limits-from limits = All-map (λ z. pos 0 ≤ℤ z) pos limits (λ i d l. omega (arith, ints))

-- the value of one number more
pub take-push : {X : Type 0} (f : ℕ → X) (numbers : List ℕ) (n : ℕ) (old : List X) (x : X) → n < length numbers → old ≡ map f (take n numbers) →
    x ≡ f (slice_index numbers n) → old ++ x ∷ [] ≡ map f (take (n + 1) numbers)
take-push {X} f numbers n old x l e is =
    ap₂ (λ (xs : List X) (y : X). xs ++ y ∷ []) e is ∙ sym (map_push f (take n numbers) (slice_index numbers n))
    ∙ ap (λ (ns : List ℕ). map f ns) (sym (take_more numbers n 0 l))

-- a unit, from copies of its parts and the alternatives that were taken
pub unit-made : (m : ChooserView) (numbers : List ℕ) (k : ℕ) (parts : List (List Strip)) (alts : List Alt) → IsChooser m → 0 < length numbers →
    length numbers ≤ length m.alts → All (λ a. a < length m.alts) numbers → length numbers ≤ k → parts ≡ m.parts →
    alts ≡ map (λ a. alt_at m a) (take k numbers) → IsChooser (record { parts = parts; alts = alts })
unit-made m numbers k parts alts v some few there all same taken =
    let is : unit_with m numbers ≡ record { parts = parts; alts = alts } =
    ap₂ (λ (ps : List (List Strip)) (bs : List Alt). record { parts = ps; alts = bs }) (sym same)
    (ap (λ (l : List ℕ). map (λ a. alt_at m a) l) (sym (take_all k numbers all)) ∙ sym taken) in
    subst IsChooser is (unit_with-IsChooser m numbers v some (omega (arith, few, v.few_alts)) there)

-- a problem, from such units and copies of its limits
pub problem-made : (p : ProblemView) (alts : ℕ → List ℕ) (units : List ChooserView) (limits : List ℤ) →
    units ≡ map (λ u. unit_with (chooser_at p u) (alts u)) (range_with_len 0 (unit_count p)) → limits ≡ map pos p.limits →
    problem_of units limits ≡ problem_with p alts
problem-made p alts units limits e f =
    ap₂ (λ (us : List ChooserView) (ls : List ℕ). record { units = us; limits = ls }) e (ap (λ (zs : List ℤ). map amount zs) f ∙ amounts p.limits)

pub problem-within : (p : ProblemView) (alts : ℕ → List ℕ) (units : List ChooserView) (limits : List ℤ) →
    units ≡ map (λ u. unit_with (chooser_at p u) (alts u)) (range_with_len 0 (unit_count p)) → limits ≡ map pos p.limits →
    (length units ≡ unit_count p) × (length limits ≡ resource_count p)
problem-within p alts units limits e f = (
  ap length e ∙ length-map-range_with_len {X = ChooserView} (λ u. unit_with (chooser_at p u) (alts u)) 0 (unit_count p),
  ap length f ∙ length-map {B = ℤ} p.limits pos,
)

-- the same alternatives of each unit give the same problem
map-same : {X : Type 0} (f g : ℕ → X) (n : ℕ) → ((u : ℕ) → u < n → f u ≡ g u) → map f (range_with_len 0 n) ≡ map g (range_with_len 0 n)
map-same {X} f g n h =
    ext_get_or (f 0) (map f (range_with_len 0 n)) (map g (range_with_len 0 n)) (length-map-range_with_len f 0 n ∙ sym (length-map-range_with_len g 0 n))
    (λ i l.
    let m : i < n = omega (arith, l, length-map-range_with_len f 0 n) in
    let s : 0 + i ≡ i = omega arith in
    get_or-map-range_with_len f 0 n i i (f 0) m s ∙ h i m ∙ sym (get_or-map-range_with_len g 0 n i i (f 0) m s))

with-same : (p : ProblemView) (f g : ℕ → List ℕ) → ((u : ℕ) → u < unit_count p → f u ≡ g u) → problem_with p f ≡ problem_with p g
with-same p f g h =
    ap (λ (units : List ChooserView). record { units = units; limits = p.limits })
    (map-same (λ u. unit_with (chooser_at p u) (f u)) (λ u. unit_with (chooser_at p u) (g u)) (unit_count p)
    (λ u l. ap (λ (alts : List ℕ). unit_with (chooser_at p u) alts) (h u l)))

-- what is left, from the numbers of its alternatives
module _ (p : ProblemView) (prices : List Price) (scale cost : ℕ) where
  abbrev lefts : ℕ → List ℕ
  lefts u = left_alts p prices scale cost u

  pub left-same : (alts : List (List ℕ)) → alts ≡ numbers_with p lefts → problem_with p (alts_in alts) ≡ left_problem p prices scale cost
  left-same alts e = with-same p (alts_in alts) lefts (λ u l. ap (λ (bs : List (List ℕ)). alts_in bs u) e ∙ numbers-at p lefts u l)

  -- all units have some exactly where each has one left
  pub left-has : (alts : List (List ℕ)) → alts ≡ numbers_with p lefts → ((u : ℕ) → u < length alts → 0 < length (alts_in alts u)) → LeavesSome p prices scale cost
  left-has alts e h = λ u l.
      let at = ap (λ (bs : List (List ℕ)). length (alts_in bs u)) e ∙ ap length (numbers-at p lefts u l) in
      omega (arith, at, h u (omega (arith, l, ap length e, numbers-count p lefts)))

  pub has-left : (alts : List (List ℕ)) → alts ≡ numbers_with p lefts → LeavesSome p prices scale cost → (u : ℕ) → u < length alts → 0 < length (alts_in alts u)
  has-left alts e h = λ u l.
      let l' : u < unit_count p = omega (arith, l, ap length e, numbers-count p lefts) in
      let at = ap (λ (bs : List (List ℕ)). length (alts_in bs u)) e ∙ ap length (numbers-at p lefts u l') in
      omega (arith, at, h u l')

  -- they are some alternatives of each unit
  pub left-alts-of : (alts : List (List ℕ)) → alts ≡ numbers_with p lefts → ((u : ℕ) → u < length alts → 0 < length (alts_in alts u)) → AreAltsOf p alts
  left-alts-of alts e h = record {
    count = ap length e ∙ numbers-count p lefts;
    some = λ u l. h u (omega (arith, l, ap length e, numbers-count p lefts));
    few = λ u l.
        let at = ap (λ (bs : List (List ℕ)). length (alts_in bs u)) e ∙ ap length (numbers-at p lefts u l) in
        omega (arith, at, parted-few (λ a. not (is_out p prices scale cost u a)) (λ a. uses_last p u a) (alt_count p u));
    there = λ u l.
        subst (λ (bs : List ℕ). All (λ a. a < alt_count p u) bs) (sym (ap (λ (bs : List (List ℕ)). alts_in bs u) e ∙ numbers-at p lefts u l))
        (parted-there (λ a. not (is_out p prices scale cost u a)) (λ a. uses_last p u a) (alt_count p u));
  }

  -- and number those of what is left
  pub left-numbered : (alts : List (List ℕ)) → alts ≡ numbers_with p lefts → (q : ProblemView) → q ≡ left_problem p prices scale cost → IsNumbering q alts
  left-numbered alts e q is = subst (λ (r : ProblemView). IsNumbering r alts) (sym is) (record {
    count = ap length e ∙ numbers-count p lefts ∙ sym (with-count p lefts);
    each = λ u l.
        let l' : u < unit_count p = omega (arith, l, with-count p lefts) in
        ap (λ (bs : List (List ℕ)). length (alts_in bs u)) e ∙ ap length (numbers-at p lefts u l') ∙ sym (with-alts p lefts u l');
  })

-- a choice of the whole problem that takes an alternative which is not among the numbers
pub none-whole : (q : ProblemView) (alts : List (List ℕ)) (z : List ℕ) (u n : ℕ) → IsNumbering q alts → u < unit_count q → n ≡ slice_index z u →
    ((a : ℕ) → a < alt_count q u → slice_index (alts_in alts u) a ≡ n → ⊥) → (x : List ℕ) → IsChoice q x → whole_choice alts x ≡ z → ⊥
none-whole q alts z u n v l is none x c e =
    none (slice_index x u) (c.there u l)
    (sym (whole-number alts x u (omega (arith, l, v.count))) ∙ ap (λ (ns : List ℕ). slice_index ns u) e ∙ sym is)
