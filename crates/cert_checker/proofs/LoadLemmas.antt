-- Least loads that are kept while the ranges change.
use Rattle.std.proofs.Common.{◌≡◌, ℕ, zero, suc, ◌+◌, ◌<◌, ◌≤◌, refl, sym, ◌∙◌, ap, subst, arith, List, [], ◌∷◌, ◌++◌, length, get_or, set}
use Rattle.std.specs.Prelude.{All, drop, slice_set}
use Rattle.std.specs.List.{Contains}
use Rattle.std.proofs.lemmas.List.{get_or-set_same, get_or-set_other, length-set, drop_more}
use Rattle.finite_sums.specs.Sums.{least_within}
use Rattle.finite_sums.proofs.ChangeLemmas.{sum_below-change, term-le}
use Rattle.choice_problem.specs.Problems.{ProblemView, unit_count, alt_uses}
use Rattle.choice_problem.specs.Bounds.{AreRanges, low_of, high_of, least_load}
use Rattle.choice_problem.specs.Walks.{AreChanges}
use Rattle.cert_checker.specs.declared.loads.Loads.{Loads}
use Rattle.kept_bounds.specs.Changes.{AgreeBut}
use Rattle.cert_checker.specs.Marked.{AreOnce}
use Rattle.cert_checker.specs.KeptLoads.{least_at, AreKeptLoads}
use Rattle.cert_checker.specs.Loads.{IsLoadState, AreWholeLoads}
use Rattle.cert_checker.proofs.KeptLoadLemmas.{SeenMore, places-more}
use Rattle.cert_checker.proofs.MarkedLemmas.{any-default}

-- ranges that are those of now for some of the changed units, and have all alternatives of the
-- others that are left
pub record IsMixed (p : ProblemView) (whole ranges : List (ℕ × ℕ)) (r : ℕ) (left : List ℕ) (load : ℕ) : Type 0 where
  pub mixed : List (ℕ × ℕ)
  pub count : length mixed ≡ unit_count p
  pub load_is : load ≡ least_load p mixed r
  pub others : AgreeBut left mixed ranges
  pub still : (u : ℕ) → Contains left u → get_or mixed u (0, 0) ≡ get_or whole u (0, 0)

same-least : (p : ProblemView) (one other : List (ℕ × ℕ)) (r u : ℕ) → get_or one u (0, 0) ≡ get_or other u (0, 0) → least_at p one r u ≡ least_at p other r u
same-least p one other r u e = ap (λ (s : ℕ × ℕ). least_within s.0 s.1 (λ a. alt_uses p u a r)) e

head-of : (units : List ℕ) (i unit d : ℕ) → i < length units → unit ≡ get_or units i d → drop i units ≡ unit ∷ drop (i + 1) units
head-of units i unit d lt at = drop_more units i d lt ∙ ap (λ (n : ℕ). n ∷ drop (i + 1) units) (sym at)

contains-head : (units : List ℕ) (i unit d : ℕ) → i < length units → unit ≡ get_or units i d → Contains (drop i units) unit
contains-head units i unit d lt at = subst (λ (xs : List ℕ). Contains xs unit) (sym (head-of units i unit d lt at)) (0, omega arith, refl)

contains-tail : (units : List ℕ) (i unit d u : ℕ) → i < length units → unit ≡ get_or units i d → Contains (drop (i + 1) units) u → Contains (drop i units) u
contains-tail units i unit d u lt at h = subst (λ (xs : List ℕ). Contains xs u) (sym (head-of units i unit d lt at)) (suc h.0, omega (arith, h.1), h.2)

drop-at : (units : List ℕ) (n k d : ℕ) → get_or (drop n units) k d ≡ get_or units (n + k) d
drop-at [] zero k d = refl
drop-at [] (suc n) k d = refl
drop-at (x ∷ units) zero k d = ap (λ (m : ℕ). get_or (x ∷ units) m d) (omega arith)
drop-at (x ∷ units) (suc n) k d =
    let e : suc (n + k) ≡ suc n + k = omega arith in
    drop-at units n k d ∙ ap (λ (m : ℕ). get_or (x ∷ units) m d) e

drop-within : (units : List ℕ) (n k : ℕ) → k < length (drop n units) → n + k < length units
drop-within [] zero k lt = absurd (omega arith)
drop-within [] (suc n) k lt = absurd (omega arith)
drop-within (x ∷ units) zero k lt = omega arith
drop-within (x ∷ units) (suc n) k lt = let l = drop-within units n k lt in omega (arith, l)

-- the first unit that is left is none of those after it
head-out : (units : List ℕ) (i unit d u : ℕ) → i < length units → unit ≡ get_or units i d → AreOnce units → Contains (drop (i + 1) units) u → u ≡ unit → ⊥
head-out units i unit d u lt at once h e =
    let within : i + 1 + h.0 < length units = drop-within units (i + 1) h.0 h.1 in
    let here : get_or units (i + 1 + h.0) 0 ≡ u = any-default units (i + 1 + h.0) 0 u within ∙ sym (drop-at units (i + 1) h.0 u) ∙ h.2 in
    let first : get_or units i 0 ≡ unit = any-default units i 0 d lt ∙ sym at in
    once i (i + 1 + h.0) (omega arith) within (first ∙ sym e ∙ sym here)

-- what is asked of a load before a unit's uses are exchanged
pub mixed-part : (p : ProblemView) (whole ranges : List (ℕ × ℕ)) (r i : ℕ) (units : List ℕ) (unit d load : ℕ) → i < length units → unit ≡ get_or units i d → unit < unit_count p → IsMixed p whole ranges r (drop i units) load →
    least_at p whole r unit ≤ load
mixed-part p whole ranges r i units unit d load lt at there m =
    let same = same-least p m.mixed whole r unit (m.still unit (contains-head units i unit d lt at)) in
    let part = term-le (unit_count p) unit (least_at p m.mixed r) there in
    omega (arith, same, part, m.load_is)

-- one unit more is at its range, and the end of the units
abbrev pub AgreeNext : Type 0
AgreeNext = (old new ranges : List (ℕ × ℕ)) (units : List ℕ) (i unit d : ℕ) → i < length units → unit ≡ get_or units i d → unit < length old → new ≡ slice_set old unit (low_of ranges unit, high_of ranges unit) →
    AgreeBut (drop i units) old ranges → AgreeBut (drop (i + 1) units) new ranges

abbrev pub AgreeAll : Type 0
AgreeAll = (one ranges : List (ℕ × ℕ)) (units : List ℕ) (i : ℕ) → length units ≤ i → length one ≡ length ranges → AgreeBut (drop i units) one ranges → one ≡ ranges

pub mixed-next : AgreeNext → (p : ProblemView) (whole ranges : List (ℕ × ℕ)) (r i : ℕ) (units : List ℕ) (unit d load next : ℕ) → i < length units → unit ≡ get_or units i d → unit < unit_count p → AreOnce units →
    next + least_at p whole r unit ≡ load + least_at p ranges r unit → IsMixed p whole ranges r (drop i units) load → IsMixed p whole ranges r (drop (i + 1) units) next
mixed-next law p whole ranges r i units unit d load next lt at there once exchanged m =
    let span : ℕ × ℕ = (low_of ranges unit, high_of ranges unit) in
    let new = set m.mixed unit span in
    let in_range : unit < length m.mixed = omega (arith, there, m.count) in
    let here : get_or new unit (0, 0) ≡ get_or ranges unit (0, 0) = get_or-set_same m.mixed unit span (0, 0) in_range in
    let away : (u : ℕ) → (u ≡ unit → ⊥) → get_or new u (0, 0) ≡ get_or m.mixed u (0, 0) = λ u other. get_or-set_other m.mixed unit u span (0, 0) other in
    let change : least_load p m.mixed r + least_at p new r unit ≡ least_load p new r + least_at p m.mixed r unit =
    sum_below-change (unit_count p) unit (least_at p m.mixed r) (least_at p new r) there (λ u lu other. sym (same-least p new m.mixed r u (away u other))) in
    let was = same-least p m.mixed whole r unit (m.still unit (contains-head units i unit d lt at)) in
    let now = same-least p new ranges r unit here in
    record {
      mixed = new;
      count = length-set m.mixed unit span ∙ m.count;
      load_is = omega (arith, change, was, now, exchanged, m.load_is);
      others = law m.mixed new ranges units i unit d lt at in_range refl m.others;
      still = λ u h. away u (head-out units i unit d u lt at once h) ∙ m.still u (contains-tail units i unit d u lt at h);
    }

pub mixed-end : AgreeAll → (p : ProblemView) (whole ranges : List (ℕ × ℕ)) (r i : ℕ) (units : List ℕ) (load : ℕ) → length units ≤ i → length ranges ≡ unit_count p → IsMixed p whole ranges r (drop i units) load → load ≡ least_load p ranges r
mixed-end law p whole ranges r i units load past count m =
    m.load_is ∙ ap (λ (rs : List (ℕ × ℕ)). least_load p rs r) (law m.mixed ranges units i past (m.count ∙ sym count) m.others)

-- ---- some changes more

drop-front : (xs ys : List ℕ) → drop (length xs) (xs ++ ys) ≡ ys
drop-front [] ys = refl
drop-front (x ∷ xs) ys = drop-front xs ys

pub changes-more : (old new : List (ℕ × ℕ)) (before after : List ℕ) → (changed : AreChanges old new before after) → drop (length before) after ≡ changed.more
changes-more old new before after changed = ap (λ (xs : List ℕ). drop (length before) xs) changed.after_is ∙ drop-front before changed.more

pub loads-more : SeenMore → (p : ProblemView) (old new : List (ℕ × ℕ)) (before after : List ℕ) (l next : Loads) → AreChanges old new before after → next.whole ≡ l.whole → next.named ≡ l.named → next.known ≡ l.known → next.kept ≡ l.kept → next.changed.most ≡ l.changed.most →
    ((u : ℕ) → Contains (drop (length before) after) u → Contains next.changed.units u) → ((u : ℕ) → Contains l.changed.units u → Contains next.changed.units u) → IsLoadState p old before l → IsLoadState p new after next
loads-more law p old new before after l next changed whole named known kept most all stay are =
    let more = changes-more old new before after changed in
    let first : AreWholeLoads p l.whole l.named.items next.known.items = subst (λ (k : _). AreWholeLoads p l.whole l.named.items k.items) (sym known) are.known in
    let one : AreWholeLoads p l.whole next.named.items next.known.items = subst (λ (k : _). AreWholeLoads p l.whole k.items next.known.items) (sym named) first in
    let places : AreKeptLoads p new l.whole after next.changed.units next.kept.items =
    subst (λ (k : _). AreKeptLoads p new l.whole after next.changed.units k.items) (sym kept) (places-more law p old new l.whole before after l.changed.units next.changed.units l.kept.items changed stay are.kept) in
    record {
      whole = whole ∙ are.whole;
      valid = subst (AreRanges p) (sym whole) are.valid;
      most = most ∙ are.most;
      others = λ u out. ap (λ (w : List (ℕ × ℕ)). get_or w u (0, 0)) whole ∙ are.others u (λ h. out (stay u h))
          ∙ sym (changed.same u (λ h. out (all u (subst (λ (xs : List ℕ). Contains xs u) (sym more) h))));
      known = subst (λ (w : List (ℕ × ℕ)). AreWholeLoads p w next.named.items next.known.items) (sym whole) one;
      some = subst (λ (k : _). 0 < length k.items) (sym kept) are.some;
      kept = subst (λ (w : List (ℕ × ℕ)). AreKeptLoads p new w after next.changed.units next.kept.items) (sym whole) places;
    }

pub changes-there : (p : ProblemView) (old new : List (ℕ × ℕ)) (before after : List ℕ) → length old ≡ unit_count p → AreChanges old new before after → All (λ u. u < unit_count p) (drop (length before) after)
changes-there p old new before after count changed =
    subst (λ (xs : List ℕ). All (λ u. u < unit_count p) xs) (sym (changes-more old new before after changed))
    (subst (λ (n : ℕ). All (λ u. u < n) changed.more) count changed.there)
