-- The least uses of units: counts that are moved into lists, and lists that name each resource once.
use Rattle.std.proofs.Common.{◌≡◌, ◌⊎◌, ℕ, zero, suc, ◌+◌, ◌-◌, ◌<◌, ◌≤◌, min, cond, List, [], ◌∷◌, ◌++◌, length, set, take, get_or, slice_index, append-nil, Option, Some, None, refl, sym, ◌∙◌, ap, subst, arith, inl, inr}
use Rattle.std.specs.Prelude.{◌==◌, if◌then◌else◌}
use Rattle.std.proofs.lemmas.Bool.{cases_lt, cases_eq, eq-eqb, ne_eqb, le-leb, lt-leb, lt-ltb, le-ltb}
use Rattle.std.proofs.lemmas.Grind.{get_or-set_at}
use Rattle.std.proofs.lemmas.List.{get_or-set_other, get_or-map, length-set, take_more}
use Rattle.std.proofs.lemmas.List.Elements.{All-append, All-cons, All-nil, All-get_or}
use Rattle.std.proofs.lemmas.List.Sums.{sum_by-append, sum_by-cons, sum_by_more, sum_by_more_le}
use Rattle.finite_sums.specs.Sums.{sum_below, count_below, least_within}
use Rattle.finite_sums.proofs.SumLemmas.{sum_below-more, count_below-more, least_within-le, least_within-ge}
use Rattle.choice_problem.specs.Loops.{run_uses}
use Rattle.choice_problem.specs.Counts.{GrowsBy, HasUses}
use Rattle.window_counts.specs.Placed.{AreZero}
use Rattle.choice_problem.specs.declared.strips.Strip.{Strip}
use Rattle.choice_problem.specs.Strips.{run_start, is_in_run, strip_uses, part_uses}
use Rattle.choice_problem.specs.Problems.{ProblemView, ChooserView, unit_count, alt_count, alt_uses, alt_at, part_at, named_uses, chooser_uses}
use Rattle.choice_problem.specs.Bounds.{whole_of, low_of, high_of}
use Rattle.report_lines.specs.declared.least.Used.{Used}
use Rattle.report_lines.specs.Private.{times_in, uses_in, lesser_entry, lesser_in, AreBelow, AreUsed, MovesUses, KeepsLesser, least_uses}

-- ---- one entry more

below_one : (n : ℕ) (x : Used) → x.resource < n → AreBelow n (x ∷ [])
below_one n x lt = All-cons (λ (one : Used). one.resource < n) x [] lt (All-nil (λ (one : Used). one.resource < n))

abbrev one_at : ℕ → ℕ → ℕ
one_at a r = if a == r then 1 else 0

pub uses_more : (xs : List Used) (x : Used) (r : ℕ) → uses_in (xs ++ x ∷ []) r ≡ uses_in xs r + (if x.resource == r then x.uses else 0)
uses_more xs x r =
    let f : Used → ℕ = λ (one : Used). if one.resource == r then one.uses else 0 in
    omega (arith, sum_by-append f xs (x ∷ []), sum_by-cons f x [])

pub times_more : (xs : List Used) (x : Used) (r : ℕ) → times_in (xs ++ x ∷ []) r ≡ times_in xs r + (if x.resource == r then 1 else 0)
times_more xs x r =
    let f : Used → ℕ = λ (one : Used). cond (one.resource == r) 1 0 in
    omega (arith, sum_by-append f xs (x ∷ []), sum_by-cons f x [])

-- ---- counts that are moved

run_within : (start end r : ℕ) → 0 < run_uses start end r → (start ≤ r) × (r < end)
run_within start end r some =
    elim (cases_lt r start) [
      | inl early ↦ absurd (omega (arith, rw (lt-leb start r early) at some))
      | inr from ↦
          elim (cases_lt r end) [
            | inl to ↦ (from, to)
            | inr past ↦ absurd (omega (arith, rw (le-leb start r from, le-ltb r end past) at some))
          ]
    ]

pub moves_none : (counts : List ℕ) (used : List Used) (uses : ℕ → ℕ) → ((r : ℕ) → uses r ≡ 0) → MovesUses counts used counts used uses
moves_none counts used uses none = record {
  count = refl;
  there = λ h. h;
  sums = λ r lt. refl;
  times = λ r lt. refl;
  zeros = λ r lt e. e;
  moved = λ r lt some. absurd (omega (arith, some, none r));
}

pub moves_join : (a b c : List ℕ) (s t v : List Used) (one two both : ℕ → ℕ) → MovesUses a s b t one → MovesUses b t c v two → ((r : ℕ) → 0 < both r → (0 < one r) ⊎ (0 < two r)) → MovesUses a s c v both
moves_join a b c s t v one two both first second which = record {
  count = second.count ∙ first.count;
  there = λ h. subst (λ (n : ℕ). AreBelow n v) first.count (second.there (subst (λ (n : ℕ). AreBelow n t) (sym first.count) (first.there h)));
  sums = λ r lt. omega (arith, first.sums r lt, second.sums r (omega (arith, first.count, lt)));
  times = λ r lt. omega (arith, first.times r lt, second.times r (omega (arith, first.count, lt)));
  zeros = λ r lt e. second.zeros r (omega (arith, first.count, lt)) (first.zeros r lt e);
  moved = λ r lt some. elim (which r some) [
    | inl here ↦ second.zeros r (omega (arith, first.count, lt)) (first.moved r lt here)
    | inr later ↦ second.moved r (omega (arith, first.count, lt)) later
  ];
}

-- a count that is 0 stays
pub moves_skip : (counts : List ℕ) (used : List Used) (place : ℕ) → slice_index counts place ≡ 0 → MovesUses counts used counts used (run_uses place (place + 1))
moves_skip counts used place none = record {
  count = refl;
  there = λ h. h;
  sums = λ r lt. refl;
  times = λ r lt. refl;
  zeros = λ r lt e. e;
  moved = λ r lt some.
      let within = run_within place (place + 1) r some in
      let same : place ≡ r = omega (arith, within.0, within.1) in
      subst (λ (q : ℕ). slice_index counts q ≡ 0) same none;
}

-- any other becomes an entry
pub moves_one : (counts : List ℕ) (used : List Used) (place uses : ℕ) → place < length counts → uses ≡ slice_index counts place → 0 < uses
    → MovesUses counts used (set counts place 0) (used ++ record { resource = place; uses = uses } ∷ []) (run_uses place (place + 1))
moves_one counts used place uses there is some =
    let x : Used = record { resource = place; uses = uses } in
    let here : (r : ℕ) → r ≡ place → slice_index (set counts place 0) r ≡ 0 = λ r same. get_or-set_at counts place r 0 0 same there in
    let other : (r : ℕ) → (r ≡ place → ⊥) → slice_index (set counts place 0) r ≡ slice_index counts r = λ r apart. get_or-set_other counts place r 0 0 apart in
    record {
      count = length-set counts place 0;
      there = λ h. All-append (λ (one : Used). one.resource < length counts) used (x ∷ []) h (below_one (length counts) x there);
      sums = λ r lt. elim (cases_eq r place) [
        | inl same ↦
            let entry : (if place == r then uses else 0) ≡ uses = rw (eq-eqb place r (sym same)) refl in
            let old = ap (slice_index counts) same in
            omega (arith, uses_more used x r, entry, here r same, is, old)
        | inr apart ↦
            let entry : (if place == r then uses else 0) ≡ 0 = rw (ne_eqb place r (λ e. apart (sym e))) refl in
            omega (arith, uses_more used x r, entry, other r apart)
      ];
      times = λ r lt. elim (cases_eq r place) [
        | inl same ↦
            let entry : one_at place r ≡ 1 = rw (eq-eqb place r (sym same)) refl in
            let old = ap (slice_index counts) same in
            omega (arith, times_more used x r, entry, here r same, is, old, some)
        | inr apart ↦
            let entry : one_at place r ≡ 0 = rw (ne_eqb place r (λ e. apart (sym e))) refl in
            omega (arith, times_more used x r, entry, other r apart)
      ];
      zeros = λ r lt e. elim (cases_eq r place) [ inl same ↦ here r same | inr apart ↦ other r apart ∙ e ];
      moved = λ r lt within.
          let at = run_within place (place + 1) r within in
          here r (omega (arith, at.0, at.1));
    }

-- one place more of a run
pub run_more : (start place r : ℕ) → start ≤ place → 0 < run_uses start (place + 1) r → (0 < run_uses start place r) ⊎ (0 < run_uses place (place + 1) r)
run_more start place r le some =
    let within = run_within start (place + 1) r some in
    elim (cases_lt r place) [
      | inl before ↦ inl (rw (le-leb start r within.0, lt-ltb r place before) (omega arith))
      | inr from ↦ inr (rw (le-leb place r from, lt-ltb r (place + 1) within.1) (omega arith))
    ]

pub run_none : (start r : ℕ) → run_uses start start r ≡ 0
run_none start r =
    elim (cases_lt r start) [
      | inl early ↦ rw (lt-leb start r early) refl
      | inr from ↦ rw (le-leb start r from, le-ltb r start from) refl
    ]

-- one of two numbers of uses
either : (a b c : ℕ) → c ≡ a + b → 0 < c → (0 < a) ⊎ (0 < b)
either zero b c is some = inr (omega (arith, is, some))
either (suc a) b c is some = inl (omega arith)

-- one run more of a strip
pub strip_more : (s : Strip) (i r start end : ℕ) → start ≡ run_start s i → end ≡ run_start s i + s.width → 0 < count_below (i + 1) (is_in_run s r) → (0 < count_below i (is_in_run s r)) ⊎ (0 < run_uses start end r)
strip_more s i r start end from to some =
    let same : run_uses start end r ≡ (if is_in_run s r i then 1 else 0) = rw (from, to) refl in
    either (count_below i (is_in_run s r)) (run_uses start end r) (count_below (i + 1) (is_in_run s r)) (omega (arith, count_below-more i (is_in_run s r), same)) some

-- one strip more of a part
pub part_more : (strips : List Strip) (i : ℕ) (d : Strip) (r : ℕ) → i < length strips → 0 < part_uses (take (i + 1) strips) r → (0 < part_uses (take i strips) r) ⊎ (0 < strip_uses (get_or strips i d) r)
part_more strips i d r lt some =
    either (part_uses (take i strips) r) (strip_uses (get_or strips i d) r) (part_uses (take (i + 1) strips) r) (sum_by_more (λ (s : Strip). strip_uses s r) strips i d lt) some

-- the same moves, seen by other uses
pub moves_as : (a b : List ℕ) (s t : List Used) (one other : ℕ → ℕ) → ((r : ℕ) → 0 < other r → 0 < one r) → MovesUses a s b t one → MovesUses a s b t other
moves_as a b s t one other less moves = record {
  count = moves.count;
  there = moves.there;
  sums = moves.sums;
  times = moves.times;
  zeros = moves.zeros;
  moved = λ r lt some. moves.moved r lt (less r some);
}

pub moves_named : (a b : List ℕ) (s t : List Used) (m : ChooserView) (part : Option ℕ) (k : ℕ) → part ≡ Some k → MovesUses a s b t (part_uses (part_at m k)) → MovesUses a s b t (named_uses m part)
moves_named a b s t m part k is moves =
    subst (λ (o : Option ℕ). MovesUses a s b t (named_uses m o)) (sym is) (moves_as a b s t (part_uses (part_at m k)) (named_uses m (Some k)) (λ r some. some) moves)

pub moves_nothing : (counts : List ℕ) (used : List Used) (m : ChooserView) (part : Option ℕ) → part ≡ None → MovesUses counts used counts used (named_uses m part)
moves_nothing counts used m part is = moves_none counts used (named_uses m part) (λ r. ap (λ (o : Option ℕ). named_uses m o r) is)

-- the two parts of an alternative
pub moves_both : (a b c : List ℕ) (s t v : List Used) (m : ChooserView) (alt : ℕ) (one two : Option ℕ) → one ≡ (alt_at m alt).one → two ≡ (alt_at m alt).two → MovesUses a s b t (named_uses m one) → MovesUses b t c v (named_uses m two) → MovesUses a s c v (chooser_uses m alt)
moves_both a b c s t v m alt one two is_one is_two first second =
    moves_join a b c s t v (named_uses m one) (named_uses m two) (chooser_uses m alt) first second (λ r some.
    let first_part = ap (λ (o : Option ℕ). named_uses m o r) is_one in
    let other_part = ap (λ (o : Option ℕ). named_uses m o r) is_two in
    either (named_uses m one r) (named_uses m two r) (chooser_uses m alt r) (omega (arith, first_part, other_part)) some)

-- all counts of an alternative have been moved
pub moved_zero : (old new : List ℕ) (before used : List Used) (uses : ℕ → ℕ) → MovesUses old before new used uses → ((r : ℕ) → r < length old → slice_index old r ≡ uses r) → (r : ℕ) → r < length new → slice_index new r ≡ 0
moved_zero old new before used uses moves are r lt' =
    let lt : r < length old = omega (arith, moves.count, lt') in
    elim (cases_lt 0 (uses r)) [
      | inl some ↦ moves.moved r lt some
      | inr none ↦ moves.zeros r lt (let zero : uses r ≡ 0 = omega (arith, none) in are r lt ∙ zero)
    ]

pub moved_all : (old new : List ℕ) (before used : List Used) (uses : ℕ → ℕ) → before ≡ [] → MovesUses old before new used uses → ((r : ℕ) → r < length old → slice_index old r ≡ uses r) → (n : ℕ) → length old ≡ n → AreUsed uses n used
moved_all old new before used uses none moves are n count =
    let at : (r : ℕ) → r < n → r < length old = λ r lt. omega (arith, count, lt) in
    let zero_at : (r : ℕ) → r < n → slice_index new r ≡ 0 = λ r lt. moved_zero old new before used uses moves are r (omega (arith, moves.count, count, lt)) in
    let no_uses : (r : ℕ) → uses_in before r ≡ 0 = λ r. ap (λ (xs : List Used). uses_in xs r) none in
    let no_times : (r : ℕ) → times_in before r ≡ 0 = λ r. ap (λ (xs : List Used). times_in xs r) none in
    record {
      there = subst (λ (k : ℕ). AreBelow k used) count (moves.there (subst (λ (xs : List Used). AreBelow (length old) xs) (sym none) (All-nil (λ (one : Used). one.resource < length old))));
      once = λ r lt. omega (arith, moves.times r (at r lt), no_times r);
      exact = λ r lt. omega (arith, moves.sums r (at r lt), zero_at r lt, are r (at r lt), no_uses r);
    }

-- counts that were 0 are what was added
pub added_is : (old new : List ℕ) (uses : ℕ → ℕ) → AreZero old → GrowsBy old new uses → length new ≡ length old → (r : ℕ) → r < length new → slice_index new r ≡ uses r
added_is old new uses zeros grows count r lt =
    let there : r < length old = omega (arith, count, lt) in
    omega (arith, zeros r there, grows r there)

-- both parts are taken away again
pub taken_zero : (a b c : List ℕ) (m : ChooserView) (alt : ℕ) (one two : Option ℕ) → one ≡ (alt_at m alt).one → two ≡ (alt_at m alt).two → ((r : ℕ) → r < length a → slice_index a r ≡ chooser_uses m alt r) → length b ≡ length a → length c ≡ length b
    → GrowsBy b a (named_uses m one) → GrowsBy c b (named_uses m two) → AreZero c
taken_zero a b c m alt one two is_one is_two are count count' first second = λ r lt.
    let in_b : r < length b = omega (arith, count', lt) in
    let in_a : r < length a = omega (arith, count, in_b) in
    let first_part = ap (λ (o : Option ℕ). named_uses m o r) is_one in
    let other_part = ap (λ (o : Option ℕ). named_uses m o r) is_two in
    omega (arith, are r in_a, first r in_b, second r lt, first_part, other_part)

pub has_first : (a : List ℕ) (m : ChooserView) (alt : ℕ) (one : Option ℕ) → one ≡ (alt_at m alt).one → ((r : ℕ) → r < length a → slice_index a r ≡ chooser_uses m alt r) → HasUses a (named_uses m one)
has_first a m alt one is_one are = λ r lt.
    let first_part = ap (λ (o : Option ℕ). named_uses m o r) is_one in
    omega (arith, are r lt, first_part)

pub has_other : (a b : List ℕ) (m : ChooserView) (alt : ℕ) (one two : Option ℕ) → one ≡ (alt_at m alt).one → two ≡ (alt_at m alt).two → ((r : ℕ) → r < length a → slice_index a r ≡ chooser_uses m alt r) → length b ≡ length a → GrowsBy b a (named_uses m one) → HasUses b (named_uses m two)
has_other a b m alt one two is_one is_two are count first = λ r lt.
    let in_a : r < length a = omega (arith, count, lt) in
    let first_part = ap (λ (o : Option ℕ). named_uses m o r) is_one in
    let other_part = ap (λ (o : Option ℕ). named_uses m o r) is_two in
    omega (arith, are r in_a, first r lt, first_part, other_part)

-- ---- the lesser of the uses of a list and of counts

none_in : (used : List Used) (count r : ℕ) → times_in used r ≡ 0 → (uses_in used r ≡ 0) × (lesser_in used count r ≡ 0)
none_in [] count r none = (refl, refl)
none_in (x ∷ xs) count r none =
    let times = sum_by-cons (λ (one : Used). cond (one.resource == r) 1 0) x xs in
    let uses = sum_by-cons (λ (one : Used). if one.resource == r then one.uses else 0) x xs in
    let less = sum_by-cons (λ (one : Used). if one.resource == r then min one.uses count else 0) x xs in
    elim (cases_eq x.resource r) [
      | inl same ↦
          let one : one_at x.resource r ≡ 1 = rw (eq-eqb x.resource r same) refl in
          absurd (omega (arith, times, one, none))
      | inr apart ↦
          let no_time : one_at x.resource r ≡ 0 = rw (ne_eqb x.resource r apart) refl in
          let no_uses : (if x.resource == r then x.uses else 0) ≡ 0 = rw (ne_eqb x.resource r apart) refl in
          let no_less : (if x.resource == r then min x.uses count else 0) ≡ 0 = rw (ne_eqb x.resource r apart) refl in
          let rest = none_in xs count r (omega (arith, times, no_time, none)) in
          (omega (arith, uses, no_uses, rest.0), omega (arith, less, no_less, rest.1))
    ]

pub lesser_all : (used : List Used) (count r : ℕ) → times_in used r ≤ 1 → lesser_in used count r ≡ min (uses_in used r) count
lesser_all [] count r once = omega arith
lesser_all (x ∷ xs) count r once =
    let times = sum_by-cons (λ (one : Used). cond (one.resource == r) 1 0) x xs in
    let uses = sum_by-cons (λ (one : Used). if one.resource == r then one.uses else 0) x xs in
    let less = sum_by-cons (λ (one : Used). if one.resource == r then min one.uses count else 0) x xs in
    elim (cases_eq x.resource r) [
      | inl same ↦
          let one : one_at x.resource r ≡ 1 = rw (eq-eqb x.resource r same) refl in
          let its_uses : (if x.resource == r then x.uses else 0) ≡ x.uses = rw (eq-eqb x.resource r same) refl in
          let its_less : (if x.resource == r then min x.uses count else 0) ≡ min x.uses count = rw (eq-eqb x.resource r same) refl in
          let rest = none_in xs count r (omega (arith, times, one, once)) in
          omega (arith, uses, less, its_uses, its_less, rest.0, rest.1)
      | inr apart ↦
          let no_time : one_at x.resource r ≡ 0 = rw (ne_eqb x.resource r apart) refl in
          let no_uses : (if x.resource == r then x.uses else 0) ≡ 0 = rw (ne_eqb x.resource r apart) refl in
          let no_less : (if x.resource == r then min x.uses count else 0) ≡ 0 = rw (ne_eqb x.resource r apart) refl in
          omega (arith, uses, less, no_uses, no_less, lesser_all xs count r (omega (arith, times, no_time, once)))
    ]

pub lesser_none : (counts : List ℕ) → KeepsLesser counts [] []
lesser_none counts = record {
  there = All-nil (λ (one : Used). one.resource < length counts);
  times = λ r. omega arith;
  uses = λ r. refl;
}

-- one more, which is kept
lesser_kept : (counts : List ℕ) (used kept : List Used) (x : Used) → KeepsLesser counts used kept → x.resource < length counts
    → KeepsLesser counts (used ++ x ∷ []) (kept ++ record { resource = x.resource; uses = min x.uses (slice_index counts x.resource) } ∷ [])
lesser_kept counts used kept x so_far below =
    let y : Used = record { resource = x.resource; uses = min x.uses (slice_index counts x.resource) } in
    record {
      there = All-append (λ (one : Used). one.resource < length counts) kept (y ∷ []) so_far.there (below_one (length counts) y below);
      times = λ r. omega (arith, so_far.times r, times_more kept y r, times_more used x r);
      uses = λ r.
          let f : Used → ℕ = λ (one : Used). if one.resource == r then min one.uses (slice_index counts r) else 0 in
          let more = sum_by-append f used (x ∷ []) in
          let last = sum_by-cons f x [] in
          elim (cases_eq x.resource r) [
            | inl same ↦
                let new : (if x.resource == r then y.uses else 0) ≡ y.uses = rw (eq-eqb x.resource r same) refl in
                let old : f x ≡ min x.uses (slice_index counts r) = rw (eq-eqb x.resource r same) refl in
                let at : y.uses ≡ min x.uses (slice_index counts r) = ap (λ (k : ℕ). min x.uses (slice_index counts k)) same in
                omega (arith, so_far.uses r, uses_more kept y r, more, last, new, old, at)
            | inr apart ↦
                let new : (if x.resource == r then y.uses else 0) ≡ 0 = rw (ne_eqb x.resource r apart) refl in
                let old : f x ≡ 0 = rw (ne_eqb x.resource r apart) refl in
                omega (arith, so_far.uses r, uses_more kept y r, more, last, new, old)
          ];
    }

-- and one that is not
lesser_left : (counts : List ℕ) (used kept : List Used) (x : Used) → KeepsLesser counts used kept → min x.uses (slice_index counts x.resource) ≡ 0 → KeepsLesser counts (used ++ x ∷ []) kept
lesser_left counts used kept x so_far none = record {
  there = so_far.there;
  times = λ r. omega (arith, so_far.times r, times_more used x r);
  uses = λ r.
      let f : Used → ℕ = λ (one : Used). if one.resource == r then min one.uses (slice_index counts r) else 0 in
      let more = sum_by-append f used (x ∷ []) in
      let last = sum_by-cons f x [] in
      elim (cases_eq x.resource r) [
        | inl same ↦
            let old : f x ≡ min x.uses (slice_index counts r) = rw (eq-eqb x.resource r same) refl in
            let at : min x.uses (slice_index counts x.resource) ≡ min x.uses (slice_index counts r) = ap (λ (k : ℕ). min x.uses (slice_index counts k)) same in
            omega (arith, so_far.uses r, more, last, old, none, at)
        | inr apart ↦
            let old : f x ≡ 0 = rw (ne_eqb x.resource r apart) refl in
            omega (arith, so_far.uses r, more, last, old)
      ];
}

pub lesser_more : (counts : List ℕ) (used kept new : List Used) (i : ℕ) (d : Used) → i < length used → AreBelow (length counts) used → KeepsLesser counts (take i used) kept → new ≡ kept ++ lesser_entry (get_or used i d) (slice_index counts (get_or used i d).resource)
    → KeepsLesser counts (take (i + 1) used) new
lesser_more counts used kept new i d lt below so_far is =
    let x = get_or used i d in
    let count = slice_index counts x.resource in
    let next : take (i + 1) used ≡ take i used ++ x ∷ [] = take_more used i d lt in
    subst (λ (xs : List Used). KeepsLesser counts xs new) (sym next)
    (subst (λ (ys : List Used). KeepsLesser counts (take i used ++ x ∷ []) ys) (sym is)
    (elim (cases_eq (min x.uses count) 0) [
      | inl none ↦
          let nothing : lesser_entry x count ≡ [] = rw (eq-eqb (min x.uses count) 0 none) refl in
          subst (λ (ys : List Used). KeepsLesser counts (take i used ++ x ∷ []) ys) (sym (ap (λ (ys : List Used). kept ++ ys) nothing ∙ append-nil kept)) (lesser_left counts (take i used) kept x so_far none)
      | inr some ↦
          let one : lesser_entry x count ≡ record { resource = x.resource; uses = min x.uses count } ∷ [] = rw (ne_eqb (min x.uses count) 0 some) refl in
          subst (λ (ys : List Used). KeepsLesser counts (take i used ++ x ∷ []) ys) (sym (ap (λ (ys : List Used). kept ++ ys) one))
          (lesser_kept counts (take i used) kept x so_far (All-get_or (λ (one : Used). one.resource < length counts) used i d lt below))
    ]))

-- ---- lists of the same uses

pub used_same : (one other : ℕ → ℕ) (n : ℕ) (used : List Used) → ((r : ℕ) → r < n → one r ≡ other r) → AreUsed one n used → AreUsed other n used
used_same one other n used same are = record {
  there = are.there;
  once = are.once;
  exact = λ r lt. are.exact r lt ∙ same r lt;
}

pub kept_used : (counts : List ℕ) (used kept : List Used) (alts : ℕ → ℕ) (n : ℕ) → length counts ≡ n → KeepsLesser counts used kept → ((r : ℕ) → r < length counts → slice_index counts r ≡ alts r) → (uses : ℕ → ℕ) → AreUsed uses n used → AreUsed (λ r. min (uses r) (alts r)) n kept
kept_used counts used kept alts n count all same uses are = record {
  there = subst (λ (k : ℕ). AreBelow k kept) count all.there;
  once = λ r lt. omega (arith, all.times r, are.once r lt);
  exact = λ r lt. omega (arith, all.uses r, lesser_all used (slice_index counts r) r (are.once r lt), are.exact r lt, same r (omega (arith, count, lt)));
}

nothing_in : (used : List Used) (r : ℕ) → length used ≡ 0 → uses_in used r ≡ 0
nothing_in [] r none = refl
nothing_in (x ∷ xs) r none = absurd (omega (arith, none))

-- nothing is used by all so far, so nothing by all
pub used_none : (one other : ℕ → ℕ) (n : ℕ) (used : List Used) → length used ≡ 0 → ((r : ℕ) → other r ≤ one r) → AreUsed one n used → AreUsed other n used
used_none one other n used none less are = used_same one other n used (λ r lt. omega (arith, less r, are.exact r lt, nothing_in used r none)) are

-- ---- the first alternative, and then the last ones, one after another

abbrev pub least_back : (ℕ → ℕ) → ℕ → ℕ → ℕ
least_back f n zero = f 0
least_back f n (suc i) = min (least_back f n i) (f (n - suc i))

pub back_step : (f : ℕ → ℕ) (n i : ℕ) → 0 < i → min (least_back f n (i - 1)) (f (n - i)) ≡ least_back f n i
back_step f n zero some = absurd (omega (arith, some))
back_step f n (suc i) some =
    let before : suc i - 1 ≡ i = omega arith in
    ap (λ (k : ℕ). min (least_back f n k) (f (n - suc i))) before

pub back_ge : (f : ℕ → ℕ) (n i : ℕ) → i < n → least_within 0 (n - 1) f ≤ least_back f n i
back_ge f n zero lt = least_within-le 0 (n - 1) 0 f (omega arith) (omega arith)
back_ge f n (suc i) lt =
    let before = back_ge f n i (omega arith) in
    let last = least_within-le 0 (n - 1) (n - suc i) f (omega arith) (omega arith) in
    omega (arith, before, last)

back_first : (f : ℕ → ℕ) (n i : ℕ) → least_back f n i ≤ f 0
back_first f n zero = omega arith
back_first f n (suc i) = omega (arith, back_first f n i)

back_le : (f : ℕ → ℕ) (n i a : ℕ) → a < n → n ≤ a + i → least_back f n i ≤ f a
back_le f n zero a lt from = absurd (omega (arith, lt, from))
back_le f n (suc i) a lt from =
    elim (cases_lt (a + i) n) [
      | inl last ↦
          let same : n - suc i ≡ a = omega (arith, last, from) in
          let at = ap f same in
          omega (arith, at)
      | inr earlier ↦ omega (arith, back_le f n i a lt earlier)
    ]

pub back_all : (f : ℕ → ℕ) (n i : ℕ) → 0 < n → i ≡ n - 1 → least_back f n i ≡ least_within 0 (n - 1) f
back_all f n i some is =
    let ge = back_ge f n i (omega (arith, some, is)) in
    let le = least_within-ge 0 (n - 1) (least_back f n i) f (omega arith) (λ a from to.
    elim (cases_lt 0 a) [
      | inl later ↦ back_le f n i a (omega (arith, some, to)) (omega (arith, is, later))
      | inr first ↦
          let same : 0 ≡ a = omega (arith, first) in
          let at = ap f same in
          omega (arith, back_first f n i, at)
    ]) in
    omega (arith, ge, le)

-- the ranges of all alternatives
pub whole_least : (p : ProblemView) (u : ℕ) (f : ℕ → ℕ) → u < unit_count p → least_within (low_of (whole_of p) u) (high_of (whole_of p) u) f ≡ least_within 0 (alt_count p u - 1) f
whole_least p u f lt =
    ap (λ (range : ℕ × ℕ). least_within range.0 range.1 f) (get_or-map (λ (m : ChooserView). (0, length m.alts - 1)) p.units u (record { parts = []; alts = [] }) (0, 0) lt)

-- ---- uses that are added to loads

entry_uses : (x : Used) → (if x.resource == x.resource then x.uses else 0) ≡ x.uses
entry_uses x = rw (eq-eqb x.resource x.resource refl) refl

pub entry_room : (used : List Used) (i : ℕ) (d : Used) → i < length used → uses_in (take i used) (get_or used i d).resource + (get_or used i d).uses ≤ uses_in used (get_or used i d).resource
entry_room used i d lt =
    let x = get_or used i d in
    let more = sum_by_more_le (λ (one : Used). if one.resource == x.resource then one.uses else 0) used i d lt in
    omega (arith, more, entry_uses x)

pub entry_added : (old loads : List ℕ) (used : List Used) (i : ℕ) (d : Used) (load : ℕ) → i < length used → (get_or used i d).resource < length loads → load ≡ slice_index loads (get_or used i d).resource + (get_or used i d).uses
    → GrowsBy old loads (uses_in (take i used)) → GrowsBy old (set loads (get_or used i d).resource load) (uses_in (take (i + 1) used))
entry_added old loads used i d load lt there is so_far = λ r in_old.
    let x = get_or used i d in
    let more = sum_by_more (λ (one : Used). if one.resource == r then one.uses else 0) used i d lt in
    elim (cases_eq r x.resource) [
      | inl same ↦
          let entry : (if x.resource == r then x.uses else 0) ≡ x.uses = rw (eq-eqb x.resource r (sym same)) refl in
          let at : slice_index (set loads x.resource load) r ≡ load = get_or-set_at loads x.resource r load 0 same there in
          let before = ap (slice_index loads) same in
          omega (arith, so_far r in_old, more, entry, at, before, is)
      | inr apart ↦
          let entry : (if x.resource == r then x.uses else 0) ≡ 0 = rw (ne_eqb x.resource r (λ e. apart (sym e))) refl in
          let at : slice_index (set loads x.resource load) r ≡ slice_index loads r = get_or-set_other loads x.resource r load 0 apart in
          omega (arith, so_far r in_old, more, entry, at)
    ]

-- the loads of one unit more
pub unit_added : (p : ProblemView) (u r : ℕ) (before after uses : ℕ) → u < unit_count p → before ≡ sum_below u (λ (v : ℕ). least_within (low_of (whole_of p) v) (high_of (whole_of p) v) (λ (alt : ℕ). alt_uses p v alt r)) → uses ≡ least_uses p u r → after ≡ before + uses
    → after ≡ sum_below (u + 1) (λ (v : ℕ). least_within (low_of (whole_of p) v) (high_of (whole_of p) v) (λ (alt : ℕ). alt_uses p v alt r))
unit_added p u r before after uses lt is least grows =
    let more = sum_below-more u (λ (v : ℕ). least_within (low_of (whole_of p) v) (high_of (whole_of p) v) (λ (alt : ℕ). alt_uses p v alt r)) in
    omega (arith, more, is, least, grows, whole_least p u (λ (alt : ℕ). alt_uses p u alt r) lt)

-- the least is at most what the first alternative uses
pub few_least : (p : ProblemView) (u most : ℕ) → ((r : ℕ) → alt_uses p u 0 r ≤ most) → (r : ℕ) → least_uses p u r ≤ most
few_least p u most few r =
    let first = least_within-le 0 (alt_count p u - 1) 0 (λ (alt : ℕ). alt_uses p u alt r) (omega arith) (omega arith) in
    omega (arith, first, few r)
