-- Classes of equal resources, split by the uses of parts.
use Rattle.std.proofs.Common.{◌≡◌, ℕ, ◌+◌, ◌*◌, ◌<◌, ◌≤◌, max, refl, sym, ◌∙◌, ap, subst, arith, List, [], ◌∷◌, ◌++◌, length, set, inl, inr}
use Rattle.std.specs.Prelude.{slice_index, nat_eq, if◌then◌else◌}
use Rattle.std.proofs.lemmas.Grind.{common_steps}
use Rattle.std.proofs.lemmas.Bool.{cases_lt, cases_eq}
use Rattle.std.proofs.lemmas.List.{get_or-set_same, get_or-set_other, length-set, get_or_append_left, get_or_push, length-append}
use Rattle.choice_problem.specs.Loops.{run_uses}
use Rattle.dual_bound.specs.declared.refine.Split.{Split}
use Rattle.dual_bound.specs.Classes.{IsByClass, AreClasses, AreSplit, IsBySplit, AreSplitBy, IsSplitOff, IsFirstWith, AreFirstsIn, split_at}
use Rattle.dual_bound.proofs.CountLemmas.{run_uses-none, run_uses-last, run_uses-past, run_uses-other}

abbrev none : Split
none = record { part = 0; class = 0 }

IsBySplit-same : (part more n : ℕ) (classes : List ℕ) (splits : List Split) (f g : ℕ → ℕ) → ((r : ℕ) → r < n → g r ≡ f r) → IsBySplit part more n classes splits f →
    IsBySplit part more n classes splits g
IsBySplit-same part more n classes splits f g e h = record { by_class = h.by_class; each = λ r l. e r l ∙ h.each r l; made = h.made }

-- no uses yet
pub AreSplitBy-start : (part n : ℕ) (classes : List ℕ) (splits : List Split) (uses : ℕ → ℕ) → AreSplit part n classes splits → ((r : ℕ) → uses r ≡ 0) →
    AreSplitBy part n classes splits classes splits uses
AreSplitBy-start part n classes splits uses s e = record {
  split = s;
  more = omega arith;
  shared = λ more f h. IsBySplit-same part more n classes splits f (λ r. f r + more * uses r) (λ r l. rw (e r) (omega arith)) h;
}

-- two splits by uses of a part, one after the other
pub AreSplitBy-then : (part n : ℕ) (classes : List ℕ) (splits : List Split) (classes' : List ℕ) (splits' : List Split) (classes'' : List ℕ) (splits'' : List Split)
    (uses others all : ℕ → ℕ) → ((r : ℕ) → all r ≡ uses r + others r) → AreSplitBy part n classes splits classes' splits' uses →
    AreSplitBy part n classes' splits' classes'' splits'' others → AreSplitBy part n classes splits classes'' splits'' all
AreSplitBy-then part n classes splits classes' splits' classes'' splits'' uses others all e h k = record {
  split = k.split;
  more = omega (arith, h.more, k.more);
  shared = λ more f b. IsBySplit-same part more n classes'' splits'' (λ r. (f r + more * uses r) + more * others r) (λ r. f r + more * all r) (λ r l. rw (e r) (omega arith))
      (k.shared more (λ r. f r + more * uses r) (h.shared more f b));
}

-- a class made anew
split_at-new_old : (splits : List Split) (class part other c : ℕ) → c < length splits → (c ≡ class → ⊥) →
    split_at (set splits class (record { part = part; class = other }) ++ none ∷ []) c ≡ split_at splits c
split_at-new_old splits class part other c l o =
    get_or_append_left (set splits class (record { part = part; class = other })) (none ∷ []) none c (rw (length-set splits class (record { part = part; class = other })) l)
    ∙ get_or-set_other splits class c (record { part = part; class = other }) none o

split_at-new_class : (splits : List Split) (class part other : ℕ) → class < length splits →
    split_at (set splits class (record { part = part; class = other }) ++ none ∷ []) class ≡ record { part = part; class = other }
split_at-new_class splits class part other l =
    get_or_append_left (set splits class (record { part = part; class = other })) (none ∷ []) none class (rw (length-set splits class (record { part = part; class = other })) l)
    ∙ get_or-set_same splits class (record { part = part; class = other }) none l

split_at-new_last : (splits : List Split) (class part other c : ℕ) → length splits ≡ c →
    split_at (set splits class (record { part = part; class = other }) ++ none ∷ []) c ≡ none
split_at-new_last splits class part other c e =
    get_or_push (set splits class (record { part = part; class = other })) none none c (length-set splits class (record { part = part; class = other }) ∙ e)

length-new : (splits : List Split) (class part other : ℕ) → length (set splits class (record { part = part; class = other }) ++ none ∷ []) ≡ length splits + 1
length-new splits class part other = omega (
  arith,
  length-append (set splits class (record { part = part; class = other })) (none ∷ []),
  length-set splits class (record { part = part; class = other }),
)

-- what is known of each split after a class is made anew, where it is known of the old ones
new-each : (P : ℕ → Split → Type 0) (splits : List Split) (class part other : ℕ) → class < length splits →
    P class (record { part = part; class = other }) → P (length splits) none →
    ((c : ℕ) → c < length splits → (c ≡ class → ⊥) → P c (split_at splits c)) → (c : ℕ) →
    c < length (set splits class (record { part = part; class = other }) ++ none ∷ []) →
    P c (split_at (set splits class (record { part = part; class = other }) ++ none ∷ []) c)
new-each P splits class part other b one last old c l = elim (cases_eq c class) [
  | inl e ↦ subst (λ k. P k (split_at (set splits class (record { part = part; class = other }) ++ none ∷ []) k)) (sym e) (rw (split_at-new_class splits class part other b) one)
  | inr o ↦ elim (cases_lt c (length splits)) [
    | inl below ↦ rw (split_at-new_old splits class part other c below o) (old c below o)
    | inr past ↦
        let e : length splits ≡ c = omega (arith, l, past, length-new splits class part other) in
        rw (split_at-new_last splits class part other c e) (subst (λ k. P k none) e last)
  ]
]

-- the classes after a use more of the resource at a place
AreSplit-made : (part n class other at : ℕ) (classes : List ℕ) (old new : List Split) → at < n → class ≡ slice_index classes at → IsSplitOff class part other old new →
    AreSplit part n classes old → AreSplit part n (set classes at other) new
AreSplit-made part n class other at classes old new l e (inl m) h = rw m.2 (record {
  some = h.some;
  count = length-set classes at other ∙ h.count;
  there = λ r b. elim (cases_eq r at) [
    | inl same ↦ rw (same, get_or-set_same classes at other 0 (rw h.count l), m.1) (h.to class (rw e (h.there at l)) m.0)
    | inr o ↦ rw (get_or-set_other classes at r other 0 o) (h.there r b)
  ];
  past = h.past;
  to = h.to;
})
AreSplit-made part n class other at classes old new l e (inr m) h = rw m.2 (record {
  some = h.some;
  count = length-set classes at other ∙ h.count;
  there = λ r b. rw (length-new old class part other) (elim (cases_eq r at) [
    | inl same ↦ rw (same, get_or-set_same classes at other 0 (rw h.count l)) (omega (arith, m.1))
    | inr o ↦ rw (get_or-set_other classes at r other 0 o) (omega (arith, h.there r b))
  ]);
  past = new-each (λ c s. s.part ≤ part) old class part other there (omega arith) (omega arith) (λ c b o. h.past c b);
  to = new-each (λ c s. s.part ≡ part → s.class < length (set old class (record { part = part; class = other }) ++ none ∷ [])) old class part other there
      (λ s. omega (arith, m.1, length-new old class part other)) (λ s. absurd (omega (arith, s, h.some)))
      (λ c b o s. omega (arith, h.to c b s, length-new old class part other));
})
  where
    there : class < length old
    there = rw e (h.there at l)

made-new : (k v : ℕ) (g : ℕ → ℕ) → (if nat_eq k k then v else g k) ≡ v
made-new k v g = grind (arith, common_steps)

made-old : (x k v : ℕ) (g : ℕ → ℕ) → x < k → (if nat_eq x k then v else g x) ≡ g x
made-old x k v g l = grind (arith, common_steps)

-- what all resources of a class share after a use more of the resource at a place
IsBySplit-made : (part more n class other at : ℕ) (classes : List ℕ) (old new : List Split) (f g : ℕ → ℕ) → at < n → class ≡ slice_index classes at →
    IsSplitOff class part other old new → AreSplit part n classes old → g at ≡ f at + more → ((r : ℕ) → (r ≡ at → ⊥) → g r ≡ f r) →
    IsBySplit part more n classes old f → IsBySplit part more n (set classes at other) new g
IsBySplit-made part more n class other at classes old new f g l e (inl m) h here rest b = rw m.2 (record {
  by_class = b.by_class;
  each = λ r k. elim (cases_eq r at) [
    | inl same ↦ rw (same, get_or-set_same classes at other 0 (rw h.count l), m.1) (omega (arith, here, own, b.made class there m.0))
    | inr o ↦ rw (get_or-set_other classes at r other 0 o) (rest r o ∙ b.each r k)
  ];
  made = b.made;
})
  where
    there : class < length old
    there = rw e (h.there at l)

    own : f at ≡ b.by_class class
    own = rw e (b.each at l)
IsBySplit-made part more n class other at classes old new f g l e (inr m) h here rest b = rw m.2 (record {
  by_class = by_class;
  each = λ r k. elim (cases_eq r at) [
    | inl same ↦ rw (same, get_or-set_same classes at other 0 (rw h.count l)) (here ∙ omega (arith, own, last))
    | inr o ↦ rw (get_or-set_other classes at r other 0 o) (rest r o ∙ b.each r k ∙ sym (kept (slice_index classes r) (h.there r k)))
  ];
  made = new-each (λ c s. s.part ≡ part → by_class s.class ≡ by_class c + more) old class part other there (λ s. omega (arith, last, kept class there))
      (λ s. absurd (omega (arith, s, h.some)))
      (λ c k o s. rw (kept (split_at old c).class (h.to c k s), kept c k) (b.made c k s));
})
  where
    there : class < length old
    there = rw e (h.there at l)

    own : f at ≡ b.by_class class
    own = rw e (b.each at l)

    by_class : ℕ → ℕ
    by_class x = if nat_eq x (length old) then b.by_class class + more else b.by_class x

    last : by_class other ≡ b.by_class class + more
    last = rw m.1 (made-new (length old) (b.by_class class + more) b.by_class)

    kept : (x : ℕ) → x < length old → by_class x ≡ b.by_class x
    kept x k = made-old x (length old) (b.by_class class + more) b.by_class k

-- a run that begins
pub AreSplitBy-run_start : (part n start : ℕ) (classes : List ℕ) (splits : List Split) → AreSplit part n classes splits →
    AreSplitBy part n classes splits classes splits (λ r. run_uses start start r)
AreSplitBy-run_start part n start classes splits s = AreSplitBy-start part n classes splits (λ r. run_uses start start r) s (λ r. run_uses-none start r)

-- a run with a use more
pub AreSplitBy-run : (part n start class other at : ℕ) (classes : List ℕ) (splits : List Split) (classes' : List ℕ) (old new : List Split) → start ≤ at → at < n →
    class ≡ slice_index classes' at → IsSplitOff class part other old new → AreSplitBy part n classes splits classes' old (λ r. run_uses start at r) →
    AreSplitBy part n classes splits (set classes' at other) new (λ r. run_uses start (at + 1) r)
AreSplitBy-run part n start class other at classes splits classes' old new from l e m h = record {
  split = AreSplit-made part n class other at classes' old new l e m h.split;
  more = omega (arith, h.more, grown m);
  shared = λ more f b. IsBySplit-made part more n class other at classes' old new (λ r. f r + more * run_uses start at r) (λ r. f r + more * run_uses start (at + 1) r) l e m h.split
      (rw (run_uses-last start at from, run_uses-past start at) (omega arith))
      (λ r o. rw (run_uses-other start at r o) refl)
      (h.shared more f b);
}
  where
    grown : IsSplitOff class part other old new → length old ≤ length new
    grown (inl a) = rw a.2 (omega arith)
    grown (inr a) = rw a.2 (omega (arith, length-new old class part other))

-- classes that a part is to split
pub AreSplit-classes : (next n : ℕ) (classes : List ℕ) (splits : List Split) → 0 < next → AreClasses next n classes splits → AreSplit next n classes splits
AreSplit-classes next n classes splits some h = record {
  some = some;
  count = h.count;
  there = h.there;
  past = λ c l. omega (arith, h.past c l);
  to = λ c l e. absurd (omega (arith, h.past c l, e));
}

-- classes that a part has split
pub AreClasses-split : (part n : ℕ) (classes : List ℕ) (splits : List Split) → AreSplit part n classes splits → AreClasses (part + 1) n classes splits
AreClasses-split part n classes splits h = record { count = h.count; there = h.there; past = λ c l. omega (arith, h.past c l) }

pub AreClasses-later : (next after n : ℕ) (classes : List ℕ) (splits : List Split) → next ≤ after → AreClasses next n classes splits → AreClasses after n classes splits
AreClasses-later next after n classes splits later h = record { count = h.count; there = h.there; past = λ c l. omega (arith, h.past c l, later) }

IsBySplit-class : (next more n : ℕ) (classes : List ℕ) (splits : List Split) (f : ℕ → ℕ) → AreClasses next n classes splits → IsByClass n classes f →
    IsBySplit next more n classes splits f
IsBySplit-class next more n classes splits f h b = record { by_class = b.by_class; each = b.each; made = λ c l e. absurd (omega (arith, h.past c l, e)) }

-- what all resources of a class shared before a part split them, they share still
pub IsByClass-kept : (next n : ℕ) (classes : List ℕ) (splits : List Split) (classes' : List ℕ) (splits' : List Split) (uses f : ℕ → ℕ) → AreClasses next n classes splits →
    AreSplitBy next n classes splits classes' splits' uses → IsByClass n classes f → IsByClass n classes' f
IsByClass-kept next n classes splits classes' splits' uses f h s b =
    let k = s.shared 0 f (IsBySplit-class next 0 n classes splits f h b) in
    record { by_class = k.by_class; each = λ r l. omega (arith, k.each r l) }

-- all resources of a class share the uses of a part that has split them
pub IsByClass-used : (next n : ℕ) (classes : List ℕ) (splits : List Split) (classes' : List ℕ) (splits' : List Split) (uses : ℕ → ℕ) → AreClasses next n classes splits →
    AreSplitBy next n classes splits classes' splits' uses → IsByClass n classes' uses
IsByClass-used next n classes splits classes' splits' uses h s =
    let k = s.shared 1 (λ _. 0) (IsBySplit-class next 1 n classes splits (λ _. 0) h (record { by_class = λ _. 0; each = λ r l. refl })) in
    record { by_class = k.by_class; each = λ r l. omega (arith, k.each r l) }

-- the first places with a number up to a place, where those are known that are the first with a number
pub record AreKnown (numbers : List ℕ) (at : ℕ) (known firsts : List ℕ) : Type 0 where
  pub count : length firsts ≡ at
  pub first : (r : ℕ) → r < at → slice_index firsts r ≤ r
  pub same : (r : ℕ) → r < at → slice_index numbers (slice_index firsts r) ≡ slice_index numbers r
  pub one : (r : ℕ) → r < at → slice_index firsts (slice_index firsts r) ≡ slice_index firsts r
  pub past : (c : ℕ) → c < length known → slice_index known c < max at 1
  pub fixed : (c : ℕ) → c < length known → slice_index known c < at → slice_index firsts (slice_index known c) ≡ slice_index known c

pub AreKnown-start : (numbers known : List ℕ) → ((c : ℕ) → c < length known → slice_index known c ≡ 0) → AreKnown numbers 0 known []
AreKnown-start numbers known zeros = record {
  count = refl;
  first = λ r l. absurd (omega (arith, l));
  same = λ r l. absurd (omega (arith, l));
  one = λ r l. absurd (omega (arith, l));
  past = λ c l. omega (arith, zeros c l);
  fixed = λ c l b. absurd (omega (arith, b));
}

pub AreKnown-more : (numbers : List ℕ) (at first : ℕ) (known known' firsts : List ℕ) → slice_index numbers at < length known → IsFirstWith numbers at known known' first →
    AreKnown numbers at known firsts → AreKnown numbers (at + 1) known' (firsts ++ first ∷ [])
AreKnown-more numbers at first known known' firsts there w h = record {
  count = omega (arith, length-append firsts (first ∷ []), h.count);
  first = λ r l. elim (cases_lt r at) [
    | inl below ↦ rw (old r below) (h.first r below)
    | inr last ↦ let e : at ≡ r = omega arith in rw (← e, new) low
  ];
  same = λ r l. elim (cases_lt r at) [
    | inl below ↦ rw (old r below) (h.same r below)
    | inr last ↦ let e : at ≡ r = omega arith in rw (← e, new) (same w)
  ];
  one = λ r l. elim (cases_lt r at) [
    | inl below ↦ rw (old r below, old (slice_index firsts r) (omega (arith, h.first r below, below))) (h.one r below)
    | inr last ↦ let e : at ≡ r = omega arith in rw (← e, new) one
  ];
  past = past w;
  fixed = fixed w;
}
  where
    new : slice_index (firsts ++ first ∷ []) at ≡ first
    new = get_or_push firsts first 0 at h.count

    old : (r : ℕ) → r < at → slice_index (firsts ++ first ∷ []) r ≡ slice_index firsts r
    old r l = get_or_append_left firsts (first ∷ []) 0 r (rw h.count l)

    lows : IsFirstWith numbers at known known' first → first ≤ at
    lows (inl a) = omega (arith, a.0)
    lows (inr a) = omega (arith, a.0)

    low : first ≤ at
    low = lows w

    same : IsFirstWith numbers at known known' first → slice_index numbers first ≡ slice_index numbers at
    same (inl a) = a.1
    same (inr a) = rw a.0 refl

    ones : IsFirstWith numbers at known known' first → slice_index (firsts ++ first ∷ []) first ≡ first
    ones (inl a) = old first a.0 ∙ rw a.2 (h.fixed (slice_index numbers at) there (rw (← a.2) a.0))
    ones (inr a) = get_or_push firsts first 0 first (h.count ∙ sym a.0)

    one : slice_index (firsts ++ first ∷ []) first ≡ first
    one = ones w

    past : IsFirstWith numbers at known known' first → (c : ℕ) → c < length known' → slice_index known' c < max (at + 1) 1
    past (inl a) c l = let k : c < length known = rw a.3 at l in rw a.3 (omega (arith, h.past c k))
    past (inr a) c l =
        let k : c < length known = omega (arith, rw a.1 at l, length-set known (slice_index numbers at) at) in
        rw a.1 (elim (cases_eq c (slice_index numbers at)) [
          | inl e ↦ rw (e, get_or-set_same known (slice_index numbers at) at 0 there) (omega arith)
          | inr o ↦ rw (get_or-set_other known (slice_index numbers at) c at 0 o) (omega (arith, h.past c k))
        ])

    fixed : IsFirstWith numbers at known known' first → (c : ℕ) → c < length known' → slice_index known' c < at + 1 →
        slice_index (firsts ++ first ∷ []) (slice_index known' c) ≡ slice_index known' c
    fixed (inl a) c l b =
        let k : c < length known = rw a.3 at l in
        rw a.3 (elim (cases_lt (slice_index known c) at) [
          | inl below ↦ old (slice_index known c) below ∙ h.fixed c k below
          | inr from ↦ absurd (omega (arith, h.past c k, a.0, from))
        ])
    fixed (inr a) c l b =
        let k : c < length known = omega (arith, rw a.1 at l, length-set known (slice_index numbers at) at) in
        rw a.1 (elim (cases_eq c (slice_index numbers at)) [
          | inl e ↦ rw (e, get_or-set_same known (slice_index numbers at) at 0 there) (new ∙ a.0)
          | inr o ↦ rw (get_or-set_other known (slice_index numbers at) c at 0 o) (elim (cases_lt (slice_index known c) at) [
            | inl below ↦ old (slice_index known c) below ∙ h.fixed c k below
            | inr from ↦ let e : slice_index known c ≡ at = omega (arith, h.past c k, from) in rw (e, new) a.0
          ])
        ])

-- what the resources of a class share, their first ones share
pub IsByClass-firsts : (classes firsts : List ℕ) (n : ℕ) (f : ℕ → ℕ) → length classes ≡ n → AreFirstsIn classes firsts → IsByClass n classes f → IsByClass n firsts f
IsByClass-firsts classes firsts n f e a b = record { by_class = λ c. b.by_class (slice_index classes c); each = λ r l. b.each r l ∙ ap b.by_class (sym (a.same r (rw e l))) }

-- the first resource of a class has what the resources share
pub IsByClass-first : (classes firsts : List ℕ) (n : ℕ) (f : ℕ → ℕ) → length classes ≡ n → AreFirstsIn classes firsts → IsByClass n classes f → (r : ℕ) → r < n →
    f (slice_index firsts r) ≡ f r
IsByClass-first classes firsts n f e a b r l =
    b.each (slice_index firsts r) (omega (arith, a.low r (rw e l), l)) ∙ ap b.by_class (a.same r (rw e l)) ∙ sym (b.each r l)
