-- How many nodes a tree can have.
use Rattle.std.proofs.Common.{◌≡◌, ℕ, zero, suc, ◌+◌, ◌-◌, ◌*◌, ◌<◌, ◌≤◌, List, [], ◌∷◌, length, map, refl, ◌∙◌, ap, arith}
use Rattle.std.specs.Prelude.{slice_index_or}
use Rattle.choice_problem.specs.declared.nodes.Node.{Node}
use Rattle.choice_problem.specs.declared.nodes.Node.TheVariants.{Split, Leaf, Over, Undone}
use Rattle.choice_problem.specs.Problems.{ProblemView, ChooserView}
use Rattle.choice_problem.specs.Bounds.{AreRanges, whole_of}
use Rattle.choice_problem.specs.Trees.{CanSplit, IsWhole, node_count, low_part, high_part}
use Rattle.choice_problem.specs.Walks.{AreWalkable}
use Rattle.search_workers.specs.Outcomes.{choice_count, product_of}

-- how many choices there are within ranges
abbrev pub ways : List (ℕ × ℕ) → ℕ
ways [] = 1
ways (span ∷ spans) = (span.1 + 1 - span.0) * ways spans

-- at a cut both parts have some, together all
pub record AreParted (ranges : List (ℕ × ℕ)) (unit cut : ℕ) : Type 0 where
  pub all : ways (low_part ranges unit cut) + ways (high_part ranges unit cut) ≡ ways ranges
  pub low : 1 ≤ ways ranges → 1 ≤ ways (low_part ranges unit cut)
  pub high : 1 ≤ ways ranges → 1 ≤ ways (high_part ranges unit cut)

some_product : (a b : ℕ) → 1 ≤ a → 1 ≤ b → 1 ≤ a * b
some_product zero b h k = absurd (omega arith)
some_product (suc a) zero h k = absurd (omega arith)
some_product (suc a) (suc b) h k = grind arith

product_some : (a b : ℕ) → 1 ≤ a * b → (1 ≤ a) × (1 ≤ b)
product_some zero b h = absurd (omega arith)
product_some (suc a) zero h = absurd (grind arith)
product_some (suc a) (suc b) h = (omega arith, omega arith)

pub parted : (ranges : List (ℕ × ℕ)) (unit cut : ℕ) → CanSplit ranges unit cut → AreParted ranges unit cut
parted [] unit cut h = absurd (let l = h.there in omega arith)
parted (span ∷ spans) zero cut h =
    let w : ℕ = ways spans in
    let below : span.0 < cut = h.above in
    let within : cut ≤ span.1 = h.within in
    let a : ℕ = cut - 1 + 1 - span.0 in
    let b : ℕ = span.1 + 1 - cut in
    let e : a + b ≡ span.1 + 1 - span.0 = omega arith in
    let sum : a * w + b * w ≡ (a + b) * w = grind arith in
    record {
      all = sum ∙ ap (λ n. n * w) e;
      low = λ k. some_product a w (omega arith) (product_some (span.1 + 1 - span.0) w k).1;
      high = λ k. some_product b w (omega arith) (product_some (span.1 + 1 - span.0) w k).1;
    }
parted (span ∷ spans) (suc unit) cut h =
    let n : ℕ = span.1 + 1 - span.0 in
    let there : unit < length spans = let l = h.there in omega arith in
    let r : AreParted spans unit cut = parted spans unit cut (record { there = there; above = h.above; within = h.within }) in
    let sum : n * ways (low_part spans unit cut) + n * ways (high_part spans unit cut) ≡ n * (ways (low_part spans unit cut) + ways (high_part spans unit cut)) = grind arith in
    record {
      all = sum ∙ ap (λ m. n * m) r.all;
      low = λ k. let both = product_some n (ways spans) k in some_product n (ways (low_part spans unit cut)) both.0 (r.low both.1);
      high = λ k. let both = product_some n (ways spans) k in some_product n (ways (high_part spans unit cut)) both.0 (r.high both.1);
    }

abbrev total_ways : List (List (ℕ × ℕ)) → ℕ
total_ways [] = 0
total_ways (ranges ∷ pending) = ways ranges + total_ways pending

abbrev HaveWays : List (List (ℕ × ℕ)) → Type 0
HaveWays [] = Unit {0}
HaveWays (ranges ∷ pending) = (1 ≤ ways ranges) × HaveWays pending

-- each tree on ranges has at most twice as many nodes as there are choices within them, less one
sized : (pending : List (List (ℕ × ℕ))) (nodes : List Node) → AreWalkable pending nodes → HaveWays pending →
    length nodes + length pending ≤ 2 * total_ways pending
sized [] [] h v = omega arith
sized [] (node ∷ nodes) h v = absurd h
sized (ranges ∷ pending) [] h v = absurd h
sized (ranges ∷ pending) (Split unit cut seen ∷ nodes) h v =
    let p = parted ranges unit cut h.0 in
    let rest = sized (low_part ranges unit cut ∷ high_part ranges unit cut ∷ pending) nodes h.1 (p.low v.0, (p.high v.0, v.1)) in
    omega (arith, rest, p.all)
sized (ranges ∷ pending) (Leaf vector scale seen ∷ nodes) h v = let rest = sized pending nodes h.1 v.1 in omega (arith, rest, v.0)
sized (ranges ∷ pending) (Over resource ∷ nodes) h v = let rest = sized pending nodes h.1 v.1 in omega (arith, rest, v.0)
sized (ranges ∷ pending) (Undone ∷ nodes) h v = let rest = sized pending nodes h.1 v.1 in omega (arith, rest, v.0)

counted : (nodes : List Node) → node_count nodes ≤ length nodes
counted [] = omega arith
counted (Split unit cut seen ∷ nodes) = omega (arith, counted nodes)
counted (Leaf vector scale seen ∷ nodes) = omega (arith, counted nodes)
counted (Over resource ∷ nodes) = omega (arith, counted nodes)
counted (Undone ∷ nodes) = omega (arith, counted nodes)

undone_one : (nodes : List Node) → (IsWhole nodes → ⊥) → node_count nodes + 1 ≤ length nodes
undone_one [] h = absurd (h tt)
undone_one (Split unit cut seen ∷ nodes) h = omega (arith, undone_one nodes h)
undone_one (Leaf vector scale seen ∷ nodes) h = omega (arith, undone_one nodes h)
undone_one (Over resource ∷ nodes) h = omega (arith, undone_one nodes h)
undone_one (Undone ∷ nodes) h = omega (arith, counted nodes)

abbrev HaveAlts : List ChooserView → Type 0
HaveAlts [] = Unit {0}
HaveAlts (m ∷ ms) = (1 ≤ length m.alts) × HaveAlts ms

whole_ways : (units : List ChooserView) → HaveAlts units →
    ways (map (λ (m : ChooserView). (0, length m.alts - 1)) units) ≡ product_of (map (λ (m : ChooserView). length m.alts) units)
whole_ways [] h = refl
whole_ways (m ∷ ms) h =
    let e : length m.alts - 1 + 1 - 0 ≡ length m.alts = omega (arith, h.0) in
    let rest = whole_ways ms h.1 in
    ap (λ n. n * ways (map (λ (m : ChooserView). (0, length m.alts - 1)) ms)) e ∙ ap (λ n. length m.alts * n) rest

pub some_choices : (units : List ChooserView) → HaveAlts units → 1 ≤ product_of (map (λ (m : ChooserView). length m.alts) units)
some_choices [] h = omega arith
some_choices (m ∷ ms) h = some_product (length m.alts) (product_of (map (λ (m : ChooserView). length m.alts) ms)) h.0 (some_choices ms h.1)

have_alts : (units : List ChooserView) → ((u : ℕ) → u < length units → 1 ≤ length (slice_index_or units u (record { parts = []; alts = [] })).alts) → HaveAlts units
have_alts [] h = tt
have_alts (m ∷ ms) h = (h 0 (omega arith), have_alts ms (λ u l. h (suc u) (omega arith)))

-- each unit has alternatives
pub alts_of : (p : ProblemView) → AreRanges p (whole_of p) → HaveAlts p.units
alts_of p r = have_alts p.units (λ u l. let t = r.there u l in omega arith)

-- a tree with an undone node has visits left below this number
pub open_small : (p : ProblemView) (nodes : List Node) → HaveAlts p.units → AreWalkable (whole_of p ∷ []) nodes → (IsWhole nodes → ⊥) →
    node_count nodes + 2 ≤ 2 * choice_count p
open_small p nodes alts h open_node =
    let e = whole_ways p.units alts in
    let some = some_choices p.units alts in
    let size = sized (whole_of p ∷ []) nodes h (omega (arith, e, some), tt) in
    omega (arith, size, e, undone_one nodes open_node)
