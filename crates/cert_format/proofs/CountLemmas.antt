-- How many lines a stage and a certificate have.
use Rattle.std.proofs.Common.{◌≡◌, ℕ, suc, ◌+◌, ◌*◌, ◌≤◌, Bool, true, false, cond, List, [], ◌∷◌, ◌++◌, length, Option, Some, None, refl, ap, arith, codes, length-append}
use Rattle.std.specs.Prelude.{IfSome, sum_by}
use Rattle.std.specs.Option.{option_map_or}
use Rattle.std.specs.List.{AllByRecursion}
use Rattle.std.proofs.lemmas.List.Sums.{sum_by-cons}
use Rattle.choice_problem.specs.declared.vectors.Price.{Price}
use Rattle.cost_fixing.specs.declared.fixings.Fixing.{Fixing}
use Rattle.cert_format.specs.declared.cert.StageCert.{StageCert}
use Rattle.cert_format.specs.declared.cert.Certificate.{Certificate}
use Rattle.cert_format.specs.declared.cert.TheConstants.{MOST_LINES}
use Rattle.cert_format.specs.Lines.{Word}
use Rattle.cert_format.specs.Spelling.{numbered, count_words, alternative_lines, price_lines, vector_lines, node_lines, fixing_lines, optional_lines, choice_lines, is_tried, proof_lines, stage_lines, cert_lines, extra_lines}
use Rattle.cert_format.specs.Printable.{IsWithinLimits, proof_line_count}
use Rattle.cert_format.specs.Private.Ranges.{stage_line_count}
use Rattle.cert_format.proofs.RangeLemmas.{Line, nodes_length}

ones : {A : Type 0} (lines : ℕ → A → List Line) → ((i : ℕ) (x : A) → length (lines i x) ≡ 1) → (xs : List A) (i : ℕ) → length (numbered lines i xs) ≡ length xs
ones lines one [] i = refl
ones lines one (x ∷ xs) i = omega (arith, one i x, ones lines one xs (suc i), length-append (lines i x) (numbered lines (suc i) xs))

vectors_length : (vectors : List (List Price)) (i : ℕ) → length (numbered vector_lines i vectors) ≡ sum_by (λ (prices : List Price). 1 + length prices) vectors
vectors_length [] i = refl
vectors_length (v ∷ vectors) i =
    omega (arith, sum_by-cons (λ (prices : List Price). 1 + length prices) v vectors, ones price_lines (λ j p. refl) v 0, vectors_length vectors (suc i), length-append (vector_lines i v) (numbered vector_lines (suc i) vectors))

choice_length : (choice : Option (List ℕ)) → length (choice_lines choice) ≡ 1 + option_map_or (λ (alts : List ℕ). length alts) choice 0
choice_length None = refl
choice_length (Some alts) = omega (arith, ones alternative_lines (λ i x. refl) alts 0)

optional_length : (tag : Word) (number : Option ℕ) → length (optional_lines tag number) ≡ option_map_or (λ (n : ℕ). 1) number 0
optional_length tag None = refl
optional_length tag (Some n) = refl

fixing_length : (fixing : Option Fixing) → length (fixing_lines fixing) ≡ option_map_or (λ (f : Fixing). 1) fixing 0
fixing_length None = refl
fixing_length (Some f) = refl

-- how many lines a stage has below its mark
pub proof_length : (s : StageCert) → length (proof_lines s) ≡ proof_line_count s
proof_length s =
    let trees : List Line = count_words (codes "TREE") (length s.tree) ∷ node_lines s.tree s.floors in
    let nodes : List Line = fixing_lines s.fixing ++ trees in
    let tail : List Line = count_words (codes "VECTORS") (length s.vectors) ∷ (numbered vector_lines 0 s.vectors ++ nodes) in
    let bounds : List Line = optional_lines (codes "BOUND") s.bound ++ tail in
    let costs : List Line = optional_lines (codes "COST") s.cost ++ bounds in
    let a = length-append (choice_lines s.choice) costs in
    let b = length-append (optional_lines (codes "COST") s.cost) bounds in
    let d = length-append (optional_lines (codes "BOUND") s.bound) tail in
    let e = length-append (numbered vector_lines 0 s.vectors) nodes in
    let f = nodes_length s.tree s.floors in
    let g = vectors_length s.vectors 0 in
    let h = choice_length s.choice in
    let i = optional_length (codes "COST") s.cost in
    let j = optional_length (codes "BOUND") s.bound in
    let k = fixing_length s.fixing in
    let l = length-append (fixing_lines s.fixing) trees in
    omega (arith, a, b, d, e, f, g, h, i, j, k, l)

tried_length : (tried : Bool) (s : StageCert) → length (cond tried (proof_lines s) []) ≡ cond tried (proof_line_count s) 0
tried_length true s = proof_length s
tried_length false s = refl

stage_length : (i : ℕ) (s : StageCert) → length (stage_lines i s) ≡ stage_line_count s
stage_length i s = ap suc (tried_length (is_tried s.mark) s)

pub stages_length : (stages : List StageCert) (i : ℕ) → length (numbered stage_lines i stages) ≡ sum_by stage_line_count stages
stages_length [] i = refl
stages_length (s ∷ stages) i =
    omega (arith, sum_by-cons stage_line_count s stages, stage_length i s, stages_length stages (suc i), length-append (stage_lines i s) (numbered stage_lines (suc i) stages))

-- how many lines a certificate has
pub cert_length : (c : Certificate) → length (cert_lines c) ≡ 2 + sum_by stage_line_count c.stages
cert_length c =
    omega (arith, stages_length c.stages 1, length-append (numbered stage_lines 1 c.stages) ((codes "END" ∷ []) ∷ []))

pub extra_length : (s : StageCert) → length (extra_lines s) ≡ 3 + proof_line_count s
extra_length s = omega (arith, proof_length s, length-append (proof_lines s) ((codes "END" ∷ []) ∷ []))

-- ---- within the limits of a season

vectors_counted : (vectors : List (List Price)) → sum_by (λ (prices : List Price). 1 + length prices) vectors ≡ length vectors + sum_by (λ (prices : List Price). length prices) vectors
vectors_counted [] = refl
vectors_counted (v ∷ vectors) =
    omega (arith, sum_by-cons (λ (prices : List Price). 1 + length prices) v vectors, sum_by-cons (λ (prices : List Price). length prices) v vectors, vectors_counted vectors)

choice_most : (choice : Option (List ℕ)) → IfSome choice (λ alts. length alts ≤ 4096) → option_map_or (λ (alts : List ℕ). length alts) choice 0 ≤ 4096
choice_most None few = omega arith
choice_most (Some alts) few = few

optional_most : (number : Option ℕ) → option_map_or (λ (n : ℕ). 1) number 0 ≤ 1
optional_most None = omega arith
optional_most (Some n) = omega arith

fixing_most : (fixing : Option Fixing) → option_map_or (λ (f : Fixing). 1) fixing 0 ≤ 1
fixing_most None = omega arith
fixing_most (Some f) = omega arith

proof_most : (s : StageCert) → IsWithinLimits s → proof_line_count s ≤ 4100000
proof_most s w =
    omega (arith, choice_most s.choice w.units, optional_most s.cost, optional_most s.bound, fixing_most s.fixing, vectors_counted s.vectors, w.vectors, w.prices, w.nodes)

tried_most : (tried : Bool) (s : StageCert) → IsWithinLimits s → cond tried (proof_line_count s) 0 ≤ 4100000
tried_most true s w = proof_most s w
tried_most false s w = omega arith

stages_most : (stages : List StageCert) → AllByRecursion IsWithinLimits stages → sum_by stage_line_count stages ≤ 4100001 * length stages
stages_most [] w = omega arith
stages_most (s ∷ stages) w =
    omega (arith, sum_by-cons stage_line_count s stages, tried_most (is_tried s.mark) s w.0, stages_most stages w.1)

pub cert_most : (c : Certificate) → length c.stages ≡ 4 → AllByRecursion IsWithinLimits c.stages → length (cert_lines c) ≤ MOST_LINES
cert_most c four w = omega (arith, four, cert_length c, stages_most c.stages w)

pub extra_most : (s : StageCert) → IsWithinLimits s → length (extra_lines s) ≤ MOST_LINES
extra_most s w = omega (arith, extra_length s, proof_most s w)
