-- How many bytes a certificate has.
use Rattle.std.proofs.Common.{◌≡◌, ℕ, suc, ◌+◌, ◌*◌, ◌^◌, ◌<◌, ◌≤◌, Bool, true, false, cond, List, [], ◌∷◌, ◌++◌, length, Option, Some, None, ap, ◌∙◌, arith, codes, length-append, ℤ, pos, negsuc, inl, inr}
use Rattle.std.specs.Prelude.{IfSome, sum_by}
use Rattle.std.specs.List.{AllByRecursion}
use Rattle.std.specs.Fmt.{decimal, signed_decimal}
use Rattle.std.proofs.lemmas.Bool.{cases_Bool}
use Rattle.std.proofs.lemmas.Fmt.{length-decimal-le, length_signed_le}
use Rattle.std.proofs.lemmas.Grind.{flat_map-append}
use Rattle.std.proofs.lemmas.List.Concat.{flat_map-cons}
use Rattle.std.proofs.lemmas.List.Sums.{sum_by-cons}
use Rattle.choice_problem.specs.declared.vectors.Price.{Price}
use Rattle.choice_problem.specs.declared.nodes.Node.{Node}
use Rattle.choice_problem.specs.declared.nodes.Node.TheVariants.{Split, Leaf, Over, Undone}
use Rattle.choice_problem.specs.Trees.{node_count}
use Rattle.cost_fixing.specs.declared.fixings.Fixing.{Fixing}
use Rattle.cert_format.specs.declared.cert.Floor.{Floor}
use Rattle.cert_format.specs.declared.cert.Mark.{Mark}
use Rattle.cert_format.specs.declared.cert.Mark.TheVariants.{Optimal, Infeasible, Unsettled, NotTried}
use Rattle.cert_format.specs.declared.cert.StageCert.{StageCert}
use Rattle.cert_format.specs.declared.cert.Certificate.{Certificate}
use Rattle.cert_format.specs.declared.cert.TheConstants.{MOST_SEASON_BYTES}
use Rattle.cert_format.specs.Lines.{Word, spelled_line, text_of}
use Rattle.cert_format.specs.Spelling.{numbered, count_words, alternative_lines, alternative_words, price_lines, price_words, vector_lines, seen_word, node_words, is_undone, node_lines, fixing_words, fixing_lines, optional_lines, choices_words, choice_lines, stage_words, is_tried, proof_lines, stage_lines, spelling}
use Rattle.cert_format.specs.Spelling.{SeenFits, NodeFits, FixingFits, IsLong, PriceFits, VectorFits, ProofFits, StageFitsAs, StageFits, IsCert}
use Rattle.cert_format.specs.Printable.{IsShortFloor, IsWithinLimits}
use Rattle.cert_format.proofs.RangeLemmas.{Line}

-- ---- lines

size-cons : (line : Line) (lines : List Line) → length (text_of (line ∷ lines)) ≡ length (spelled_line line) + length (text_of lines)
size-cons line lines = ap (λ (l : List ℕ). length l) (flat_map-cons spelled_line line lines) ∙ length-append (spelled_line line) (text_of lines)

size-append : (one two : List Line) → length (text_of (one ++ two)) ≡ length (text_of one) + length (text_of two)
size-append one two = ap (λ (l : List ℕ). length l) (flat_map-append spelled_line one two) ∙ length-append (text_of one) (text_of two)

one-word : (w : Word) → length (spelled_line (w ∷ [])) ≡ length w + 1
unfolding spelled_line
one-word w = length-append w (10 ∷ [])

words : (w v : Word) (ws : Line) → length (spelled_line (w ∷ v ∷ ws)) ≡ length w + 1 + length (spelled_line (v ∷ ws))
unfolding spelled_line
words w v ws = omega (arith, length-append w (32 ∷ spelled_line (v ∷ ws)))

two-words : (w v : Word) → length (spelled_line (w ∷ v ∷ [])) ≡ length w + length v + 2
two-words w v = omega (arith, words w v [], one-word v)

three-words : (w v u : Word) → length (spelled_line (w ∷ v ∷ u ∷ [])) ≡ length w + length v + length u + 3
three-words w v u = omega (arith, words w v (u ∷ []), two-words v u)

four-words : (w v u t : Word) → length (spelled_line (w ∷ v ∷ u ∷ t ∷ [])) ≡ length w + length v + length u + length t + 4
four-words w v u t = omega (arith, words w v (u ∷ t ∷ []), three-words v u t)

-- ---- numbers

digits-10 : (n : ℕ) → n < 2 ^ 32 → length (decimal n) ≤ 10
digits-10 n lt = length-decimal-le 10 n (omega arith) (omega (arith, lt)) (omega (arith, lt))

digits-20 : (n : ℕ) → n < 2 ^ 64 → length (decimal n) ≤ 20
digits-20 n lt = length-decimal-le 20 n (omega arith) (omega (arith, lt)) lt

digits-2 : (n : ℕ) → n ≤ 64 → length (decimal n) ≤ 2
digits-2 n le = length-decimal-le 2 n (omega arith) (omega (arith, le)) (omega (arith, le))

digits-4 : (n : ℕ) → n ≤ 1024 → length (decimal n) ≤ 4
digits-4 n le = length-decimal-le 4 n (omega arith) (omega (arith, le)) (omega (arith, le))

signed-20 : (z : ℤ) → IsLong z → length (signed_decimal z) ≤ 20
signed-20 (pos n) lt = length_signed_le 19 (pos n) (omega (arith, lt)) (omega (arith, lt))
signed-20 (negsuc n) lt = omega (arith, length-decimal-le 19 (suc n) (omega arith) (omega (arith, lt)) (omega (arith, lt)))

seen-20 : (seen : Option ℕ) → SeenFits seen → length (seen_word seen) ≤ 20
seen-20 None fits = omega arith
seen-20 (Some n) fits = digits-20 n fits

-- ---- lines of a stage

counted : (tag : Word) (n : ℕ) → n < 2 ^ 32 → length (spelled_line (count_words tag n)) ≤ length tag + 12
counted tag n lt = omega (arith, two-words tag (decimal n), digits-10 n lt)

alternatives : (alts : List ℕ) (unit : ℕ) → unit + length alts ≤ 2 ^ 32 → AllByRecursion (λ alt. alt < 2 ^ 32) alts → length (text_of (numbered alternative_lines unit alts)) ≤ 24 * length alts
alternatives [] unit few fits = omega arith
alternatives (alt ∷ alts) unit few fits =
    omega (
      arith,
      size-cons (alternative_words unit alt) (numbered alternative_lines (suc unit) alts),
      three-words (codes "C") (decimal unit) (decimal alt),
      digits-10 unit (omega (arith, few)),
      digits-10 alt fits.0,
      alternatives alts (suc unit) (omega (arith, few)) fits.1,
    )

choice-bytes : (choice : Option (List ℕ)) → IfSome choice (λ alts. length alts ≤ 4096) → IfSome choice (λ alts. (length alts < 2 ^ 32) × AllByRecursion (λ alt. alt < 2 ^ 32) alts) →
    length (text_of (choice_lines choice)) ≤ 98323
choice-bytes None few fits = omega (arith, size-cons (choices_words None) [], two-words (codes "CHOICES") (codes "NONE"))
choice-bytes (Some alts) few fits =
    omega (arith, few, size-cons (choices_words (Some (length alts))) (numbered alternative_lines 0 alts), counted (codes "CHOICES") (length alts) fits.0, alternatives alts 0 (omega (arith, few)) fits.1)

optional-bytes : (tag : Word) (number : Option ℕ) → SeenFits number → length (text_of (optional_lines tag number)) ≤ length tag + 22
optional-bytes tag None fits = omega arith
optional-bytes tag (Some n) fits = omega (arith, size-cons (count_words tag n) [], two-words tag (decimal n), digits-20 n fits)

fixing-bytes : (fixing : Option Fixing) → IfSome fixing FixingFits → length (text_of (fixing_lines fixing)) ≤ 57
fixing-bytes None fits = omega arith
fixing-bytes (Some f) fits =
    omega (
      arith,
      size-cons (fixing_words f) [],
      four-words (codes "FIX") (decimal f.vector) (decimal f.scale) (decimal f.cost),
      digits-10 f.vector fits.0,
      digits-20 f.scale fits.1,
      digits-20 f.cost fits.2,
    )

prices-bytes : (prices : List Price) (i : ℕ) → AllByRecursion PriceFits prices → length (text_of (numbered price_lines i prices)) ≤ 34 * length prices
prices-bytes [] i fits = omega arith
prices-bytes (e ∷ prices) i fits =
    omega (
      arith,
      size-cons (price_words e) (numbered price_lines (suc i) prices),
      three-words (codes "P") (decimal e.resource) (signed_decimal e.price),
      digits-10 e.resource fits.0.0,
      signed-20 e.price fits.0.1,
      prices-bytes prices (suc i) fits.1,
    )

vector-bytes : (i : ℕ) (prices : List Price) → VectorFits prices → length (text_of (vector_lines i prices)) ≤ 18 + 34 * length prices
vector-bytes i prices fits =
    omega (arith, size-cons (count_words (codes "VECTOR") (length prices)) (numbered price_lines 0 prices), counted (codes "VECTOR") (length prices) fits.0, prices-bytes prices 0 fits.1)

vectors-bytes : (vectors : List (List Price)) (i : ℕ) → AllByRecursion VectorFits vectors →
    length (text_of (numbered vector_lines i vectors)) ≤ 18 * length vectors + 34 * sum_by (λ (prices : List Price). length prices) vectors
vectors-bytes [] i fits = omega arith
vectors-bytes (v ∷ vectors) i fits =
    omega (arith, size-append (vector_lines i v) (numbered vector_lines (suc i) vectors), vector-bytes i v fits.0, vectors-bytes vectors (suc i) fits.1, sum_by-cons (λ (prices : List Price). length prices) v vectors)

-- ---- nodes: 55 bytes where a node is counted, and 10 where it is undone

-- how many bytes a node has at most
abbrev most-of : Node → ℕ
most-of (Split unit cut seen) = 55
most-of (Leaf vector scale seen) = 55
most-of (Over resource) = 55
most-of Undone = 10

node-bytes : (node : Node) → NodeFits node → length (spelled_line (node_words node None)) ≤ most-of node
node-bytes (Split unit cut seen) fits =
    omega (arith, four-words (codes "S") (decimal unit) (decimal cut) (seen_word seen), digits-10 unit fits.0, digits-10 cut fits.1, seen-20 seen fits.2)
node-bytes (Leaf vector scale seen) fits =
    omega (arith, four-words (codes "L") (decimal vector) (decimal scale) (seen_word seen), digits-10 vector fits.0, digits-20 scale fits.1, seen-20 seen fits.2)
node-bytes (Over resource) fits = omega (arith, two-words (codes "O") (decimal resource), digits-10 resource fits)
node-bytes Undone fits = omega (arith, one-word (codes "U"))

floored-bytes : (node : Node) (floor : Floor) → is_undone node ≡ true → IsShortFloor floor → length (spelled_line (node_words node (Some floor))) ≤ most-of node
floored-bytes (Split unit cut seen) floor undone short = (let no : false ≡ true = undone in cc)
floored-bytes (Leaf vector scale seen) floor undone short = (let no : false ≡ true = undone in cc)
floored-bytes (Over resource) floor undone short = (let no : false ≡ true = undone in cc)
floored-bytes Undone floor undone short =
    omega (arith, three-words (codes "U") (decimal floor.vector) (decimal floor.scale), digits-2 floor.vector short.vector, digits-4 floor.scale short.scale)

-- a line in front of those of the nodes behind
node-front : (node : Node) (line : Line) (nodes : List Node) (lines : List Line) → length (spelled_line line) ≤ most-of node →
    length (text_of lines) ≤ 10 * length nodes + 45 * node_count nodes → length (text_of (line ∷ lines)) ≤ 10 * length (node ∷ nodes) + 45 * node_count (node ∷ nodes)
node-front (Split unit cut seen) line nodes lines here rest = omega (arith, size-cons line lines, here, rest)
node-front (Leaf vector scale seen) line nodes lines here rest = omega (arith, size-cons line lines, here, rest)
node-front (Over resource) line nodes lines here rest = omega (arith, size-cons line lines, here, rest)
node-front Undone line nodes lines here rest = omega (arith, size-cons line lines, here, rest)

nodes-bytes : (nodes : List Node) (floors : List Floor) → AllByRecursion NodeFits nodes → AllByRecursion IsShortFloor floors →
    length (text_of (node_lines nodes floors)) ≤ 10 * length nodes + 45 * node_count nodes
nodes-bytes [] floors fits short = omega arith
nodes-bytes (node ∷ nodes) [] fits short =
    node-front node (node_words node None) nodes (node_lines nodes []) (node-bytes node fits.0) (nodes-bytes nodes [] fits.1 short)
nodes-bytes (node ∷ nodes) (floor ∷ floors) fits short =
    elim (cases_Bool (is_undone node)) [
      | inl undone ↦ rw undone (node-front node (node_words node (Some floor)) nodes (node_lines nodes floors) (floored-bytes node floor undone short.0) (nodes-bytes nodes floors fits.1 short.1))
      | inr other ↦ rw other (node-front node (node_words node None) nodes (node_lines nodes (floor ∷ floors)) (node-bytes node fits.0) (nodes-bytes nodes (floor ∷ floors) fits.1 short))
    ]

-- ---- a stage

mark-bytes : (stage : ℕ) (mark : Mark) → stage < 2 ^ 32 → length (spelled_line (stage_words stage mark)) ≤ 28
mark-bytes stage Optimal lt = omega (arith, three-words (codes "STAGE") (decimal stage) (codes "OPTIMAL"), digits-10 stage lt)
mark-bytes stage Infeasible lt = omega (arith, three-words (codes "STAGE") (decimal stage) (codes "INFEASIBLE"), digits-10 stage lt)
mark-bytes stage Unsettled lt = omega (arith, three-words (codes "STAGE") (decimal stage) (codes "OPEN"), digits-10 stage lt)
mark-bytes stage NotTried lt = omega (arith, four-words (codes "STAGE") (decimal stage) (codes "NOT") (codes "TRIED"), digits-10 stage lt)

proof-bytes : (version : ℕ) (s : StageCert) → ProofFits version s → IsWithinLimits s → length (text_of (proof_lines s)) ≤ 133099630
proof-bytes version s fits w =
    let nodes : List Line = node_lines s.tree s.floors in
    let counted_nodes : List Line = count_words (codes "TREE") (length s.tree) ∷ nodes in
    let trees : List Line = fixing_lines s.fixing ++ counted_nodes in
    let listed : List Line = numbered vector_lines 0 s.vectors ++ trees in
    let tail : List Line = count_words (codes "VECTORS") (length s.vectors) ∷ listed in
    let bounds : List Line = optional_lines (codes "BOUND") s.bound ++ tail in
    let costs : List Line = optional_lines (codes "COST") s.cost ++ bounds in
    let a = size-append (choice_lines s.choice) costs in
    let b = size-append (optional_lines (codes "COST") s.cost) bounds in
    let d = size-append (optional_lines (codes "BOUND") s.bound) tail in
    let e = size-cons (count_words (codes "VECTORS") (length s.vectors)) listed in
    let f = size-append (numbered vector_lines 0 s.vectors) trees in
    let g = size-cons (count_words (codes "TREE") (length s.tree)) nodes in
    let h = size-append (fixing_lines s.fixing) counted_nodes in
    let fixing = fixing-bytes s.fixing fits.fixing in
    let choices = choice-bytes s.choice w.units fits.choice in
    let cost = optional-bytes (codes "COST") s.cost fits.cost in
    let bound = optional-bytes (codes "BOUND") s.bound fits.bound in
    let many = counted (codes "VECTORS") (length s.vectors) (omega (arith, w.vectors)) in
    let vectors = vectors-bytes s.vectors 0 fits.vectors in
    let tree = counted (codes "TREE") (length s.tree) fits.node_count in
    let all = nodes-bytes s.tree s.floors fits.nodes w.floors in
    omega (arith, a, b, d, e, f, g, h, fixing, choices, cost, bound, many, vectors, tree, all, w.vectors, w.prices, w.nodes, w.budget)

tried-bytes : (version : ℕ) (s : StageCert) (tried : Bool) → StageFitsAs version s tried → IsWithinLimits s → length (text_of (cond tried (proof_lines s) [])) ≤ 133099630
tried-bytes version s true fits w = proof-bytes version s fits w
tried-bytes version s false fits w = omega arith

stage-bytes : (version stage : ℕ) (s : StageCert) → stage < 2 ^ 32 → StageFits version s → IsWithinLimits s → length (text_of (stage_lines stage s)) ≤ 133099658
stage-bytes version stage s lt fits w =
    omega (arith, size-cons (stage_words stage s.mark) (cond (is_tried s.mark) (proof_lines s) []), mark-bytes stage s.mark lt, tried-bytes version s (is_tried s.mark) fits w)

stages-bytes : (version : ℕ) (stages : List StageCert) (stage : ℕ) → stage + length stages ≤ 2 ^ 32 → AllByRecursion (StageFits version) stages → AllByRecursion IsWithinLimits stages →
    length (text_of (numbered stage_lines stage stages)) ≤ 133099658 * length stages
stages-bytes version [] stage few fits w = omega arith
stages-bytes version (s ∷ stages) stage few fits w =
    omega (arith, size-append (stage_lines stage s) (numbered stage_lines (suc stage) stages), stage-bytes version stage s (omega (arith, few)) fits.0 w.0, stages-bytes version stages (suc stage) (omega (arith, few)) fits.1 w.1)

-- ---- a certificate

pub cert-bytes : (c : Certificate) → IsCert c → AllByRecursion IsWithinLimits c.stages → length (spelling c) ≤ MOST_SEASON_BYTES
cert-bytes c is w =
    let end : List Line = (codes "END" ∷ []) ∷ [] in
    let stages : List Line = numbered stage_lines 1 c.stages ++ end in
    let a = size-cons (count_words (codes "CERT") c.version) stages in
    let b = size-append (numbered stage_lines 1 c.stages) end in
    let d = size-cons (codes "END" ∷ []) [] in
    let version = counted (codes "CERT") c.version (omega (arith, is.version.1)) in
    let all = stages-bytes c.version c.stages 1 (omega (arith, is.count)) is.stages w in
    let last = one-word (codes "END") in
    omega (arith, a, b, d, version, all, last, is.count)
