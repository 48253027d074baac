-- What is printed is in the form: the ranges of its numbers, and how many lines it has.
use Rattle.std.proofs.Common.{◌≡◌, ℕ, suc, ◌+◌, ◌^◌, ◌<◌, ◌≤◌, Bool, true, false, cond, List, [], ◌∷◌, ◌++◌, length, take, drop, get_or, Option, Some, None, refl, sym, ap, subst, ◌∙◌, arith, codes, length-append, length-drop, ℤ, pos, negsuc, SFits, w64, inl, inr}
use Rattle.std.specs.Prelude.{IfSome}
use Rattle.std.specs.List.{AllByRecursion}
use Rattle.std.proofs.lemmas.Bool.{cases_Bool}
use Rattle.std.proofs.lemmas.List.{take_more, nil_from_length}
use Rattle.choice_problem.specs.declared.vectors.Price.{Price}
use Rattle.choice_problem.specs.declared.nodes.Node.{Node}
use Rattle.cert_format.specs.declared.cert.Floor.{Floor}
use Rattle.cert_format.specs.declared.cert.StageCert.{StageCert}
use Rattle.cert_format.specs.declared.cert.Certificate.{Certificate}
use Rattle.cert_format.specs.Lines.{Word}
use Rattle.cert_format.specs.Spelling.{numbered, count_words, alternative_lines, price_lines, vector_lines, is_undone, node_lines, fixing_lines, optional_lines, choice_lines, is_tried, proof_lines, stage_lines, IsLong, PriceFits, VectorFits, FloorFits, undone_count, has_floors, ProofFits, StageFitsAs, StageFits, IsCert, IsExtra}
use Rattle.cert_format.specs.Printable.{IsPrintableProof, IsPrintableAs, IsPrintableStage, IsPrintable, IsPrintableExtra}
use Rattle.cert_format.specs.Private.Ranges.{HasRanges, RangesAs}

abbrev pub Line : Type 0
Line = List Word

pub long_of : (z : ℤ) → SFits w64 z → IsLong z
long_of (pos n) h = h.sfits
long_of (negsuc n) h = h.sfits

-- ---- loops over items

joined : {A : Type 0} (P : A → Type 0) (xs : List A) (x : A) → AllByRecursion P xs → P x → AllByRecursion P (xs ++ x ∷ [])
joined P [] x all p = (p, tt)
joined P (y ∷ xs) x all p = (all.0, joined P xs x all.1 p)

pub all_more : {A : Type 0} (P : A → Type 0) (xs : List A) (k : ℕ) (x d : A) → k < length xs → x ≡ get_or xs k d → AllByRecursion P (take k xs) → P x → AllByRecursion P (take (k + 1) xs)
all_more {A} P xs k x d lt is all p =
    let next : take (k + 1) xs ≡ take k xs ++ x ∷ [] = take_more xs k d lt ∙ ap (λ (y : A). take k xs ++ y ∷ []) (sym is) in
    subst (AllByRecursion P) (sym next) (joined P (take k xs) x all p)

no_floors : (nodes : List Node) (rest : List Floor) → nodes ≡ [] → length rest ≤ undone_count nodes → AllByRecursion FloorFits rest
no_floors nodes [] none few = tt
no_floors nodes (floor ∷ rest) none few = absurd (omega (arith, (rw none at few)))

pub none_left : (nodes : List Node) (i : ℕ) (rest : List Floor) → length nodes ≤ i → length rest ≤ undone_count (drop i nodes) → AllByRecursion FloorFits rest
none_left nodes i rest past few = no_floors (drop i nodes) rest (nil_from_length (drop i nodes) (omega (arith, past, length-drop i nodes))) few

-- ---- how many lines

numbered_length : {A : Type 0} (lines : ℕ → A → List Line) → ((i : ℕ) (x : A) → 1 ≤ length (lines i x)) → (xs : List A) (i : ℕ) → length xs ≤ length (numbered lines i xs)
numbered_length lines one [] i = omega arith
numbered_length lines one (x ∷ xs) i = omega (arith, one i x, numbered_length lines one xs (suc i), length-append (lines i x) (numbered lines (suc i) xs))

pub nodes_length : (nodes : List Node) (floors : List Floor) → length (node_lines nodes floors) ≡ length nodes
nodes_length [] floors = refl
nodes_length (node ∷ nodes) [] = ap suc (nodes_length nodes [])
nodes_length (node ∷ nodes) (floor ∷ floors) =
    elim (cases_Bool (is_undone node)) [
      | inl undone ↦ rw undone (ap suc (nodes_length nodes floors))
      | inr other ↦ rw other (ap suc (nodes_length nodes (floor ∷ floors)))
    ]

vectors_small : (vectors : List (List Price)) (i : ℕ) → length (numbered vector_lines i vectors) < 2 ^ 32 → AllByRecursion (λ (v : List Price). length v < 2 ^ 32) vectors
vectors_small [] i few = tt
vectors_small (v ∷ vectors) i few =
    let whole = length-append (vector_lines i v) (numbered vector_lines (suc i) vectors) in
    let prices = numbered_length price_lines (λ j p. omega arith) v 0 in
    (omega (arith, few, whole, prices), vectors_small vectors (suc i) (omega (arith, few, whole)))

vectors_fit : (vectors : List (List Price)) → AllByRecursion (λ (v : List Price). length v < 2 ^ 32) vectors → AllByRecursion (AllByRecursion PriceFits) vectors → AllByRecursion VectorFits vectors
vectors_fit [] few all = tt
vectors_fit (v ∷ vectors) few all = ((few.0, all.0), vectors_fit vectors few.1 all.1)

choice_fits : (choice : Option (List ℕ)) → length (choice_lines choice) < 2 ^ 32 → IfSome choice (λ alts. AllByRecursion (λ alt. alt < 2 ^ 32) alts) → IfSome choice (λ alts. (length alts < 2 ^ 32) × AllByRecursion (λ alt. alt < 2 ^ 32) alts)
choice_fits None few all = tt
choice_fits (Some alts) few all = (omega (arith, few, numbered_length alternative_lines (λ i x. omega arith) alts 0), all)

at_most : (b : Bool) (n m : ℕ) → m ≡ cond b n 0 → m ≤ n
at_most true n m e = omega (arith, e)
at_most false n m e = omega (arith, e)

-- ---- stages and certificates

proof_fits : (version : ℕ) (s : StageCert) → IsPrintableProof version s → HasRanges s → length (proof_lines s) < 2 ^ 32 → ProofFits version s
proof_fits version s p r few =
    let trees : List Line = count_words (codes "TREE") (length s.tree) ∷ node_lines s.tree s.floors in
    let nodes : List Line = fixing_lines s.fixing ++ trees in
    let tail : List Line = count_words (codes "VECTORS") (length s.vectors) ∷ (numbered vector_lines 0 s.vectors ++ nodes) in
    let bounds : List Line = optional_lines (codes "BOUND") s.bound ++ tail in
    let costs : List Line = optional_lines (codes "COST") s.cost ++ bounds in
    let a = length-append (choice_lines s.choice) costs in
    let b = length-append (optional_lines (codes "COST") s.cost) bounds in
    let d = length-append (optional_lines (codes "BOUND") s.bound) tail in
    let e = length-append (numbered vector_lines 0 s.vectors) nodes in
    let g = length-append (fixing_lines s.fixing) trees in
    let f = nodes_length s.tree s.floors in
    let choice_small : length (choice_lines s.choice) < 2 ^ 32 = omega (arith, few, a) in
    let vector_small : length (numbered vector_lines 0 s.vectors) < 2 ^ 32 = omega (arith, few, a, b, d, e) in
    let tree_small : length s.tree < 2 ^ 32 = omega (arith, few, a, b, d, e, f, g) in
    record {
      choice = choice_fits s.choice choice_small r.choice;
      has_cost = p.has_cost;
      cost = r.cost;
      has_bound = p.has_bound;
      bound = r.bound;
      vector_count = p.vector_count;
      fixed_from = p.fixed_from;
      fixing = r.fixing;
      vectors = vectors_fit s.vectors (vectors_small s.vectors 0 vector_small) r.vectors;
      node_count = tree_small;
      nodes = r.nodes;
      floor_count = p.floor_count;
      floors = r.floors (at_most (has_floors version) (undone_count s.tree) (length s.floors) p.floor_count);
    }

stage_fits : (version : ℕ) (s : StageCert) (tried : Bool) → IsPrintableAs version s tried → RangesAs s tried → length (cond tried (proof_lines s) []) < 2 ^ 32 → StageFitsAs version s tried
stage_fits version s true p r few = proof_fits version s p r few
stage_fits version s false p r few = p

stages_fit : (version : ℕ) (stages : List StageCert) (i : ℕ) → AllByRecursion (IsPrintableStage version) stages → AllByRecursion (λ (s : StageCert). RangesAs s (is_tried s.mark)) stages → length (numbered stage_lines i stages) < 2 ^ 32 → AllByRecursion (StageFits version) stages
stages_fit version [] i p r few = tt
stages_fit version (s ∷ stages) i p r few =
    let whole = length-append (stage_lines i s) (numbered stage_lines (suc i) stages) in
    (stage_fits version s (is_tried s.mark) p.0 r.0 (omega (arith, few, whole)), stages_fit version stages (suc i) p.1 r.1 (omega (arith, few, whole)))

pub cert_is : (c : Certificate) → IsPrintable c → AllByRecursion (λ (s : StageCert). RangesAs s (is_tried s.mark)) c.stages → IsCert c
cert_is c p r =
    let whole = length-append (numbered stage_lines 1 c.stages) ((codes "END" ∷ []) ∷ []) in
    record { version = p.version; count = p.count; stages = stages_fit c.version c.stages 1 p.stages r (omega (arith, p.few, whole)) }

pub extra_is : (s : StageCert) → IsPrintableExtra s → HasRanges s → IsExtra s
extra_is s p r =
    let whole = length-append (proof_lines s) ((codes "END" ∷ []) ∷ []) in
    record { tried = p.tried; fits = proof_fits 3 s p.fits r (omega (arith, p.few, whole)) }
