-- What has a spelling as a certificate, and the one spelling of each, line by line.
use Rattle.std.specs.Prelude.{◌≡◌, ℕ, suc, ◌^◌, ◌<◌, ◌≤◌, nat_le, if◌then◌else◌, Bool, true, false, List, [], ◌∷◌, ◌++◌, length, Option, Some, None, is_some, IfSome, codes, ℤ, pos, negsuc}
use Rattle.std.specs.List.{AllByRecursion}
use Rattle.std.specs.Fmt.{decimal, signed_decimal}
use Rattle.choice_problem.specs.declared.vectors.Price.{Price}
use Rattle.choice_problem.specs.declared.nodes.Node.{Node}
use Rattle.choice_problem.specs.declared.nodes.Node.TheVariants.{Split, Leaf, Over, Undone}
use Rattle.cost_fixing.specs.declared.fixings.Fixing.{Fixing}
use Rattle.cert_format.specs.declared.cert.Floor.{Floor}
use Rattle.cert_format.specs.declared.cert.Mark.{Mark}
use Rattle.cert_format.specs.declared.cert.Mark.TheVariants.{Optimal, Infeasible, Unsettled, NotTried}
use Rattle.cert_format.specs.declared.cert.StageCert.{StageCert}
use Rattle.cert_format.specs.declared.cert.Certificate.{Certificate}
use Rattle.choice_problem.specs.declared.vectors.TheConstants.{MOST_VECTORS}
use Rattle.cert_format.specs.Lines.{Word, text_of}

-- a word and a number
abbrev pub count_words : Word → ℕ → List Word
count_words tag n = tag ∷ decimal n ∷ []

-- `CHOICES` and how many choices, or `NONE`
abbrev pub choices_words : Option ℕ → List Word
choices_words None = codes "CHOICES" ∷ codes "NONE" ∷ []
choices_words (Some n) = codes "CHOICES" ∷ decimal n ∷ []

abbrev pub alternative_words : ℕ → ℕ → List Word
alternative_words unit alt = codes "C" ∷ decimal unit ∷ decimal alt ∷ []

-- the lines of items, each by its number, from this number on
abbrev pub numbered : {A : Type 0} → (ℕ → A → List (List Word)) → ℕ → List A → List (List Word)
numbered lines n [] = []
numbered lines n (x ∷ xs) = lines n x ++ numbered lines (suc n) xs

abbrev pub alternative_lines : ℕ → ℕ → List (List Word)
alternative_lines unit alt = alternative_words unit alt ∷ []

abbrev pub price_words : Price → List Word
price_words p = codes "P" ∷ decimal p.resource ∷ signed_decimal p.price ∷ []

abbrev pub price_lines : ℕ → Price → List (List Word)
price_lines n p = price_words p ∷ []

abbrev pub vector_lines : ℕ → List Price → List (List Word)
vector_lines n prices = count_words (codes "VECTOR") (length prices) ∷ numbered price_lines 0 prices

abbrev pub seen_word : Option ℕ → Word
seen_word None = codes "-"
seen_word (Some n) = decimal n

abbrev pub undone_words : Option Floor → List Word
undone_words None = codes "U" ∷ []
undone_words (Some f) = codes "U" ∷ decimal f.vector ∷ decimal f.scale ∷ []

-- a node, and the floor of an undone one
abbrev pub node_words : Node → Option Floor → List Word
node_words (Split unit cut seen) floor =
    codes "S" ∷ decimal unit ∷ decimal cut ∷ seen_word seen ∷ []
node_words (Leaf vector scale seen) floor =
    codes "L" ∷ decimal vector ∷ decimal scale ∷ seen_word seen ∷ []
node_words (Over resource) floor = codes "O" ∷ decimal resource ∷ []
node_words Undone floor = undone_words floor

abbrev pub is_undone : Node → Bool
is_undone (Split unit cut seen) = false
is_undone (Leaf vector scale seen) = false
is_undone (Over resource) = false
is_undone Undone = true

-- the nodes with the floors of the undone ones among them, as far as there are floors
abbrev pub node_lines : List Node → List Floor → List (List Word)
node_lines [] floors = []
node_lines (node ∷ nodes) [] = node_words node None ∷ node_lines nodes []
node_lines (node ∷ nodes) (floor ∷ floors) =
    if is_undone node then node_words node (Some floor) ∷ node_lines nodes floors
    else node_words node None ∷ node_lines nodes (floor ∷ floors)

-- the vector, the scale and the cost of a fixing
abbrev pub fixing_words : Fixing → List Word
fixing_words f =
    codes "FIX" ∷ decimal f.vector ∷ decimal f.scale ∷ decimal f.cost ∷ []

abbrev pub fixing_lines : Option Fixing → List (List Word)
fixing_lines None = []
fixing_lines (Some f) = fixing_words f ∷ []

abbrev pub optional_lines : Word → Option ℕ → List (List Word)
optional_lines tag None = []
optional_lines tag (Some n) = count_words tag n ∷ []

abbrev pub choice_lines : Option (List ℕ) → List (List Word)
choice_lines None = choices_words None ∷ []
choice_lines (Some alts) = choices_words (Some (length alts)) ∷ numbered alternative_lines 0 alts

abbrev pub mark_name : Mark → List Word
mark_name Optimal = codes "OPTIMAL" ∷ []
mark_name Infeasible = codes "INFEASIBLE" ∷ []
mark_name Unsettled = codes "OPEN" ∷ []
mark_name NotTried = codes "NOT" ∷ codes "TRIED" ∷ []

abbrev pub stage_words : ℕ → Mark → List Word
stage_words stage mark = codes "STAGE" ∷ decimal stage ∷ mark_name mark

abbrev pub is_tried : Mark → Bool
is_tried Optimal = true
is_tried Infeasible = true
is_tried Unsettled = true
is_tried NotTried = false

-- what follows the line of the mark of a stage that was tried
abbrev pub proof_lines : StageCert → List (List Word)
proof_lines s =
    choice_lines s.choice ++ (optional_lines (codes "COST") s.cost
    ++ (optional_lines (codes "BOUND") s.bound
    ++ (count_words (codes "VECTORS") (length s.vectors) ∷ (numbered vector_lines 0 s.vectors
    ++ (fixing_lines s.fixing
    ++ (count_words (codes "TREE") (length s.tree) ∷ node_lines s.tree s.floors))))))

abbrev pub stage_lines : ℕ → StageCert → List (List Word)
stage_lines stage s = stage_words stage s.mark ∷ (if is_tried s.mark then proof_lines s else [])

abbrev pub cert_lines : Certificate → List (List Word)
cert_lines c =
    count_words (codes "CERT") c.version
    ∷ (numbered stage_lines 1 c.stages ++ ((codes "END" ∷ []) ∷ []))

-- the one spelling of a certificate
abbrev pub spelling : Certificate → List ℕ
spelling c = text_of (cert_lines c)

-- ---- what has a spelling

abbrev pub SeenFits : Option ℕ → Type 0
SeenFits seen = IfSome seen (λ n. n < 2 ^ 64)

abbrev pub NodeFits : Node → Type 0
NodeFits (Split unit cut seen) = (unit < 2 ^ 32) × (cut < 2 ^ 32) × SeenFits seen
NodeFits (Leaf vector scale seen) = (vector < 2 ^ 32) × (scale < 2 ^ 64) × SeenFits seen
NodeFits (Over resource) = resource < 2 ^ 32
NodeFits Undone = Unit {0}

abbrev pub FloorFits : Floor → Type 0
FloorFits f = (f.vector < 2 ^ 32) × (f.scale < 2 ^ 64)

abbrev pub FixingFits : Fixing → Type 0
FixingFits f = (f.vector < 2 ^ 32) × (f.scale < 2 ^ 64) × (f.cost < 2 ^ 64)

-- a number of 64 bits with a sign
abbrev pub IsLong : ℤ → Type 0
IsLong (pos n) = n < 2 ^ 63
IsLong (negsuc n) = n < 2 ^ 63

abbrev pub PriceFits : Price → Type 0
PriceFits p = (p.resource < 2 ^ 32) × IsLong p.price

abbrev pub VectorFits : List Price → Type 0
VectorFits prices = (length prices < 2 ^ 32) × AllByRecursion PriceFits prices

abbrev pub undone_count : List Node → ℕ
undone_count [] = 0
undone_count (node ∷ nodes) =
    if is_undone node then suc (undone_count nodes) else undone_count nodes

-- from version 2 on there are bounds and floors
abbrev pub has_floors : ℕ → Bool
has_floors version = nat_le 2 version

-- a tree with its floors: version 1 has none, a later one has one for each undone node
abbrev pub floor_count : ℕ → List Node → ℕ
floor_count version nodes = if has_floors version then undone_count nodes else 0

-- there is a bound from version 2 on where the mark is OPEN
abbrev pub has_bound : ℕ → Mark → Bool
has_bound version Unsettled = has_floors version
has_bound version Optimal = false
has_bound version Infeasible = false
has_bound version NotTried = false

-- a stage that was tried has a spelling
pub record ProofFits (version : ℕ) (s : StageCert) : Type 0 where
  pub choice : IfSome s.choice
      (λ alts. (length alts < 2 ^ 32) × AllByRecursion (λ alt. alt < 2 ^ 32) alts)
  pub has_cost : is_some s.cost ≡ is_some s.choice
  pub cost : SeenFits s.cost
  pub has_bound : is_some s.bound ≡ has_bound version s.mark
  pub bound : SeenFits s.bound
  pub vector_count : length s.vectors ≤ MOST_VECTORS
  pub vectors : AllByRecursion VectorFits s.vectors
  pub fixed_from : IfSome s.fixing (λ f. 3 ≤ version)
  pub fixing : IfSome s.fixing FixingFits
  pub node_count : length s.tree < 2 ^ 32
  pub nodes : AllByRecursion NodeFits s.tree
  pub floor_count : length s.floors ≡ floor_count version s.tree
  pub floors : AllByRecursion FloorFits s.floors

-- a stage that was not tried, with nothing but its mark
abbrev pub not_tried : Mark → StageCert
not_tried mark = record {
  mark = mark;
  choice = None;
  cost = None;
  bound = None;
  vectors = [];
  fixing = None;
  tree = [];
  floors = [];
}

-- a stage that was not tried holds nothing
pub record HoldsNothing (s : StageCert) : Type 0 where
  pub choice : s.choice ≡ None
  pub cost : s.cost ≡ None
  pub bound : s.bound ≡ None
  pub vectors : s.vectors ≡ []
  pub fixing : s.fixing ≡ None
  pub tree : s.tree ≡ []
  pub floors : s.floors ≡ []

abbrev pub StageFitsAs : ℕ → StageCert → Bool → Type 0
StageFitsAs version s true = ProofFits version s
StageFitsAs version s false = HoldsNothing s

abbrev pub StageFits : ℕ → StageCert → Type 0
StageFits version s = StageFitsAs version s (is_tried s.mark)

abbrev pub IsVersion : ℕ → Type 0
IsVersion version = (1 ≤ version) × (version ≤ 3)

-- a certificate has a spelling
pub record IsCert (c : Certificate) : Type 0 where
  pub version : IsVersion c.version
  pub count : length c.stages ≡ 4
  pub stages : AllByRecursion (StageFits c.version) c.stages

-- ---- one more stage by itself

-- 2 where there is a fixing, and else 1
abbrev pub extra_word : Option Fixing → Word
extra_word None = codes "1"
extra_word (Some f) = codes "2"

abbrev pub extra_lines : StageCert → List (List Word)
extra_lines s =
    (codes "EXTRA" ∷ extra_word s.fixing ∷ [])
    ∷ (stage_words 5 s.mark ∷ (proof_lines s ++ ((codes "END" ∷ []) ∷ [])))

-- the one spelling of one more stage
abbrev pub extra_spelling : StageCert → List ℕ
extra_spelling s = text_of (extra_lines s)

pub record IsExtra (s : StageCert) : Type 0 where
  pub tried : is_tried s.mark ≡ true
  pub fits : ProofFits 3 s
