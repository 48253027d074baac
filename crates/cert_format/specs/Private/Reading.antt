-- Reading line by line, with the first line that isn't in the form at its place.
use Rattle.std.specs.Prelude.{ℕ, zero, suc, if◌then◌else◌, Bool, List, [], ◌∷◌, ◌++◌, Option, Some, None, Result, Ok, Err, option_to_list, is_some, codes}
use Rattle.choice_problem.specs.declared.vectors.Price.{Price}
use Rattle.choice_problem.specs.declared.nodes.Node.{Node}
use Rattle.cost_fixing.specs.declared.fixings.Fixing.{Fixing}
use Rattle.cert_format.specs.declared.cert.Floor.{Floor}
use Rattle.cert_format.specs.declared.cert.Mark.{Mark}
use Rattle.cert_format.specs.declared.cert.StageCert.{StageCert}
use Rattle.cert_format.specs.declared.cert.Certificate.{Certificate}
use Rattle.choice_problem.specs.declared.vectors.TheConstants.{MOST_VECTORS}
use Rattle.cert_format.specs.declared.rows.FixLine.{FixLine}
use Rattle.cert_format.specs.declared.rows.TreeLine.{TreeLine}
use Rattle.cert_format.specs.declared.rows.TreeLine.TheVariants.{Fixed, Counted}
use Rattle.cert_format.specs.Lines.{Word}
use Rattle.cert_format.specs.Private.Cuts.{cert_lines_of}
use Rattle.cert_format.specs.Private.Words.{most_small, most_large}
use Rattle.cert_format.specs.Private.Spots.{Spot, Read, ◌>>=◌, line_by}
use Rattle.cert_format.specs.Private.Rows.{count_row, choices_row, alternative_row, price_row, tree_row, fix_line, node_row, mark_row, version_row, end_row, extra_row, tried_row}
use Rattle.cert_format.specs.Spelling.{is_tried, has_bound, not_tried}

-- items one after the other, of which `one` reads the i-th
unfoldable pub many : {A : Type 0} → (ℕ → Spot → Read A) → ℕ → ℕ → Spot → Read (List A)
many one i zero s = Ok ([], s)
many one i (suc n) s = do
  first ← one i s
  others ← many one (suc i) n first.1
  Ok (first.0 ∷ others.0, others.1)

abbrev pub alternative_at : ℕ → Spot → Read ℕ
alternative_at unit s = line_by (alternative_row unit) s

unfoldable pub alternatives_at : Option ℕ → Spot → Read (Option (List ℕ))
alternatives_at None s = Ok (None, s)
alternatives_at (Some n) s = do
  alts ← many alternative_at 0 n s
  Ok (Some alts.0, alts.1)

unfoldable pub choice_at : Spot → Read (Option (List ℕ))
choice_at s = do
  n ← line_by choices_row s
  alternatives_at n.0 n.1

abbrev pub price_at : ℕ → Spot → Read Price
price_at i s = line_by price_row s

unfoldable pub one_vector : Spot → Read (List Price)
one_vector s = do
  n ← line_by (count_row (codes "VECTOR") most_small) s
  many price_at 0 n.0 n.1

abbrev pub vector_at : ℕ → Spot → Read (List Price)
vector_at i s = one_vector s

unfoldable pub vectors_at : Spot → Read (List (List Price))
vectors_at s = do
  n ← line_by (count_row (codes "VECTORS") MOST_VECTORS) s
  many vector_at 0 n.0 n.1

-- a line with a number, where it is wanted
unfoldable pub optional_at : List ℕ → Bool → Spot → Read (Option ℕ)
optional_at tag wanted s =
    if wanted then (line_by (count_row tag most_large) s >>= λ n. Ok (Some n.0, n.1)) else Ok
    (None, s)

-- nodes, and the floors among them
unfoldable pub nodes_at : ℕ → ℕ → Spot → Read (List Node × List Floor)
nodes_at version zero s = Ok (([], []), s)
nodes_at version (suc n) s = do
  first ← line_by (node_row version) s
  others ← nodes_at version n first.1
  Ok ((first.0.0 ∷ others.0.0, option_to_list first.0.1 ++ others.0.1), others.1)

-- what follows the first line of a tree, up to its nodes
unfoldable pub after_head : TreeLine → Spot → Read (Option Fixing × ℕ)
after_head (Counted n) s = Ok ((None, n), s)
after_head (Fixed f) s = do
  n ← line_by (count_row (codes "TREE") most_small) s
  Ok ((Some f, n.0), n.1)

-- a fixing, if there is one, and how many nodes follow
unfoldable pub head_at : FixLine → Spot → Read (Option Fixing × ℕ)
head_at fix s = do
  first ← line_by (tree_row fix) s
  after_head first.0 first.1

unfoldable pub tree_at : ℕ → FixLine → Spot → Read (Option Fixing × (List Node × List Floor))
tree_at version fix s = do
  head ← head_at fix s
  nodes ← nodes_at version head.0.1 head.1
  Ok ((head.0.0, nodes.0), nodes.1)

-- what follows the line of the mark of a stage that was tried
unfoldable pub proof_at : ℕ → FixLine → Mark → Spot → Read StageCert
proof_at version fix mark s = do
  choice ← choice_at s
  cost ← optional_at (codes "COST") (is_some choice.0) choice.1
  bound ← optional_at (codes "BOUND") (has_bound version mark) cost.1
  vectors ← vectors_at bound.1
  tree ← tree_at version fix vectors.1
  Ok (
    record {
      mark = mark;
      choice = choice.0;
      cost = cost.0;
      bound = bound.0;
      vectors = vectors.0;
      fixing = tree.0.0;
      tree = tree.0.1.0;
      floors = tree.0.1.1;
    },
    tree.1,
  )

unfoldable pub stage_at : ℕ → ℕ → Spot → Read StageCert
stage_at version stage s = do
  mark ← line_by (mark_row stage) s
  if is_tried mark.0 then proof_at version (fix_line version) mark.0 mark.1 else Ok
      (not_tried mark.0, mark.1)

-- nothing may follow
abbrev pub ended_by : {A : Type 0} → A → ℕ → List (List Word) → Result A ℕ
ended_by x line [] = Ok x
ended_by x line (ws ∷ rest) = Err line

abbrev pub ended : {A : Type 0} → A → Spot → Result A ℕ
ended x s = ended_by x s.line s.lines

unfoldable pub cert_at : Spot → Result Certificate ℕ
cert_at s = do
  version ← line_by version_row s
  stages ← many (stage_at version.0) 1 4 version.1
  last ← line_by end_row stages.1
  ended (record { version = version.0; stages = stages.0 }) last.1

-- the certificate that the text spells, or the number of the first line that isn't in the form at
-- its place
abbrev pub cert_of : List ℕ → Result Certificate ℕ
cert_of bytes = cert_at (record { line = 1; lines = cert_lines_of bytes })

unfoldable pub extra_at : Spot → Result StageCert ℕ
extra_at s = do
  head ← line_by extra_row s
  mark ← line_by tried_row head.1
  stage ← proof_at 3 head.0 mark.0 mark.1
  last ← line_by end_row stage.1
  ended stage.0 last.1

-- the one more stage that the text spells, or the number of the first line that isn't in the form
-- at its place
abbrev pub extra_of : List ℕ → Result StageCert ℕ
extra_of bytes = extra_at (record { line = 1; lines = cert_lines_of bytes })
