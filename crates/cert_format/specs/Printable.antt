-- What can be printed, and the limits of the certificates that a season has.
use Rattle.std.specs.Prelude.{◌≡◌, ℕ, ◌+◌, ◌*◌, ◌≤◌, Bool, true, false, length, is_some, IfSome, sum_by}
use Rattle.std.specs.Option.{option_map_or}
use Rattle.std.specs.List.{AllByRecursion}
use Rattle.choice_problem.specs.declared.problems.TheConstants.{MOST_UNITS}
use Rattle.choice_problem.specs.declared.closing.TheConstants.{PRICED_SCALE}
use Rattle.choice_problem.specs.Trees.{node_count}
use Rattle.choice_problem.specs.declared.vectors.TheConstants.{MOST_VECTORS, MOST_PRICES}
use Rattle.cert_format.specs.declared.cert.Floor.{Floor}
use Rattle.cert_format.specs.declared.cert.StageCert.{StageCert}
use Rattle.cert_format.specs.declared.cert.Certificate.{Certificate}
use Rattle.cert_format.specs.declared.cert.TheConstants.{MOST_NODES, MOST_BUDGET, MOST_LINES}
use Rattle.cert_format.specs.Spelling.{is_tried, has_bound, floor_count, HoldsNothing, IsVersion, cert_lines, extra_lines}

-- the parts of a stage that was tried belong together
pub record IsPrintableProof (version : ℕ) (s : StageCert) : Type 0 where
  pub has_cost : is_some s.cost ≡ is_some s.choice
  pub has_bound : is_some s.bound ≡ has_bound version s.mark
  pub vector_count : length s.vectors ≤ MOST_VECTORS
  pub fixed_from : IfSome s.fixing (λ f. 3 ≤ version)
  pub floor_count : length s.floors ≡ floor_count version s.tree

abbrev pub IsPrintableAs : ℕ → StageCert → Bool → Type 0
IsPrintableAs version s true = IsPrintableProof version s
IsPrintableAs version s false = HoldsNothing s

abbrev pub IsPrintableStage : ℕ → StageCert → Type 0
IsPrintableStage version s = IsPrintableAs version s (is_tried s.mark)

-- a certificate can be printed: what a caller owes, beside the ranges that the types of its numbers
-- have
pub record IsPrintable (c : Certificate) : Type 0 where
  pub version : IsVersion c.version
  pub count : length c.stages ≡ 4
  pub stages : AllByRecursion (IsPrintableStage c.version) c.stages
  pub few : length (cert_lines c) ≤ MOST_LINES

-- one more stage can be printed
pub record IsPrintableExtra (s : StageCert) : Type 0 where
  pub tried : is_tried s.mark ≡ true
  pub fits : IsPrintableProof 3 s
  pub few : length (extra_lines s) ≤ MOST_LINES

-- ---- how many lines there are

-- the lines below the mark of a stage that was tried: one for each unit with a choice, one for each
-- vector and each of its prices, one for each node, and those that count them or state the cost, the
-- bound and the fixing
abbrev pub proof_line_count : StageCert → ℕ
proof_line_count s =
    1 + option_map_or (λ alts. length alts) s.choice 0
    + (option_map_or (λ n. 1) s.cost 0 + (option_map_or (λ n. 1) s.bound 0
    + (1 + sum_by (λ prices. 1 + length prices) s.vectors
    + (option_map_or (λ f. 1) s.fixing 0 + (1 + length s.tree)))))

-- a floor by a vector that may be listed, at a scale of at most 1024
pub record IsShortFloor (f : Floor) : Type 0 where
  pub vector : f.vector ≤ MOST_VECTORS
  pub scale : f.scale ≤ PRICED_SCALE

-- the limits of a stage of a season: those of its problem's units, of the vectors and their prices,
-- of the nodes, of the splits and closed leaves among them, and of the floors
pub record IsWithinLimits (s : StageCert) : Type 0 where
  pub units : IfSome s.choice (λ alts. length alts ≤ MOST_UNITS)
  pub vectors : length s.vectors ≤ MOST_VECTORS
  pub prices : sum_by (λ prices. length prices) s.vectors ≤ 2 * MOST_PRICES
  pub nodes : length s.tree ≤ MOST_NODES
  pub budget : node_count s.tree ≤ MOST_BUDGET
  pub floors : AllByRecursion IsShortFloor s.floors
