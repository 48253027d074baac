-- What printing sees of the numbers of a stage.
use Rattle.std.specs.Prelude.{ℕ, suc, ◌+◌, if◌then◌else◌, ◌^◌, ◌<◌, ◌≤◌, Bool, true, false, List, length, IfSome}
use Rattle.std.specs.List.{AllByRecursion}
use Rattle.choice_problem.specs.declared.vectors.Price.{Price}
use Rattle.cert_format.specs.declared.cert.StageCert.{StageCert}
use Rattle.cert_format.specs.Spelling.{SeenFits, PriceFits, FixingFits, NodeFits, FloorFits, undone_count, is_tried}
use Rattle.cert_format.specs.Printable.{proof_line_count}

pub record HasRanges (s : StageCert) : Type 0 where
  pub choice : IfSome s.choice (λ alts. AllByRecursion (λ alt. alt < 2 ^ 32) alts)
  pub cost : SeenFits s.cost
  pub bound : SeenFits s.bound
  pub vectors : AllByRecursion (AllByRecursion PriceFits) s.vectors
  pub fixing : IfSome s.fixing FixingFits
  pub nodes : AllByRecursion NodeFits s.tree
  pub floors : length s.floors ≤ undone_count s.tree → AllByRecursion FloorFits s.floors

abbrev pub RangesAs : StageCert → Bool → Type 0
RangesAs s true = HasRanges s
RangesAs s false = Unit {0}

-- the lines of a vector and of its prices
abbrev pub prices_line_count : List Price → ℕ
prices_line_count prices = 1 + length prices

-- the lines of a stage
abbrev pub stage_line_count : StageCert → ℕ
stage_line_count s = suc (if is_tried s.mark then proof_line_count s else 0)
