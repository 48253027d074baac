-- What is printed of the stages of a season, and with which status.
use Rattle.std.specs.Prelude.{ℕ, suc, List, [], ◌∷◌, ◌++◌, Bool, true, false, ◌||◌}
use Rattle.std.specs.Prelude.{if◌then◌else◌, codes, sum_by}
use Rattle.std.specs.Fmt.{decimal}
use Rattle.choice_problem.specs.Trees.{node_count}
use Rattle.cert_format.specs.declared.cert.Mark.{Mark}
use Rattle.cert_format.specs.declared.cert.Mark.TheVariants.{Optimal, Infeasible}
use Rattle.cert_format.specs.declared.cert.Mark.TheVariants.{Unsettled, NotTried}
use Rattle.cert_format.specs.declared.cert.StageCert.{StageCert}
pub use Rattle.season_report.specs.Reports.{cost_word, bound_words, mark_words}

-- ---- lines

-- a line has the number of the stage and its mark
abbrev pub mark_line : ℕ → StageCert → List ℕ
mark_line stage c =
    codes "STAGE " ++ (decimal stage ++ (32 ∷ (mark_words c c.mark ++ (10 ∷ []))))

-- a line for each stage, from this number on
abbrev pub mark_lines : ℕ → List StageCert → List ℕ
mark_lines stage [] = []
mark_lines stage (c ∷ certs) = mark_line stage c ++ mark_lines (suc stage) certs

-- how many splits and closed leaves the trees of all stages have
abbrev pub node_total : List StageCert → ℕ
node_total certs = sum_by (λ (c : StageCert). node_count c.tree) certs

-- ---- the status

abbrev pub is_infeasible : Mark → Bool
is_infeasible Optimal = false
is_infeasible Infeasible = true
is_infeasible Unsettled = false
is_infeasible NotTried = false

abbrev pub is_open : Mark → Bool
is_open Optimal = false
is_open Infeasible = false
is_open Unsettled = true
is_open NotTried = false

-- some stage has a mark of the kind
abbrev pub some_mark : (Mark → Bool) → List StageCert → Bool
some_mark is_so [] = false
some_mark is_so (c ∷ certs) = is_so c.mark || some_mark is_so certs

-- 8 where a stage is INFEASIBLE; else 9 where a stage is OPEN; and else 0
abbrev pub marks_status : List StageCert → ℕ
marks_status certs =
    if some_mark is_infeasible certs then 8 else (if some_mark is_open certs then 9 else 0)
