-- What the reader of reports has read so far.
use Rattle.std.specs.Prelude.{◌≡◌, ◌⊎◌, ℕ, true, List, [], ◌∷◌, ◌++◌}
use Rattle.slot_text.specs.Fields.{is_blank_line}
use Rattle.season_days.specs.Term.{Term}
use Rattle.usage_watch.specs.declared.operated.Operated.{Operated}
use Rattle.usage_watch.specs.Reports.{IsReport, AreReports, IsFirstBad}

-- the line says this report and no other one
pub record IsOnlyReport (season : Term) (line : List ℕ) (report : Operated) : Type 0 where
  pub says : IsReport season line report
  pub only : (other : Operated) → IsReport season line other → other ≡ report

-- one more line: it is empty, or its report comes last
abbrev pub AddsLine : Term → List ℕ → List Operated → List Operated → Type 0
AddsLine season line before after =
    ((is_blank_line line ≡ true) × (after ≡ before))
    ⊎ ((report : Operated) × IsOnlyReport season line report × (after ≡ before ++ report ∷ []))

-- Of all lines those before the rest, whose first has the number, said these reports, and the first
-- bad line is not among them.
pub record IsReadSoFar (season : Term) (all rest : List (List ℕ)) (number : ℕ)
    (reports : List Operated) : Type 0 where
  pub onward : (more : List Operated) → AreReports season rest more →
      AreReports season all (reports ++ more)
  pub back : (whole : List Operated) → AreReports season all whole →
      (more : List Operated) × (whole ≡ reports ++ more) × AreReports season rest more
  pub bad_onward : (bad : ℕ) → IsFirstBad season number rest bad → IsFirstBad season 1 all bad
  pub bad_back : (bad : ℕ) → IsFirstBad season 1 all bad → IsFirstBad season number rest bad
