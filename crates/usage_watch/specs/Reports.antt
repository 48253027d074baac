-- Reports of what was operated, as a text: each line says that on the dates of a period all
-- arrivals, or all departures, of one flight took place.
use Rattle.std.specs.Prelude.{◌≡◌, ◌⊎◌, ℕ, ◌+◌, ◌≤◌, true, false, List, [], ◌∷◌, length, codes}
use Rattle.slot_text.specs.Lines.{lines_of}
use Rattle.slot_text.specs.Fields.{fields_of, is_blank_line, IsTrimmed}
use Rattle.slot_text.specs.declared.lines.TheConstants.{LONGEST_LINE}
use Rattle.season_days.specs.Term.{Term}
use Rattle.season_days.specs.declared.declaration.Kind.{Kind}
use Rattle.season_days.specs.declared.declaration.Kind.TheVariants.{Arr, Dep, Tot}
use Rattle.schedule_text.specs.Kinds.{kind_text}
use Rattle.scr_reader.specs.Parts.{IsFlight}
use Rattle.scr_reader.specs.Shapes.{NamesPeriod}
use Rattle.usage_watch.specs.declared.operated.Operated.{Operated}
use Rattle.usage_watch.specs.declared.fault.OperatedFault.{OperatedFault}
use Rattle.usage_watch.specs.declared.fault.OperatedFault.TheVariants.{BadLine, Memory}

-- arrivals or departures: a line does not speak of both
abbrev pub IsOneKind : Kind → Type 0
IsOneKind Arr = Unit {0}
IsOneKind Dep = Unit {0}
IsOneKind Tot = ⊥

-- the line says the report: the word OPER, the kind, the flight, the dates and the days of
-- operation
pub record IsReport (season : Term) (line : List ℕ) (report : Operated) : Type 0 where
  pub short : length line ≤ LONGEST_LINE
  pub trimmed : IsTrimmed line
  pub flight_field : List ℕ
  pub dates_field : List ℕ
  pub days_field : List ℕ
  pub fields : fields_of line ≡ codes "OPER" ∷ kind_text report.kind ∷ flight_field
      ∷ dates_field ∷ days_field ∷ []
  pub kind : IsOneKind report.kind
  pub flight : IsFlight flight_field report.flight
  pub period : NamesPeriod season dates_field days_field report.period

-- the reports of the lines, in their order; a line of nothing but blanks has none
abbrev pub AreReports : Term → List (List ℕ) → List Operated → Type 0
AreReports season [] reports = reports ≡ []
AreReports season (line ∷ lines) reports =
    ((is_blank_line line ≡ true) × AreReports season lines reports)
    ⊎ ((report : Operated) × (others : List Operated) × IsReport season line report
    × (reports ≡ report ∷ others) × AreReports season lines others)

-- the text says these reports
abbrev pub SaysOperated : Term → List ℕ → List Operated → Type 0
SaysOperated season text reports = AreReports season (lines_of text) reports

-- ---- a text that is not in the form

-- the line is not empty, and says no report
pub record IsNoReport (season : Term) (line : List ℕ) : Type 0 where
  pub full : is_blank_line line ≡ false
  pub nothing : (report : Operated) → IsReport season line report → ⊥

-- the number of the first such line, where the first of the lines has this number
abbrev pub IsFirstBad : Term → ℕ → List (List ℕ) → ℕ → Type 0
IsFirstBad season number [] bad = ⊥
IsFirstBad season number (line ∷ lines) bad =
    (IsNoReport season line × (bad ≡ number))
    ⊎ ((IsNoReport season line → ⊥) × IsFirstBad season (number + 1) lines bad)

-- the fault that the text has
abbrev pub HasOperatedFault : Term → List ℕ → OperatedFault → Type 0
HasOperatedFault season text (BadLine line) = IsFirstBad season 1 (lines_of text) line
HasOperatedFault season text Memory = ⊥
