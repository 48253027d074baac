-- The report on a certificate of a submission: what was declared, what each stage decided and where
-- it has no allotment why, the airlines, each unit with the reasons why it was given nothing
-- cheaper, and the greatest loads.
use Rattle.std.specs.Prelude.{ℕ, suc, Bool, true, false, List, [], ◌∷◌, ◌++◌, map, filter, Option, Some, None, codes}
use Rattle.std.specs.Fmt.{decimal}
use Rattle.std.specs.List.{flat_map}
use Rattle.season_days.specs.Term.{Term}
use Rattle.season_days.specs.declared.declaration.Declaration.{Declaration}
use Rattle.scr_reader.specs.declared.line.Line.{Line}
use Rattle.scr_reader.specs.declared.line.Code.TheVariants.{C, K, H, O}
use Rattle.cert_format.specs.declared.cert.Mark.{Mark}
use Rattle.cert_format.specs.declared.cert.Mark.TheVariants.{Optimal, Infeasible, Unsettled, NotTried}
use Rattle.cert_format.specs.declared.cert.StageCert.{StageCert}
use Rattle.cert_format.specs.declared.cert.Certificate.{Certificate}
use Rattle.cert_format.specs.Spelling.{is_tried}
use Rattle.capacity_windows.specs.Windows.{capacity_of}
use Rattle.series_model.specs.declared.unit.Unit.{Unit as SlotUnit}
use Rattle.series_model.specs.declared.state.UnitState.{UnitState}
use Rattle.series_model.specs.declared.times.Times.{Times}
use Rattle.series_model.specs.declared.times.Times.TheVariants.{Refused as refused_times, At}
use Rattle.series_model.specs.Submissions.{SubmissionView}
use Rattle.series_model.specs.TimedLines.{line_at}
use Rattle.series_model.specs.Displacement.{displacement_of, line_change, line_dates}
use Rattle.season_report.specs.declared.decided.Decided.{Decided}
use Rattle.season_report.specs.declared.decided.Decision.{Decision}
use Rattle.season_report.specs.declared.decided.Decision.TheVariants.{Unallotted, Refused, Kept, Historic, Moved}
use Rattle.report_lines.specs.Words.{quoted}
use Rattle.season_report.specs.Decisions.{states_before, season_decided, decision, is_of_stage}
use Rattle.season_report.specs.Tallies.{tally_of, tally_words, airlines_of, airline_line}
use Rattle.report_lines.specs.Heads.{head_text}
use Rattle.report_lines.specs.Peaks.{earlier_load, over_lines, profile_lines}
use Rattle.season_report.specs.Rows.{allotted_stage, allotted_reasons}

-- ---- stages

-- what an allotment displaces, and what each one displaces at least
abbrev pub cost_word : Option ℕ → List ℕ
cost_word None = codes "NONE"
cost_word (Some cost) = decimal cost

abbrev pub bound_words : Option ℕ → List ℕ
bound_words None = []
bound_words (Some bound) = codes " BOUND " ++ decimal bound

abbrev pub mark_words : StageCert → Mark → List ℕ
mark_words c Optimal = codes "OPTIMAL " ++ cost_word c.cost
mark_words c Infeasible = codes "INFEASIBLE"
mark_words c Unsettled = codes "OPEN " ++ (cost_word c.cost ++ bound_words c.bound)
mark_words c NotTried = codes "NOT TRIED"

-- the mark of a stage, and the tally of the units that were decided in it
abbrev pub stage_line : Declaration → List Decided → ℕ → StageCert → List ℕ
stage_line d decided stage c =
    codes "STAGE " ++ (decimal stage ++ (32 ∷ (mark_words c c.mark
    ++ (32 ∷ (tally_words (tally_of d (filter (is_of_stage stage) decided)) ++ 10 ∷ [])))))

-- a stage that was tried and has no allotment: the windows that rule out all of them
abbrev pub none_lines : Declaration → ℕ → List UnitState → Option (List ℕ) → List ℕ
none_lines d stage states None = over_lines d stage states
none_lines d stage states (Some choice) = []

abbrev pub tried_lines : Declaration → ℕ → List UnitState → StageCert → Bool → List ℕ
tried_lines d stage states c true = none_lines d stage states c.choice
tried_lines d stage states c false = []

abbrev pub stage_text : SubmissionView → Certificate → ℕ → StageCert → List ℕ
stage_text s c stage cert =
    stage_line s.declaration (season_decided s c) stage cert
    ++ tried_lines s.declaration stage (states_before s c stage) cert (is_tried cert.mark)

abbrev pub stages_text : SubmissionView → Certificate → ℕ → List StageCert → List ℕ
stages_text s c stage [] = []
stages_text s c stage (cert ∷ certs) =
    stage_text s c stage cert ++ stages_text s c (suc stage) certs

-- ---- the reasons of each unit, stage by stage

abbrev pub stage_reasons : Declaration → ℕ → List UnitState → Option (List ℕ) → List (List ℕ)
stage_reasons d stage states None = map (λ (state : UnitState). []) states
stage_reasons d stage states (Some choice) =
    allotted_reasons (allotted_stage d stage states choice)

-- each text with the one at the same place after it
abbrev pub with_texts : List (List ℕ) → List (List ℕ) → List (List ℕ)
with_texts [] more = []
with_texts (text ∷ texts) [] = text ∷ texts
with_texts (text ∷ texts) (next ∷ more) = (text ++ next) ∷ with_texts texts more

abbrev pub reasons_after : SubmissionView → Certificate → ℕ → List (List ℕ) → List StageCert →
    List (List ℕ)
reasons_after s c stage texts [] = texts
reasons_after s c stage texts (cert ∷ certs) =
    reasons_after s c (suc stage)
    (with_texts texts
    (stage_reasons s.declaration stage (states_before s c stage) cert.choice)) certs

abbrev pub season_reasons : SubmissionView → Certificate → List (List ℕ)
season_reasons s c = reasons_after s c 1 (map (λ (unit : SlotUnit). []) s.units) c.stages

-- ---- units

abbrev pub decision_word : Decision → List ℕ
decision_word Unallotted = codes "NONE"
decision_word Refused = codes "REFUSED"
decision_word Kept = codes "KEPT"
decision_word Historic = codes "HISTORIC"
decision_word Moved = codes "MOVED"

-- by how many minutes the movements of one date were moved together; a hyphen without slots
abbrev pub shift_word : Line → Option Times → List ℕ
shift_word line None = codes "-"
shift_word line (Some refused_times) = codes "-"
shift_word line (Some (At arrival departure)) = decimal (line_change line arrival departure)

-- what it costs, a refusal too; a hyphen without an allotment
abbrev pub unit_cost_word : Declaration → SlotUnit → Option Times → List ℕ
unit_cost_word d unit None = codes "-"
unit_cost_word d unit (Some times) = decimal (displacement_of d unit times)

abbrev pub decided_line : Declaration → Decided → List ℕ
decided_line d u =
    codes "UNIT " ++ (decimal u.unit.line
    ++ (codes " STAGE " ++ (decimal u.stage
    ++ (32 ∷ (decision_word (decision u)
    ++ (codes " DATES " ++ (decimal (line_dates d.season u.unit.request)
    ++ (codes " SHIFT " ++ (shift_word u.unit.request u.given
    ++ (codes " COST " ++ (unit_cost_word d u.unit u.given ++ 10 ∷ [])))))))))))

abbrev pub held_line : Term → Option Line → List ℕ
held_line season None = []
held_line season (Some historic) = quoted season (codes "HELD ") C historic

abbrev pub asked_line : Term → Line → List ℕ
asked_line season request = quoted season (codes "ASKED ") request.code request

-- the line of a reply that confirms, holds or offers the slots
abbrev pub historic_line : Term → Option Line → List ℕ
historic_line season None = []
historic_line season (Some historic) = quoted season (codes "GIVEN ") H historic

abbrev pub slots_line : Term → SlotUnit → Times → Decision → List ℕ
slots_line season unit times Kept = quoted season (codes "GIVEN ") K unit.request
slots_line season unit times Historic = historic_line season unit.historic
slots_line season unit times Moved = quoted season (codes "GIVEN ") O (line_at unit.request times)
slots_line season unit times other = []

abbrev pub given_line : Term → Decided → Option Times → List ℕ
given_line season u None = []
given_line season u (Some times) = slots_line season u.unit times (decision u)

abbrev pub unit_text : Declaration → Decided → List ℕ → List ℕ
unit_text d u reasons =
    decided_line d u
    ++ (held_line d.season u.unit.historic
    ++ (asked_line d.season u.unit.request ++ (given_line d.season u u.given ++ reasons)))

abbrev pub units_text : Declaration → List Decided → List (List ℕ) → List ℕ
units_text d [] reasons = []
units_text d (u ∷ units) [] = unit_text d u [] ++ units_text d units []
units_text d (u ∷ units) (text ∷ texts) = unit_text d u text ++ units_text d units texts

-- ---- the whole

abbrev pub airlines_text : Declaration → List Decided → List ℕ
airlines_text d units = flat_map (airline_line d units) (airlines_of units)

-- the load of all that all stages gave
abbrev pub season_profile : SubmissionView → Certificate → List ℕ
season_profile s c =
    profile_lines (capacity_of s.declaration) (earlier_load s.declaration (states_before s c 5))

abbrev pub report_text : SubmissionView → Certificate → List ℕ
report_text s c =
    head_text s.declaration
    ++ (stages_text s c 1 c.stages
    ++ (airlines_text s.declaration (season_decided s c)
    ++ (units_text s.declaration (season_decided s c) (season_reasons s c)
    ++ (season_profile s c ++ codes "END\n"))))

-- the tally of all units, with its line end
abbrev pub season_tally : SubmissionView → Certificate → List ℕ
season_tally s c = tally_words (tally_of s.declaration (season_decided s c)) ++ 10 ∷ []
