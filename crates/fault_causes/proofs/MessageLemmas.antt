-- The cause of a bad line of a message, and of a line that makes no unit.
use Rattle.std.proofs.Common.{◌≡◌, ℕ, ◌-◌, ◌<◌, List, [], ◌∷◌, Some, None, sym, ap, subst, ◌∙◌}
use Rattle.std.specs.Prelude.{slice_get}
use Rattle.std.proofs.lemmas.Option.{none-some, same_Some}
use Rattle.slot_text.specs.Lines.{lines_of}
use Rattle.slot_text.specs.Fields.{fields_of, field_at}
use Rattle.season_days.specs.Term.{Term}
use Rattle.season_days.specs.Seasons.{season_text}
use Rattle.scr_reader.specs.Rows.{trimmed}
use Rattle.scr_reader.specs.Messages.{runs_of, HasScrFault}
use Rattle.scr_reader.specs.declared.fault.ScrFault.TheVariants.{BadLine, Memory as NoMemory}
use Rattle.series_model.specs.declared.fault.ModelFault.TheVariants.{NotInitial, Memory as NoModel}
use Rattle.fault_causes.specs.Capacities.{LineIs}
use Rattle.fault_causes.specs.Requests.{lines_above, line_of_season, IsFieldCause, IsMessageCause, IsCodeCause, HasSubmissionFault}
use Rattle.fault_causes.specs.declared.cause.Cause.{Cause}
use Rattle.fault_causes.proofs.PlaceLemmas.{all_stand}
use Rattle.fault_causes.proofs.LineLemmas.{HasLine, fault_line, first_memory}
use Rattle.fault_causes.proofs.TrimLemmas.{season_field}
use Rattle.fault_causes.proofs.SubmissionLemmas.{HasCodeLine, code_of_fault, no_memory_fault}

module _ (text : List ℕ) (number at : ℕ) (has : HasScrFault text (BadLine number at)) where
  pub here : HasLine (lines_of text) number
  here = fault_line (lines_of text) (runs_of 1 (lines_of text)) (all_stand (lines_of text)) number at has

  module _ (above : List ℕ) (is : above ≡ line_of_season (lines_above text number)) where
    named : fields_of above ≡ season_text here.season ∷ []
    named = ap fields_of is ∙ season_field (line_of_season (lines_above text number)) here.season here.names

    pub not_none : None ≡ field_at (fields_of above) 1 → ⊥
    not_none none = none-some (season_text here.season) (none ∙ ap (λ (w : List (List ℕ)). field_at w 1) named)

    pub name_is : (name : List ℕ) → Some name ≡ field_at (fields_of above) 1 → name ≡ season_text here.season
    name_is name found = same_Some name (season_text here.season) (found ∙ ap (λ (w : List (List ℕ)). field_at w 1) named)

    pub is_cause : (name : List ℕ) (season : Term) (line : List ℕ) (cause : Cause) → Some name ≡ field_at (fields_of above) 1 → name ≡ season_text season → season.year < 100
        → ((l : List ℕ) → slice_get (lines_of text) (number - 1) ≡ Some l → line ≡ l) → IsFieldCause season line at cause → IsMessageCause text (BadLine number at) cause
    is_cause name season line cause found spelled year line_is because =
        let same : line ≡ here.line = line_is here.line here.stands in
        let names : trimmed (line_of_season (lines_above text number)) ≡ season_text season = here.names ∙ sym (name_is name found) ∙ spelled in
        let there : LineIs text number (λ l. IsFieldCause season l at cause) = rw here.stands (subst (λ (l : List ℕ). IsFieldCause season l at cause) same because) in
        (season, (year, names), there)

pub code_here : (text : List ℕ) (number : ℕ) → HasSubmissionFault text (NotInitial number) → HasCodeLine (lines_of text) number
code_here text number (d, messages, read, e) = code_of_fault d (lines_of text) (runs_of 1 (lines_of text)) messages (all_stand (lines_of text)) read number e

pub code_cause : (text : List ℕ) (number : ℕ) (has : HasCodeLine (lines_of text) number) (line : List ℕ) (cause : Cause) → ((l : List ℕ) → slice_get (lines_of text) (number - 1) ≡ Some l → line ≡ l) → IsCodeCause line cause
    → LineIs text number (λ l. IsCodeCause l cause)
code_cause text number has line cause found is = rw has.stands (subst (λ (l : List ℕ). IsCodeCause l cause) (found has.line has.stands) is)

pub no_memory : (text : List ℕ) → HasScrFault text NoMemory → ⊥
no_memory text is = first_memory (runs_of 1 (lines_of text)) is

pub no_model_memory : (text : List ℕ) → HasSubmissionFault text NoModel → ⊥
no_model_memory text (d, messages, read, e) = no_memory_fault d messages e
