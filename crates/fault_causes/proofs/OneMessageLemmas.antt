-- A fault of messages has one cause, and so has one of what they ask for.
use Rattle.std.proofs.Common.{◌≡◌, ℕ, ◌+◌, ◌-◌, ◌/◌, ◌%◌, ◌<◌, Bool, true, false, eqb, List, [], ◌∷◌, refl, sym, ap, subst, ◌∙◌, arith, inl, inr}
use Rattle.std.specs.Prelude.{Option, Some, None, MatchBool, slice_get, slice_index_or, ◌==◌, if◌then◌else◌}
use Rattle.slot_text.specs.Lines.{lines_of}
use Rattle.slot_text.specs.Fields.{begins_in_field, fields_of, field_at}
use Rattle.season_days.specs.Term.{Term}
use Rattle.season_days.specs.Seasons.{season_text, half_letter}
use Rattle.season_days.specs.declared.season.Half.{Half}
use Rattle.season_days.specs.declared.season.Half.TheVariants.{Summer, Winter}
use Rattle.scr_reader.specs.Rows.{trimmed, is_question}
use Rattle.scr_reader.specs.Shapes.{Shape, arrival, departure, turnaround, shape_of}
use Rattle.scr_reader.specs.declared.fault.ScrFault.{ScrFault}
use Rattle.scr_reader.specs.declared.fault.ScrFault.TheVariants as message_faults
use Rattle.series_model.specs.declared.fault.ModelFault.{ModelFault}
use Rattle.series_model.specs.declared.fault.ModelFault.TheVariants as model_faults
use Rattle.fault_causes.specs.Causes.{code_text}
use Rattle.fault_causes.specs.Requests.{lines_above, line_of_season, part_named, IsFlawOrForm, IsPartFlaw, IsPartCause, IsQuestionCause, IsFieldsCause, IsFieldCause, IsMessageCause, IsCodeCause, IsSubmissionCause}
use Rattle.fault_causes.specs.declared.cause.FieldName.{FieldName}
use Rattle.fault_causes.specs.declared.cause.FieldName.TheVariants as fields
use Rattle.fault_causes.specs.declared.cause.Flaw.{Flaw}
use Rattle.fault_causes.specs.declared.cause.Flaw.TheVariants as flaws
use Rattle.fault_causes.specs.declared.cause.OtherCode.{OtherCode}
use Rattle.fault_causes.specs.declared.cause.OtherCode.TheVariants as others
use Rattle.fault_causes.specs.declared.cause.Cause.{Cause}
use Rattle.fault_causes.specs.declared.cause.Cause.TheVariants as causes
use Rattle.fault_causes.proofs.DateLemmas.{one_period_flaw}
use Rattle.fault_causes.proofs.OneCapacityLemmas.{at_one}

-- ---- seasons

same_half : (a b : Half) → half_letter a ≡ half_letter b → a ≡ b
same_half Summer Summer e = refl
same_half Summer Winter e = absurd (omega (arith, e))
same_half Winter Summer e = absurd (omega (arith, e))
same_half Winter Winter e = refl

same_term : (a b : Term) → a.half ≡ b.half → a.year ≡ b.year → a ≡ b
same_term a b h y = ap (λ (half : Half). record { half = half; year = a.year }) h ∙ ap (λ (year : ℕ). record { half = b.half; year = year }) y

pub one_season : (text : List ℕ) (a b : Term) → a.year < 100 → b.year < 100 → text ≡ season_text a → text ≡ season_text b → a ≡ b
one_season text a b x y e f =
    let whole : season_text a ≡ season_text b = sym e ∙ f in
    let letter : half_letter a.half ≡ half_letter b.half = ap (λ (t : List ℕ). slice_index_or t 0 0) whole in
    let tens : 48 + a.year / 10 ≡ 48 + b.year / 10 = ap (λ (t : List ℕ). slice_index_or t 1 0) whole in
    let ones : 48 + a.year % 10 ≡ 48 + b.year % 10 = ap (λ (t : List ℕ). slice_index_or t 2 0) whole in
    same_term a b (same_half a.half b.half letter) (omega (arith, tens, ones))

-- ---- fields

one_of_two : (HasItsForm : Type 0) (word a b : Flaw) → IsFlawOrForm HasItsForm word a → IsFlawOrForm HasItsForm word b → a ≡ b
one_of_two HasItsForm word a b (inl x) (inl y) = x.1 ∙ sym y.1
one_of_two HasItsForm word a b (inl x) (inr y) = absurd (y.0 x.0)
one_of_two HasItsForm word a b (inr x) (inl y) = absurd (x.0 y.0)
one_of_two HasItsForm word a b (inr x) (inr y) = x.1 ∙ sym y.1

one_part_flaw : (season : Term) (shape : Shape) (name : FieldName) (text : List ℕ) (a b : Flaw) → IsPartFlaw season shape name text a → IsPartFlaw season shape name text b → a ≡ b
one_part_flaw season shape fields.Period text a b x y = one_period_flaw season text a b x y
one_part_flaw season shape fields.Days text a b x y = one_of_two _ _ a b x y
one_part_flaw season arrival fields.Departure text a b x y = x ∙ sym y
one_part_flaw season departure fields.Departure text a b x y = x ∙ sym y
one_part_flaw season turnaround fields.Departure text a b x y = one_of_two _ _ a b x y
one_part_flaw season shape fields.Word text a b x y = x ∙ sym y
one_part_flaw season shape fields.Value text a b x y = x ∙ sym y
one_part_flaw season shape fields.Kind text a b x y = x ∙ sym y
one_part_flaw season shape fields.Length text a b x y = x ∙ sym y
one_part_flaw season shape fields.From text a b x y = x ∙ sym y
one_part_flaw season shape fields.To text a b x y = x ∙ sym y
one_part_flaw season shape fields.Limit text a b x y = x ∙ sym y
one_part_flaw season shape fields.Code text a b x y = x ∙ sym y
one_part_flaw season shape fields.Flight text a b x y = x ∙ sym y
one_part_flaw season shape fields.Seats text a b x y = x ∙ sym y
one_part_flaw season shape fields.Arrival text a b x y = x ∙ sym y
one_part_flaw season shape fields.Service text a b x y = x ∙ sym y

one_part_cause : (season : Term) (shape : Shape) (n : ℕ) (name : Option FieldName) (text : Option (List ℕ)) (a b : Cause) → IsPartCause season shape n name text a → IsPartCause season shape n name text b → a ≡ b
one_part_cause season shape n None text a b x y = x ∙ sym y
one_part_cause season shape n (Some name) None a b x y = x ∙ sym y
one_part_cause season shape n (Some name) (Some text) a b (flaw, x, e) (other, y, f) = e ∙ ap (λ (z : Flaw). causes.Field n name z) (one_part_flaw season shape name text flaw other x y) ∙ sym f

by_bool : (test : Bool) (P Q : Cause → Type 0) (a b : Cause) → (P a → P b → a ≡ b) → (Q a → Q b → a ≡ b) → MatchBool test (P a) (Q a) → MatchBool test (P b) (Q b) → a ≡ b
by_bool true P Q a b one other x y = one x y
by_bool false P Q a b one other x y = other x y

one_question_cause : (n : ℕ) (a b : Cause) → IsQuestionCause n a → IsQuestionCause n b → a ≡ b
one_question_cause n a b x y = by_bool (n == 1) (λ c. c ≡ causes.Field 1 fields.Flight flaws.Form) (λ c. c ≡ causes.End n) a b (λ p q. p ∙ sym q) (λ p q. p ∙ sym q) x y

one_fields_cause : (season : Term) (words : List (List ℕ)) (n : ℕ) (a b : Cause) → IsFieldsCause season words n a → IsFieldsCause season words n b → a ≡ b
one_fields_cause season words n a b x y =
    by_bool (is_question words) (λ c. IsQuestionCause n c) (λ c. IsPartCause season (shape_of words) n (part_named words n) (field_at words n) c) a b
    (λ p q. one_question_cause n a b p q) (λ p q. one_part_cause season (shape_of words) n (part_named words n) (field_at words n) a b p q) x y

one_field_cause : (season : Term) (line : List ℕ) (n : ℕ) (a b : Cause) → IsFieldCause season line n a → IsFieldCause season line n b → a ≡ b
one_field_cause season line n a b x y =
    by_bool (begins_in_field line) (λ c. IsFieldsCause season (fields_of line) n c) (λ c. c ≡ causes.Blank) a b (λ p q. one_fields_cause season (fields_of line) n a b p q) (λ p q. p ∙ sym q) x y

-- ---- faults

pub one_message_cause : (text : List ℕ) (fault : ScrFault) (a b : Cause) → IsMessageCause text fault a → IsMessageCause text fault b → a ≡ b
one_message_cause text (message_faults.BadLine line field) a b (season, above, x) (other, also, y) =
    let same = one_season (trimmed (line_of_season (lines_above text line))) season other above.0 also.0 above.1 also.1 in
    at_one (slice_get (lines_of text) (line - 1)) (λ l. IsFieldCause season l field a) (λ l. IsFieldCause other l field b) a b (λ l p q. one_field_cause season l field a b p (subst (λ (s : Term). IsFieldCause s l field b) (sym same) q)) x y
one_message_cause text (message_faults.BadHeader line) a b x y = x ∙ sym y
one_message_cause text (message_faults.Unpaired line) a b x y = x ∙ sym y
one_message_cause text (message_faults.TooLong line) a b x y = x ∙ sym y
one_message_cause text message_faults.Memory a b x y = absurd x

code_of_text : List ℕ → OtherCode
code_of_text text =
    if eqb (slice_index_or text 0 0) 68 then others.D
    else (if eqb (slice_index_or text 0 0) 65 then others.A
    else (if eqb (slice_index_or text 0 0) 90 then others.Z else others.Q))

code_again : (code : OtherCode) → code_of_text (code_text code) ≡ code
unfolding code_of_text
code_again others.D = refl
code_again others.A = refl
code_again others.Z = refl
code_again others.Q = refl

one_code_cause : (line : List ℕ) (a b : Cause) → IsCodeCause line a → IsCodeCause line b → a ≡ b
one_code_cause [] a b x y = absurd x
one_code_cause (c ∷ line) a b (code, e, x) (other, f, y) =
    let same : code ≡ other = sym (code_again code) ∙ ap code_of_text (sym e ∙ f) ∙ code_again other in
    x ∙ ap (λ (z : OtherCode). causes.Code z) same ∙ sym y

pub one_submission_cause : (text : List ℕ) (fault : ModelFault) (a b : Cause) → IsSubmissionCause text fault a → IsSubmissionCause text fault b → a ≡ b
one_submission_cause text (model_faults.OtherSeason line) a b x y = x ∙ sym y
one_submission_cause text (model_faults.OtherAirport line) a b x y = x ∙ sym y
one_submission_cause text (model_faults.NotInitial line) a b x y = at_one (slice_get (lines_of text) (line - 1)) (λ l. IsCodeCause l a) (λ l. IsCodeCause l b) a b (λ l p q. one_code_cause l a b p q) x y
one_submission_cause text (model_faults.TooMany units) a b x y = x ∙ sym y
one_submission_cause text model_faults.Memory a b x y = absurd x
