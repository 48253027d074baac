-- The names of the fields of a line, and its first byte.
use Rattle.std.proofs.Common.{◌≡◌, ◌≢◌, ℕ, ◌-◌, ◌≤◌, true, false, List, [], ◌∷◌, length, map, refl, sym, ap, ◌∙◌, arith, inl, inr}
use Rattle.std.specs.Prelude.{Option, slice_get, slice_index, ◌==◌}
use Rattle.std.specs.Option.{option_map}
use Rattle.std.proofs.lemmas.Option.{slice_get-map}
use Rattle.std.proofs.lemmas.Bool.{cases_Bool, ne_eqb}
use Rattle.slot_text.specs.Lines.{onto_first}
use Rattle.slot_text.specs.Fields.{is_blank, begins_in_field, fields_of, field_at}
use Rattle.season_days.specs.Term.{Term}
use Rattle.scr_reader.specs.Rows.{is_question}
use Rattle.scr_reader.specs.Shapes.{Shape, arrival, departure, turnaround, shape_of, parts_of}
use Rattle.fault_causes.specs.Requests.{shape_named, first_name, first_word, part_name, part_named, IsQuestionCause, IsPartCause, IsFieldsCause, IsFieldCause}
use Rattle.fault_causes.specs.declared.cause.FieldName.{FieldName}
use Rattle.fault_causes.specs.declared.cause.FieldName.TheVariants as fields
use Rattle.fault_causes.specs.declared.cause.Cause.{Cause}
use Rattle.fault_causes.specs.declared.shape.Movements.{Movements}
use Rattle.fault_causes.specs.declared.shape.Movements.TheVariants as movements

-- ---- names

named : (words : List (List ℕ)) (shape : Shape) (names : List FieldName) (n place : ℕ) (r : Option FieldName) → shape_of words ≡ shape → names ≡ map (part_name (first_word words)) (parts_of shape) → place ≡ n - 1 → r ≡ slice_get names place → r ≡ part_named words n
named words shape names n place r is list at found =
    found ∙ ap (λ (l : List FieldName). slice_get l place) list ∙ slice_get-map (part_name (first_word words)) (parts_of shape) place
    ∙ ap (λ (k : ℕ). option_map (part_name (first_word words)) (slice_get (parts_of shape) k)) at
    ∙ ap (λ (s : Shape). option_map (part_name (first_word words)) (slice_get (parts_of s) (n - 1))) (sym is)

shape_is : (words : List (List ℕ)) (m k : Movements) → shape_named m ≡ shape_of words → m ≡ k → shape_of words ≡ shape_named k
shape_is words m k e is = sym e ∙ ap shape_named is

pub arrival_named : (words : List (List ℕ)) (m : Movements) (first : FieldName) (n place : ℕ) (r : Option FieldName) → shape_named m ≡ shape_of words → m ≡ movements.Arrival → first ≡ first_name (first_word words) → place ≡ n - 1
    → r ≡ slice_get (first ∷ fields.Period ∷ fields.Days ∷ fields.Seats ∷ fields.Arrival ∷ fields.Service ∷ []) place → r ≡ part_named words n
arrival_named words m first n place r e is f at found =
    named words arrival _ n place r (shape_is words m movements.Arrival e is) (ap (λ (x : FieldName). x ∷ fields.Period ∷ fields.Days ∷ fields.Seats ∷ fields.Arrival ∷ fields.Service ∷ []) f) at found

pub departure_named : (words : List (List ℕ)) (m : Movements) (n place : ℕ) (r : Option FieldName) → shape_named m ≡ shape_of words → m ≡ movements.Departure → place ≡ n - 1
    → r ≡ slice_get (fields.Code ∷ fields.Flight ∷ fields.Period ∷ fields.Days ∷ fields.Seats ∷ fields.Departure ∷ fields.Service ∷ []) place → r ≡ part_named words n
departure_named words m n place r e is at found =
    named words departure _ n place r (shape_is words m movements.Departure e is) refl at found

pub both_named : (words : List (List ℕ)) (m : Movements) (first : FieldName) (n place : ℕ) (r : Option FieldName) → shape_named m ≡ shape_of words → m ≡ movements.Both → first ≡ first_name (first_word words) → place ≡ n - 1
    → r ≡ slice_get (first ∷ fields.Flight ∷ fields.Period ∷ fields.Days ∷ fields.Seats ∷ fields.Arrival ∷ fields.Departure ∷ fields.Service ∷ []) place → r ≡ part_named words n
both_named words m first n place r e is f at found =
    named words turnaround _ n place r (shape_is words m movements.Both e is) (ap (λ (x : FieldName). x ∷ fields.Flight ∷ fields.Period ∷ fields.Days ∷ fields.Seats ∷ fields.Arrival ∷ fields.Departure ∷ fields.Service ∷ []) f) at found

-- ---- the first byte

-- the first field begins with the first byte of the line
record BeginsWith (b : ℕ) (words : List (List ℕ)) : Type 0 where
  text : List ℕ
  rest : List (List ℕ)
  is : words ≡ (b ∷ text) ∷ rest

onto_begins : (b : ℕ) (words : List (List ℕ)) → BeginsWith b (onto_first b words)
onto_begins b [] = record { text = []; rest = []; is = refl }
onto_begins b (word ∷ words) = record { text = word; rest = words; is = refl }

field_begins : (b : ℕ) (line : List ℕ) → is_blank b ≡ false → BeginsWith b (fields_of (b ∷ line))
unfolding fields_of
field_begins b line byte =
    elim (cases_Bool (begins_in_field line)) [
      | inl on ↦ rw (byte, on) (onto_begins b (fields_of line))
      | inr ends ↦ rw (byte, ends) (record { text = []; rest = fields_of line; is = refl })
    ]

asks : (b : ℕ) (line : List ℕ) → is_blank b ≡ false → is_question (fields_of (b ∷ line)) ≡ (b == 81)
asks b line byte = let begins = field_begins b line byte in ap is_question begins.is

in_field : (season : Term) (b : ℕ) (line : List ℕ) (n : ℕ) (cause : Cause) → is_blank b ≡ false → IsFieldsCause season (fields_of (b ∷ line)) n cause → IsFieldCause season (b ∷ line) n cause
in_field season b line n cause byte is = rw byte is

pub question_field : (season : Term) (line : List ℕ) (n : ℕ) (cause : Cause) → 1 ≤ length line → slice_index line 0 ≡ 81 → IsQuestionCause n cause → IsFieldCause season line n cause
question_field season [] n cause some is h = absurd (omega (arith, some))
question_field season (b ∷ line) n cause some is h =
    let blank : is_blank b ≡ false = rw is refl in
    let question : is_question (fields_of (b ∷ line)) ≡ true = asks b line blank ∙ rw is refl in
    in_field season b line n cause blank (rw question h)

pub part_field : (season : Term) (line : List ℕ) (n : ℕ) (cause : Cause) → 1 ≤ length line → slice_index line 0 ≢ 81 → is_blank (slice_index line 0) ≡ false
    → IsPartCause season (shape_of (fields_of line)) n (part_named (fields_of line) n) (field_at (fields_of line) n) cause → IsFieldCause season line n cause
part_field season [] n cause some other byte h = absurd (omega (arith, some))
part_field season (b ∷ line) n cause some other byte h =
    let line_is : is_question (fields_of (b ∷ line)) ≡ false = asks b line byte ∙ ne_eqb b 81 other in
    in_field season b line n cause byte (rw line_is h)
