-- Why a text is no capacity file.
use Rattle.std.specs.Prelude.{◌≡◌, ◌⊎◌, ℕ, suc, ◌-◌, ◌^◌, ◌<◌, ◌≤◌, List, [], ◌∷◌, length, Some, None, slice_get, IsSomeAnd}
use Rattle.slot_text.specs.Lines.{lines_of}
use Rattle.slot_text.specs.Fields.{fields_of, IsTrimmed}
use Rattle.slot_text.specs.declared.lines.TheConstants.{LONGEST_LINE}
use Rattle.season_days.specs.declared.declaration.TheConstants.{MINUTES_OF_DAY, HIGHEST_SHARE, HIGHEST_REFUSAL_PRICE, HIGHEST_NIGHT_LIMIT, HIGHEST_WINDOW_LIMIT, MOST_RULES, MOST_WINDOWS}
use Rattle.capacity_file.specs.declared.limits.TheConstants.{MOST_FLEX}
use Rattle.capacity_file.specs.declared.fault.CapWord.{CapWord}
use Rattle.capacity_file.specs.declared.fault.CapWord.TheVariants as needs
use Rattle.capacity_file.specs.declared.fault.CapLimit.{CapLimit}
use Rattle.capacity_file.specs.declared.fault.CapLimit.TheVariants as limits
use Rattle.capacity_file.specs.declared.fault.CapFault.{CapFault}
use Rattle.capacity_file.specs.declared.fault.CapFault.TheVariants as faults
use Rattle.fault_causes.specs.Causes.{line_word_text}
use Rattle.fault_causes.specs.Forms.{IsFlaw}
use Rattle.fault_causes.specs.declared.cause.LineWord.{LineWord}
use Rattle.fault_causes.specs.declared.cause.LineWord.TheVariants as words
use Rattle.fault_causes.specs.declared.cause.FieldName.{FieldName}
use Rattle.fault_causes.specs.declared.cause.FieldName.TheVariants as fields
use Rattle.fault_causes.specs.declared.cause.Flaw.{Flaw}
use Rattle.fault_causes.specs.declared.cause.Flaw.TheVariants as flaws
use Rattle.fault_causes.specs.declared.cause.Cause.{Cause}
use Rattle.fault_causes.specs.declared.cause.Cause.TheVariants as causes
use Rattle.fault_causes.specs.declared.form.Form.{Form}
use Rattle.fault_causes.specs.declared.form.Form.TheVariants as forms
use Rattle.fault_causes.specs.declared.fields.Wanted.{Wanted}

-- ---- the fields behind each word

abbrev pub wanted : FieldName → Form → Wanted
wanted name form = record { name = name; form = form }

abbrev pub one_value : Form → List Wanted
one_value form = wanted fields.Value form ∷ []

abbrev pub fields_behind : LineWord → List Wanted
fields_behind words.Airport = one_value forms.Airport
fields_behind words.Season = one_value forms.Season
fields_behind words.Step = one_value forms.Step
fields_behind words.Flex = one_value (forms.Number 0 (2 ^ 64 - 1))
fields_behind words.Ground = one_value (forms.Number 0 MINUTES_OF_DAY)
fields_behind words.Share = one_value (forms.Number 0 HIGHEST_SHARE)
fields_behind words.Refuse = one_value (forms.Price HIGHEST_REFUSAL_PRICE)
fields_behind words.Night =
    wanted fields.From forms.Time ∷ wanted fields.To forms.Other
    ∷ wanted fields.Limit (forms.Number 0 HIGHEST_NIGHT_LIMIT) ∷ []
fields_behind words.Cap =
    wanted fields.Kind forms.Kind ∷ wanted fields.Length (forms.Number 1 MINUTES_OF_DAY)
    ∷ wanted fields.From forms.Time ∷ wanted fields.To forms.Later
    ∷ wanted fields.Days forms.Days ∷ wanted fields.Limit (forms.Number 0 HIGHEST_WINDOW_LIMIT) ∷ []

-- ---- the first bad field

-- from the field of a number on, behind one with this text; where no field is bad, none is missing
-- and none is too many, the line is the FLEX line, and not whole steps
abbrev pub IsFieldCause : List Wanted → List ℕ → ℕ → List (List ℕ) → Cause → Type 0
IsFieldCause [] before n [] cause = cause ≡ causes.Step
IsFieldCause [] before n (text ∷ rest) cause = cause ≡ causes.End n
IsFieldCause (want ∷ wants) before n [] cause = cause ≡ causes.Field n want.name flaws.Missing
IsFieldCause (want ∷ wants) before n (text ∷ rest) cause =
    (IsFlaw want.form before text None × IsFieldCause wants text (suc n) rest cause)
    ⊎ ((flaw : Flaw) × IsFlaw want.form before text (Some flaw)
    × (cause ≡ causes.Field n want.name flaw))

-- the word, and then the fields behind it
abbrev pub IsWordCause : List (List ℕ) → Cause → Type 0
IsWordCause [] cause = ⊥
IsWordCause (text ∷ rest) cause =
    (((word : LineWord) → text ≡ line_word_text word → ⊥)
    × (cause ≡ causes.Field 1 fields.Word flaws.Form))
    ⊎ ((word : LineWord) × (text ≡ line_word_text word)
    × IsFieldCause (fields_behind word) [] 2 rest cause)

-- a bad line: too long; with a blank at an end; or the first bad field
abbrev pub IsBadLineCause : List ℕ → Cause → Type 0
IsBadLineCause line cause =
    ((LONGEST_LINE < length line) × (cause ≡ causes.Long))
    ⊎ ((length line ≤ LONGEST_LINE) × (IsTrimmed line → ⊥) × (cause ≡ causes.Blank))
    ⊎ ((length line ≤ LONGEST_LINE) × IsTrimmed line × IsWordCause (fields_of line) cause)

-- the word of a line that stands twice
abbrev pub IsTwiceCause : List ℕ → Cause → Type 0
IsTwiceCause line cause =
    (word : LineWord)
    × IsSomeAnd (slice_get (fields_of line) 0) (λ text. text ≡ line_word_text word)
    × (cause ≡ causes.Twice word)

-- ---- the cause of a fault

abbrev pub needed : CapWord → LineWord
needed needs.Airport = words.Airport
needed needs.Season = words.Season
needed needs.Step = words.Step
needed needs.Flex = words.Flex
needed needs.Ground = words.Ground
needed needs.Refuse = words.Refuse

abbrev pub most_of : CapLimit → ℕ
most_of limits.Flex = MOST_FLEX
most_of limits.Caps = MOST_RULES
most_of limits.Windows = MOST_WINDOWS

-- the line of a number, counted from 1
abbrev pub LineIs : List ℕ → ℕ → (List ℕ → Type 0) → Type 0
LineIs text number Has = IsSomeAnd (slice_get (lines_of text) (number - 1)) Has

abbrev pub IsCapacityCause : List ℕ → CapFault → Cause → Type 0
IsCapacityCause text (faults.BadLine line) cause = LineIs text line (λ l. IsBadLineCause l cause)
IsCapacityCause text (faults.Missing word) cause = cause ≡ causes.NoLine (needed word)
IsCapacityCause text (faults.Twice line) cause = LineIs text line (λ l. IsTwiceCause l cause)
IsCapacityCause text (faults.OverLimit limit number) cause = cause ≡ causes.Most (most_of limit)
IsCapacityCause text faults.Memory cause = ⊥
