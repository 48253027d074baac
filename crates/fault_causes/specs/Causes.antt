-- What causes print.
use Rattle.std.specs.Prelude.{ℕ, List, [], ◌∷◌, ◌++◌, codes}
use Rattle.std.specs.Fmt.{decimal}
use Rattle.fault_causes.specs.declared.cause.LineWord.{LineWord}
use Rattle.fault_causes.specs.declared.cause.LineWord.TheVariants as words
use Rattle.fault_causes.specs.declared.cause.HeaderName.{HeaderName}
use Rattle.fault_causes.specs.declared.cause.HeaderName.TheVariants as headers
use Rattle.fault_causes.specs.declared.cause.FieldName.{FieldName}
use Rattle.fault_causes.specs.declared.cause.FieldName.TheVariants as fields
use Rattle.fault_causes.specs.declared.cause.Flaw.{Flaw}
use Rattle.fault_causes.specs.declared.cause.Flaw.TheVariants as flaws
use Rattle.fault_causes.specs.declared.cause.OtherCode.{OtherCode}
use Rattle.fault_causes.specs.declared.cause.OtherCode.TheVariants as others
use Rattle.fault_causes.specs.declared.cause.Cause.{Cause}
use Rattle.fault_causes.specs.declared.cause.Cause.TheVariants as causes

abbrev pub line_word_text : LineWord → List ℕ
line_word_text words.Airport = codes "AIRPORT"
line_word_text words.Season = codes "SEASON"
line_word_text words.Step = codes "STEP"
line_word_text words.Flex = codes "FLEX"
line_word_text words.Ground = codes "GROUND"
line_word_text words.Share = codes "SHARE"
line_word_text words.Refuse = codes "REFUSE"
line_word_text words.Night = codes "NIGHT"
line_word_text words.Cap = codes "CAP"

abbrev pub header_text : HeaderName → List ℕ
header_text headers.Scr = codes "SCR"
header_text headers.Season = codes "SEASON"
header_text headers.Date = codes "DATE"
header_text headers.Airport = codes "AIRPORT"

abbrev pub name_text : FieldName → List ℕ
name_text fields.Word = codes "WORD"
name_text fields.Value = codes "VALUE"
name_text fields.Kind = codes "KIND"
name_text fields.Length = codes "LENGTH"
name_text fields.From = codes "FROM"
name_text fields.To = codes "TO"
name_text fields.Days = codes "DAYS"
name_text fields.Limit = codes "LIMIT"
name_text fields.Code = codes "CODE"
name_text fields.Flight = codes "FLIGHT"
name_text fields.Period = codes "PERIOD"
name_text fields.Seats = codes "SEATS"
name_text fields.Arrival = codes "ARRIVAL"
name_text fields.Departure = codes "DEPARTURE"
name_text fields.Service = codes "SERVICE"

-- with a blank before it; a bad form has no word
abbrev pub flaw_text : Flaw → List ℕ
flaw_text flaws.Form = []
flaw_text flaws.Missing = codes " MISSING"
flaw_text flaws.Before = codes " BEFORE"
flaw_text flaws.Same = codes " SAME"
flaw_text flaws.Empty = codes " EMPTY"
flaw_text flaws.Date = codes " DATE"
flaw_text flaws.Outside = codes " OUTSIDE"
flaw_text flaws.Reversed = codes " REVERSED"

abbrev pub code_text : OtherCode → List ℕ
code_text others.D = codes "D"
code_text others.A = codes "A"
code_text others.Z = codes "Z"
code_text others.Q = codes "Q"

abbrev pub cause_text : Cause → List ℕ
cause_text (causes.Most limit) = codes "MOST " ++ decimal limit
cause_text (causes.NoLine word) = codes "MISSING " ++ line_word_text word
cause_text (causes.Twice word) = codes "TWICE " ++ line_word_text word
cause_text causes.Long = codes "LONG"
cause_text causes.Blank = codes "BLANK"
cause_text (causes.Field n name flaw) =
    codes "FIELD " ++ (decimal n ++ (32 ∷ (name_text name ++ flaw_text flaw)))
cause_text (causes.End n) = codes "FIELD " ++ (decimal n ++ codes " END")
cause_text causes.Step = codes "STEP"
cause_text (causes.Header name) = codes "HEADER " ++ header_text name
cause_text causes.Unpaired = codes "UNPAIRED"
cause_text causes.OtherSeason = codes "OTHER SEASON"
cause_text causes.OtherAirport = codes "OTHER AIRPORT"
cause_text (causes.Code code) = codes "CODE " ++ code_text code
