-- Forms of the fields of a capacity file, and what is wrong with a field.
use Rattle.std.specs.Prelude.{◌≡◌, ◌⊎◌, ℕ, ◌<◌, ◌≤◌, true, List, Option, Some, None, codes}
use Rattle.std.specs.Fmt.{decimal}
use Rattle.slot_text.specs.Numbers.{IsNumber}
use Rattle.slot_text.specs.Stations.{IsStation}
use Rattle.season_days.specs.Term.{Term}
use Rattle.season_days.specs.Seasons.{season_text}
use Rattle.season_days.specs.declared.declaration.Kind.{Kind}
use Rattle.season_days.specs.declared.declaration.TheConstants.{MINUTES_OF_DAY}
use Rattle.schedule_text.specs.Times.{time_text}
use Rattle.schedule_text.specs.Days.{IsDays}
use Rattle.schedule_text.specs.Kinds.{kind_text}
use Rattle.capacity_file.specs.Values.{is_step}
use Rattle.fault_causes.specs.declared.cause.Flaw.{Flaw}
use Rattle.fault_causes.specs.declared.cause.Flaw.TheVariants as flaws
use Rattle.fault_causes.specs.declared.form.Form.{Form}
use Rattle.fault_causes.specs.declared.form.Form.TheVariants as forms

-- the text spells a minute of the day
abbrev pub SpellsMinute : List ℕ → ℕ → Type 0
SpellsMinute text minute = (minute < MINUTES_OF_DAY) × (text ≡ time_text minute)

-- the text has the form, whatever stands beside it
abbrev pub HasForm : Form → List ℕ → Type 0
HasForm forms.Airport text = IsStation text
HasForm forms.Season text = (season : Term) × (season.year < 100) × (text ≡ season_text season)
HasForm forms.Step text = (n : ℕ) × (text ≡ decimal n) × (is_step n ≡ true)
HasForm (forms.Number least most) text =
    (n : ℕ) × IsNumber text n × (least ≤ n) × (n ≤ most)
HasForm (forms.Price most) text =
    (text ≡ codes "NONE") ⊎ ((n : ℕ) × IsNumber text n × (1 ≤ n) × (n ≤ most))
HasForm forms.Kind text = (kind : Kind) × (text ≡ kind_text kind)
HasForm forms.Time text = (minute : ℕ) × SpellsMinute text minute
HasForm forms.Later text = (minute : ℕ) × SpellsMinute text minute
HasForm forms.Other text = (minute : ℕ) × SpellsMinute text minute
HasForm forms.Days text = (days : ℕ) × IsDays text days

-- a field of the form has a value that is not allowed behind the field before it
abbrev pub IsNotAllowed : Form → List ℕ → List ℕ → Flaw → Type 0
IsNotAllowed forms.Later before text flaw =
    (one two : ℕ) × SpellsMinute before one × SpellsMinute text two × (two < one)
    × (flaw ≡ flaws.Before)
IsNotAllowed forms.Other before text flaw =
    (one : ℕ) × SpellsMinute before one × SpellsMinute text one × (flaw ≡ flaws.Same)
IsNotAllowed forms.Days before text flaw = IsDays text 0 × (flaw ≡ flaws.Empty)
IsNotAllowed form before text flaw = ⊥

-- what is wrong: the form, or else the value
abbrev pub IsFlaw : Form → List ℕ → List ℕ → Option Flaw → Type 0
IsFlaw form before text None =
    HasForm form text × ((flaw : Flaw) → IsNotAllowed form before text flaw → ⊥)
IsFlaw form before text (Some flaw) =
    ((HasForm form text → ⊥) × (flaw ≡ flaws.Form))
    ⊎ (HasForm form text × IsNotAllowed form before text flaw)
