-- The line of an item that makes no unit: it is a line of the text, and begins with its code.
use Rattle.std.proofs.Common.{◌≡◌, ◌⊎◌, ℕ, zero, suc, ◌+◌, ◌-◌, ◌<◌, Bool, true, false, List, [], ◌∷◌, length, refl, sym, ap, subst, ◌∙◌, arith, inl, inr}
use Rattle.std.specs.Prelude.{Option, Some, None, Err, IsSomeAnd, slice_get, nat_lt, is_none, ◌==◌, ◌||◌, if◌then◌else◌}
use Rattle.std.specs.Option.{option_or}
use Rattle.std.proofs.lemmas.Bool.{cases_Bool, eqb-true}
use Rattle.std.proofs.lemmas.List.{take_all}
use Rattle.std.proofs.lemmas.Option.{slice_get_within, same_Some, none-some}
use Rattle.choice_problem.specs.declared.problems.TheConstants.{MOST_UNITS}
use Rattle.slot_text.specs.Lines.{onto_first}
use Rattle.slot_text.specs.Fields.{is_blank, begins_in_field, fields_of}
use Rattle.season_days.specs.Term.{Term}
use Rattle.season_days.specs.declared.declaration.Declaration.{Declaration}
use Rattle.scr_reader.specs.Parts.{code_of}
use Rattle.scr_reader.specs.Rows.{Row, remark, entry, question, line_fields, IsQuestion, IsRow, IsRowOrNone, AreRows}
use Rattle.scr_reader.specs.Shapes.{Shape, arrival, departure, turnaround, shape_of, parts_of, part_count, Agree, IsCodeAndFlight, IsLine}
use Rattle.scr_reader.specs.Messages.{Run, header_length, body_of, next_row, pair_item, line_item, place, items_of, IsMessage, AreMessages}
use Rattle.scr_reader.specs.declared.line.Code.{Code}
use Rattle.scr_reader.specs.declared.line.Code.TheVariants as codes_of
use Rattle.scr_reader.specs.declared.line.Flight.{Flight}
use Rattle.scr_reader.specs.declared.line.Line.{Line}
use Rattle.scr_reader.specs.declared.line.Stop.{Stop}
use Rattle.scr_reader.specs.declared.message.Placed.{Placed}
use Rattle.scr_reader.specs.declared.message.Message.{Message}
use Rattle.series_model.specs.Units.{placed_unit, units_of}
use Rattle.series_model.specs.Submissions.{is_season, is_station, item_fault, items_fault, message_fault, first_fault, too_many, refusal, SubmissionView, submission_of, answer_by, submission_answer}
use Rattle.series_model.specs.declared.fault.ModelFault.{ModelFault}
use Rattle.series_model.specs.declared.fault.ModelFault.TheVariants.{OtherSeason, OtherAirport, NotInitial, TooMany, Memory as no_memory}
use Rattle.fault_causes.specs.Causes.{code_text}
use Rattle.fault_causes.specs.Requests.{IsCodeCause}
use Rattle.fault_causes.specs.declared.cause.OtherCode.{OtherCode}
use Rattle.fault_causes.specs.declared.cause.OtherCode.TheVariants as others
use Rattle.fault_causes.specs.declared.cause.Cause.{Cause}
use Rattle.fault_causes.specs.declared.cause.Cause.TheVariants as causes
use Rattle.fault_causes.proofs.PlaceLemmas.{Stands, AllStand}
use Rattle.fault_causes.proofs.LineLemmas.{get_drop}

-- ---- the fault is that of an item

either : (a b : Option ModelFault) (fault : ModelFault) → option_or a b ≡ Some fault → (a ≡ Some fault) ⊎ (b ≡ Some fault)
either None b fault e = inr e
either (Some x) b fault e = inl e

same_line : (m n : ℕ) → Some (NotInitial m) ≡ Some (NotInitial n) → m ≡ n
same_line m n e = let inner : NotInitial m ≡ NotInitial n = same_Some _ _ e in cc

none_many : (units line : ℕ) → too_many units ≡ Some (NotInitial line) → ⊥
none_many units line e =
    elim (cases_Bool (nat_lt MOST_UNITS units)) [
      | inl more ↦ absurd (let many : Some (TooMany units) ≡ Some (NotInitial line) = rw more at e in cc)
      | inr few ↦ absurd (let none : None ≡ Some (NotInitial line) = rw few at e in cc)
    ]

refused : (r : Option ModelFault) (s : SubmissionView) (fault : ModelFault) → answer_by r s ≡ Err fault → r ≡ Some fault
refused None s fault e = absurd (cc)
refused (Some x) s fault e = let same : x ≡ fault = cc in ap (λ (f : ModelFault). Some f) same

of_items : (d : Declaration) (message : Message) (line : ℕ) → message_fault d message ≡ Some (NotInitial line) → items_fault message.items ≡ Some (NotInitial line)
of_items d message line e =
    elim (cases_Bool (is_season message.season d.season)) [
      | inl season ↦
          elim (cases_Bool (is_station message.airport d.airport)) [
            | inl station ↦ sym (rw (season, station) refl) ∙ e
            | inr other ↦ absurd (let stray : Some (OtherAirport (message.line + 2)) ≡ Some (NotInitial line) = sym (rw (season, other) refl) ∙ e in cc)
          ]
      | inr other ↦ absurd (let stray : Some (OtherSeason message.line) ≡ Some (NotInitial line) = sym (rw other refl) ∙ e in cc)
    ]

-- ---- rows

-- a code with which a line by itself makes no unit
abbrev Loose : Code → Type 0
Loose codes_of.N = ⊥
Loose codes_of.B = ⊥
Loose codes_of.F = ⊥
Loose codes_of.C = ⊥
Loose codes_of.R = ⊥
Loose codes_of.L = ⊥
Loose code = Unit {0}

abbrev LooseRow : Row → Type 0
LooseRow remark = ⊥
LooseRow (entry line) = Loose line.code
LooseRow (question flight) = Unit {0}

-- a row that makes no unit
record HasLoose (number line : ℕ) (rows : List (Option Row)) : Type 0 where
  k : ℕ
  row : Row
  place : line ≡ number + k
  here : slice_get rows k ≡ Some (Some row)
  loose : LooseRow row

pair_on : (number line : ℕ) (changed : Line) (next : Option Row) (rest : List Placed) → items_fault (place number (pair_item changed next) rest) ≡ Some (NotInitial line) → items_fault rest ≡ Some (NotInitial line)
pair_on number line changed None rest e = e
pair_on number line changed (Some remark) rest e = e
pair_on number line changed (Some (entry asked)) rest e = e
pair_on number line changed (Some (question flight)) rest e = e

module _ (number line : ℕ) (l : Line) (after : List (Option Row)) (rest : List Placed) where
  makes_unit : (code : Code) → l.code ≡ code → (Loose code → ⊥) → items_fault (place number (line_item code l after) rest) ≡ Some (NotInitial line) → items_fault rest ≡ Some (NotInitial line)
  makes_unit codes_of.N same some e = rw same at e
  makes_unit codes_of.B same some e = rw same at e
  makes_unit codes_of.F same some e = rw same at e
  makes_unit codes_of.C same some e = pair_on number line l (next_row after) rest e
  makes_unit codes_of.R same some e = e
  makes_unit codes_of.L same some e = e
  makes_unit codes_of.D same some e = absurd (some tt)
  makes_unit codes_of.A same some e = absurd (some tt)
  makes_unit codes_of.Z same some e = absurd (some tt)
  makes_unit codes_of.K same some e = absurd (some tt)
  makes_unit codes_of.H same some e = absurd (some tt)
  makes_unit codes_of.O same some e = absurd (some tt)
  makes_unit codes_of.U same some e = absurd (some tt)
  makes_unit codes_of.W same some e = absurd (some tt)
  makes_unit codes_of.X same some e = absurd (some tt)

  makes_none : (code : Code) → l.code ≡ code → Loose code → items_fault (place number (line_item code l after) rest) ≡ Some (NotInitial line) → number ≡ line
  makes_none codes_of.N same loose e = absurd loose
  makes_none codes_of.B same loose e = absurd loose
  makes_none codes_of.F same loose e = absurd loose
  makes_none codes_of.C same loose e = absurd loose
  makes_none codes_of.R same loose e = absurd loose
  makes_none codes_of.L same loose e = absurd loose
  makes_none codes_of.D same loose e = same_line number line (rw same at e)
  makes_none codes_of.A same loose e = same_line number line (rw same at e)
  makes_none codes_of.Z same loose e = same_line number line (rw same at e)
  makes_none codes_of.K same loose e = same_line number line (rw same at e)
  makes_none codes_of.H same loose e = same_line number line (rw same at e)
  makes_none codes_of.O same loose e = same_line number line (rw same at e)
  makes_none codes_of.U same loose e = same_line number line (rw same at e)
  makes_none codes_of.W same loose e = same_line number line (rw same at e)
  makes_none codes_of.X same loose e = same_line number line (rw same at e)

is_loose : (code : Code) → Loose code ⊎ (Loose code → ⊥)
is_loose codes_of.N = inr (λ h. h)
is_loose codes_of.B = inr (λ h. h)
is_loose codes_of.F = inr (λ h. h)
is_loose codes_of.C = inr (λ h. h)
is_loose codes_of.R = inr (λ h. h)
is_loose codes_of.L = inr (λ h. h)
is_loose codes_of.D = inl tt
is_loose codes_of.A = inl tt
is_loose codes_of.Z = inl tt
is_loose codes_of.K = inl tt
is_loose codes_of.H = inl tt
is_loose codes_of.O = inl tt
is_loose codes_of.U = inl tt
is_loose codes_of.W = inl tt
is_loose codes_of.X = inl tt

loose_on : (number line : ℕ) (row : Option Row) (rows : List (Option Row)) → HasLoose (number + 1) line rows → HasLoose number line (row ∷ rows)
loose_on number line row rows h = record { k = suc h.k; row = h.row; place = omega (arith, h.place); here = h.here; loose = h.loose }

in_rows : (number line : ℕ) (rows : List (Option Row)) → items_fault (items_of number rows) ≡ Some (NotInitial line) → HasLoose number line rows
unfolding items_of
in_rows number line [] e = absurd (cc)
in_rows number line (None ∷ rows) e = loose_on number line None rows (in_rows (number + 1) line rows e)
in_rows number line (Some remark ∷ rows) e = loose_on number line (Some remark) rows (in_rows (number + 1) line rows e)
in_rows number line (Some (question flight) ∷ rows) e = record { k = 0; row = question flight; place = omega (arith, same_line number line e); here = refl; loose = tt }
in_rows number line (Some (entry l) ∷ rows) e =
    elim (is_loose l.code) [
      | inl loose ↦ record { k = 0; row = entry l; place = omega (arith, makes_none number line l rows (items_of (number + 1) rows) l.code refl loose e); here = refl; loose = loose }
      | inr some ↦ loose_on number line (Some (entry l)) rows (in_rows (number + 1) line rows (makes_unit number line l rows (items_of (number + 1) rows) l.code refl some e))
    ]

-- ---- lines

record RowLine (season : Term) (lines : List (List ℕ)) (k : ℕ) (row : Row) : Type 0 where
  line : List ℕ
  here : slice_get lines k ≡ Some line
  is : IsRow season line row

row_line : (season : Term) (lines : List (List ℕ)) (rows : List (Option Row)) (k : ℕ) (row : Row) → AreRows season lines rows → slice_get rows k ≡ Some (Some row) → RowLine season lines k row
row_line season [] [] k row are e = absurd (cc)
row_line season [] (r ∷ rows) k row are e = absurd are
row_line season (line ∷ lines) [] k row are e = absurd are
row_line season (line ∷ lines) (r ∷ rows) zero row are e =
    let same : r ≡ Some row = same_Some _ _ e in
    record { line = line; here = refl; is = subst (λ (x : Option Row). IsRowOrNone season line x) same are.0 }
row_line season (line ∷ lines) (r ∷ rows) (suc k) row are e =
    let rest = row_line season lines rows k row are.1 e in
    record { line = rest.line; here = rest.here; is = rest.is }

-- the first field of a line, by its first byte
record FirstByte (words : List (List ℕ)) (b : ℕ) : Type 0 where
  text : List ℕ
  rest : List (List ℕ)
  is : words ≡ (b ∷ text) ∷ rest

record BeginsLine (line : List ℕ) (b : ℕ) : Type 0 where
  rest : List ℕ
  is : line ≡ b ∷ rest

onto_byte : (x b : ℕ) (words : List (List ℕ)) → FirstByte (onto_first x words) b → x ≡ b
onto_byte x b [] h = let e = h.is in cc
onto_byte x b (word ∷ words) h = let e = h.is in cc

line_begins : (line : List ℕ) (b : ℕ) → FirstByte (line_fields line) b → BeginsLine line b
unfolding fields_of
line_begins [] b h = absurd (let e = h.is in cc)
line_begins (x ∷ line) b h =
    elim (cases_Bool (is_blank x)) [
      | inl blank ↦ absurd (let e = rw blank at h.is in cc)
      | inr byte ↦
          elim (cases_Bool (begins_in_field line)) [
            | inl on ↦ let e : onto_first x (fields_of line) ≡ (b ∷ h.text) ∷ h.rest = rw (byte, on) at h.is in
                record { rest = line; is = ap (λ (y : ℕ). y ∷ line) (onto_byte x b (fields_of line) (record { text = h.text; rest = h.rest; is = e })) }
            | inr ends ↦ let e : (x ∷ []) ∷ fields_of line ≡ (b ∷ h.text) ∷ h.rest = rw (byte, ends) at h.is in
                let same : x ≡ b = cc in
                record { rest = line; is = ap (λ (y : ℕ). y ∷ line) same }
          ]
    ]

-- the code of a line is that of its first byte
record HasCode (code : Code) (words : List (List ℕ)) : Type 0 where
  b : ℕ
  first : FirstByte words b
  is : code_of b ≡ Some code

flight_code : (words : List (List ℕ)) (line : Line) (first : List ℕ) (rest : List (List ℕ)) (stop : Option Stop) → words ≡ first ∷ rest → IsSomeAnd stop (λ s. IsCodeAndFlight first line.code s.flight) → HasCode line.code words
flight_code words line first rest None e is = absurd is
flight_code words line [] rest (Some s) e is = absurd is
flight_code words line (b ∷ text) rest (Some s) e is = record { b = b; first = record { text = text; rest = rest; is = e }; is = is.0 }

agree_code : (season : Term) (shape : Shape) (words : List (List ℕ)) (line : Line) → Agree season (parts_of shape) words line → HasCode line.code words
agree_code season arrival [] line is = absurd is
agree_code season departure [] line is = absurd is
agree_code season turnaround [] line is = absurd is
agree_code season arrival (first ∷ rest) line is = flight_code (first ∷ rest) line first rest line.arrival refl is.0
agree_code season turnaround (first ∷ rest) line is = flight_code (first ∷ rest) line first rest line.arrival refl is.0
agree_code season departure ([] ∷ rest) line is = absurd is.0
agree_code season departure ((b ∷ text) ∷ rest) line is = record { b = b; first = record { text = text; rest = rest; is = refl }; is = is.0.0 }

line_code : (season : Term) (words : List (List ℕ)) (line : Line) → IsLine season words line → HasCode line.code words
line_code season words line is =
    let all = take_all (part_count words) (parts_of (shape_of words)) (omega arith) in
    agree_code season (shape_of words) words line (rw all at is.agrees.said)

-- a code that makes no unit, by its letter
record LooseByte (b : ℕ) : Type 0 where
  code : OtherCode
  is : b ∷ [] ≡ code_text code

test : (t : Bool) (x code : Code) (o : Option Code) → (if t then Some x else o) ≡ Some code → ((t ≡ true) × (x ≡ code)) ⊎ (o ≡ Some code)
test true x code o e = inl (refl, same_Some x code e)
test false x code o e = inr e

never : (x code : Code) → x ≡ code → (Loose x → ⊥) → Loose code → ⊥
never x code e none loose = none (subst Loose (sym e) loose)

abbrev from_z : ℕ → Option Code
from_z b = if b == 90 then Some codes_of.Z else None

abbrev from_a : ℕ → Option Code
from_a b = if b == 65 then Some codes_of.A else from_z b

abbrev from_d : ℕ → Option Code
from_d b = if b == 68 then Some codes_of.D else from_a b

abbrev from_l : ℕ → Option Code
from_l b = if b == 76 then Some codes_of.L else from_d b

abbrev from_r : ℕ → Option Code
from_r b = if (b == 82) || (b == 73) then Some codes_of.R else from_l b

abbrev from_c : ℕ → Option Code
from_c b = if b == 67 then Some codes_of.C else from_r b

abbrev from_f : ℕ → Option Code
from_f b = if b == 70 then Some codes_of.F else from_c b

abbrev from_b : ℕ → Option Code
from_b b = if (b == 66) || (b == 86) then Some codes_of.B else from_f b

loose_byte : (b : ℕ) (code : Code) → code_of b ≡ Some code → Loose code → LooseByte b
loose_byte b code e loose =
    elim (test ((b == 78) || (b == 89)) codes_of.N code (from_b b) e) [
      | inl at ↦ absurd (never codes_of.N code at.1 (λ h. h) loose)
      | inr e0 ↦
          elim (test ((b == 66) || (b == 86)) codes_of.B code (from_f b) e0) [
            | inl at ↦ absurd (never codes_of.B code at.1 (λ h. h) loose)
            | inr e1 ↦
                elim (test (b == 70) codes_of.F code (from_c b) e1) [
                  | inl at ↦ absurd (never codes_of.F code at.1 (λ h. h) loose)
                  | inr e2 ↦
                      elim (test (b == 67) codes_of.C code (from_r b) e2) [
                        | inl at ↦ absurd (never codes_of.C code at.1 (λ h. h) loose)
                        | inr e3 ↦
                            elim (test ((b == 82) || (b == 73)) codes_of.R code (from_l b) e3) [
                              | inl at ↦ absurd (never codes_of.R code at.1 (λ h. h) loose)
                              | inr e4 ↦
                                  elim (test (b == 76) codes_of.L code (from_d b) e4) [
                                    | inl at ↦ absurd (never codes_of.L code at.1 (λ h. h) loose)
                                    | inr e5 ↦
                                        elim (test (b == 68) codes_of.D code (from_a b) e5) [
                                          | inl at ↦ record { code = others.D; is = ap (λ (x : ℕ). x ∷ []) (eqb-true b 68 at.0) }
                                          | inr e6 ↦
                                              elim (test (b == 65) codes_of.A code (from_z b) e6) [
                                                | inl at ↦ record { code = others.A; is = ap (λ (x : ℕ). x ∷ []) (eqb-true b 65 at.0) }
                                                | inr e7 ↦
                                                    elim (test (b == 90) codes_of.Z code None e7) [
                                                      | inl at ↦ record { code = others.Z; is = ap (λ (x : ℕ). x ∷ []) (eqb-true b 90 at.0) }
                                                      | inr none ↦ absurd (none-some code none)
                                                    ]
                                              ]
                                        ]
                                  ]
                            ]
                      ]
                ]
          ]
    ]

-- the line begins with the code
pub record CodeLine (line : List ℕ) : Type 0 where
  pub cause : Cause
  pub is : IsCodeCause line cause

code_line : (line : List ℕ) (b : ℕ) → BeginsLine line b → LooseByte b → CodeLine line
code_line line b begins loose =
    record { cause = causes.Code loose.code; is = subst (λ (l : List ℕ). IsCodeCause l (causes.Code loose.code)) (sym begins.is) (loose.code, loose.is, refl) }

question_code : (line : List ℕ) (flight : Flight) (words : List (List ℕ)) → line_fields line ≡ words → IsQuestion words flight → CodeLine line
question_code line flight [] e is = absurd is
question_code line flight ([] ∷ rest) e is = absurd is.0
question_code line flight ((b ∷ text) ∷ rest) e is =
    code_line line b (line_begins line b (record { text = text; rest = rest; is = e })) (record { code = others.Q; is = ap (λ (x : ℕ). x ∷ []) is.0.0 })

row_code : (season : Term) (line : List ℕ) (row : Row) → LooseRow row → IsRow season line row → CodeLine line
row_code season line remark loose is = absurd loose
row_code season line (entry l) loose is =
    let code = line_code season (line_fields line) l is.1 in
    code_line line code.b (line_begins line code.b code.first) (loose_byte code.b l.code code.is loose)
row_code season line (question flight) loose is = question_code line flight (line_fields line) refl is.1

-- ---- the fault in its message, and in all

-- the line of a number begins with a code that makes no unit
pub record HasCodeLine (lines : List (List ℕ)) (number : ℕ) : Type 0 where
  pub line : List ℕ
  pub stands : slice_get lines (number - 1) ≡ Some line
  pub code : CodeLine line

message_code : (lines : List (List ℕ)) (run : Run) (message : Message) → ((j : ℕ) → j < length run.lines → Stands lines run j) → IsMessage run message → (number : ℕ) → items_fault message.items ≡ Some (NotInitial number) → HasCodeLine lines number
message_code lines run message stand is number e =
    let h = header_length run.lines in
    let loose = in_rows (run.number + h) number is.rows (sym (ap items_fault is.items) ∙ e) in
    let row = row_line message.season (body_of run.lines) is.rows loose.k loose.row is.read loose.here in
    let there : slice_get run.lines (h + loose.k) ≡ Some row.line = sym (get_drop h loose.k run.lines) ∙ row.here in
    let at = stand (h + loose.k) (slice_get_within run.lines (h + loose.k) row.line there) in
    let place : run.number + (h + loose.k) - 1 ≡ number - 1 = omega (arith, loose.place) in
    record {
      line = row.line;
      stands = subst (λ (n : ℕ). slice_get lines n ≡ Some row.line) place (at.same ∙ there);
      code = row_code message.season row.line loose.row loose.loose row.is;
    }

first_code : (d : Declaration) (lines : List (List ℕ)) (runs : List Run) (messages : List Message) → AllStand lines runs → AreMessages runs messages → (number : ℕ) → first_fault d messages ≡ Some (NotInitial number) → HasCodeLine lines number
first_code d lines [] [] stand are number e = absurd (cc)
first_code d lines [] (message ∷ messages) stand are number e = absurd are
first_code d lines (run ∷ runs) [] stand are number e = absurd are
first_code d lines (run ∷ runs) (message ∷ messages) stand are number e =
    elim (either (message_fault d message) (first_fault d messages) (NotInitial number) e) [
      | inl here ↦ message_code lines run message stand.0 are.0 number (of_items d message number here)
      | inr later ↦ first_code d lines runs messages stand.1 are.1 number later
    ]

pub code_of_fault : (d : Declaration) (lines : List (List ℕ)) (runs : List Run) (messages : List Message) → AllStand lines runs → AreMessages runs messages → (number : ℕ) → submission_answer d messages ≡ Err (NotInitial number) → HasCodeLine lines number
code_of_fault d lines runs messages stand are number e =
    let is = refused (refusal d messages) (submission_of d messages) (NotInitial number) e in
    elim (either (first_fault d messages) (too_many (length (units_of messages))) (NotInitial number) is) [
      | inl here ↦ first_code d lines runs messages stand are number here
      | inr many ↦ absurd (none_many (length (units_of messages)) number many)
    ]

many_memory : (units : ℕ) → too_many units ≡ Some no_memory → ⊥
many_memory units e =
    elim (cases_Bool (nat_lt MOST_UNITS units)) [
      | inl more ↦ absurd (let many : Some (TooMany units) ≡ Some no_memory = rw more at e in cc)
      | inr few ↦ absurd (let none : None ≡ Some no_memory = rw few at e in cc)
    ]

items_memory : (items : List Placed) → items_fault items ≡ Some no_memory → ⊥
items_memory [] e = absurd (cc)
items_memory (item ∷ items) e =
    elim (either (item_fault item) (items_fault items) no_memory e) [
      | inl here ↦
          elim (cases_Bool (is_none (placed_unit item))) [
            | inl none ↦ absurd (let own : Some (NotInitial item.line) ≡ Some no_memory = rw none at here in cc)
            | inr some ↦ absurd (let own : None ≡ Some no_memory = rw some at here in cc)
          ]
      | inr later ↦ items_memory items later
    ]

message_memory : (d : Declaration) (message : Message) → message_fault d message ≡ Some no_memory → ⊥
message_memory d message e =
    elim (cases_Bool (is_season message.season d.season)) [
      | inl season ↦
          elim (cases_Bool (is_station message.airport d.airport)) [
            | inl station ↦ items_memory message.items (sym (rw (season, station) refl) ∙ e)
            | inr other ↦ absurd (let stray : Some (OtherAirport (message.line + 2)) ≡ Some no_memory = sym (rw (season, other) refl) ∙ e in cc)
          ]
      | inr other ↦ absurd (let stray : Some (OtherSeason message.line) ≡ Some no_memory = sym (rw other refl) ∙ e in cc)
    ]

first_memory : (d : Declaration) (messages : List Message) → first_fault d messages ≡ Some no_memory → ⊥
first_memory d [] e = absurd (cc)
first_memory d (message ∷ messages) e =
    elim (either (message_fault d message) (first_fault d messages) no_memory e) [
      | inl here ↦ message_memory d message here
      | inr later ↦ first_memory d messages later
    ]

-- a submission never lacks memory by what its messages say
pub no_memory_fault : (d : Declaration) (messages : List Message) → submission_answer d messages ≡ Err no_memory → ⊥
no_memory_fault d messages e =
    let is = refused (refusal d messages) (submission_of d messages) no_memory e in
    elim (either (first_fault d messages) (too_many (length (units_of messages))) no_memory is) [
      | inl here ↦ first_memory d messages here
      | inr many ↦ many_memory (length (units_of messages)) many
    ]
