use Rattle.std.proofs.Common.{◌≡◌, List, ℕ, true, false, sym, ◌∙◌, subst}
use Rattle.scr_reader.specs.declared.line.Line.{Line}
use Rattle.scr_reader.specs.declared.line.Flight.{Flight}
use Rattle.scr_reader.specs.Shapes.{IsLine, IsFaultyField}
use Rattle.scr_reader.specs.Rows.{is_question, IsQuestion, IsFaultyQuestion}
use Rattle.scr_reader.proofs.ReadingLemmas.{entry_reading, question_reading, bad_line_reading, bad_question_reading}
use Rattle.scr_reader.proofs.rows.read_fields.Goals as goal

pub returns-in-Ok : goal.returns-in-Ok
returns-in-Ok c =
    let flight = c.in-Ok.flight in
    let P : List (List ℕ) → Type 0 = λ cut. (is_question cut ≡ true) × IsQuestion cut flight × ((other : Flight) → IsQuestion cut other → flight ≡ other) in
    let found = subst P c.cut-fields.ensures (sym c.asks.ensures ∙ c.if-asks.true, c.in-Ok.ensures.found, c.in-Ok.ensures.same) in
    question_reading c.args.season.now c.args.line.now flight c.requires.fields c.requires.short found.0 found.1 found.2

pub returns-in-Err : goal.returns-in-Err
returns-in-Err c =
    let P : List (List ℕ) → Type 0 = λ cut. (is_question cut ≡ true) × IsFaultyQuestion cut c.in-Err.field in
    let found = subst P c.cut-fields.ensures (sym c.asks.ensures ∙ c.if-asks.true, c.in-Err.ensures.fault) in
    bad_question_reading c.args.season.now c.args.line.now c.in-Err.field c.requires.fields c.requires.short found.0 found.1

pub returns-in-Ok-read_line : goal.returns-in-Ok-read_line
returns-in-Ok-read_line c =
    let line = c.in-Ok-read_line.line in
    let P : List (List ℕ) → Type 0 = λ cut. (is_question cut ≡ false) × IsLine c.args.season.now cut line × ((other : Line) → IsLine c.args.season.now cut other → line ≡ other) in
    let found = subst P c.cut-fields.ensures (sym c.asks.ensures ∙ c.if-asks.false, c.in-Ok-read_line.ensures.found, c.in-Ok-read_line.ensures.same) in
    entry_reading c.args.season.now c.args.line.now line c.requires.fields c.requires.short found.0 found.1 found.2

pub returns-in-Err-read_line : goal.returns-in-Err-read_line
returns-in-Err-read_line c =
    let P : List (List ℕ) → Type 0 = λ cut. (is_question cut ≡ false) × IsFaultyField c.args.season.now cut c.in-Err-read_line.field in
    let found = subst P c.cut-fields.ensures (sym c.asks.ensures ∙ c.if-asks.false, c.in-Err-read_line.ensures.fault) in
    bad_line_reading c.args.season.now c.args.line.now c.in-Err-read_line.field c.requires.fields c.requires.short found.0 found.1
