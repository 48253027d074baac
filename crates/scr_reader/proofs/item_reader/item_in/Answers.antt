use Rattle.std.specs.Option.{option_copied}
use Rattle.scr_reader.specs.Rows.{line_fields}
use Rattle.scr_reader.specs.declared.rows.Reading.TheVariants.{Remark, LongRemark, TooLong, Bad, Entry, Question}
use Rattle.scr_reader.proofs.FitsLemmas.{read_fits}
use Rattle.scr_reader.proofs.ItemLemmas.{question_fits}
use Rattle.scr_reader.proofs.PrintLemmas.{NamedDays}
use Rattle.scr_reader.proofs.AskedLemmas.{entry_asked}
use Rattle.scr_reader.proofs.ReadItemLemmas.{next_is, first_read, not_remark, not_none, query_read, entry_read}
use Rattle.scr_reader.proofs.item_reader.item_in.Goals as goal

pub item_from-requires-clause-fits : goal.item_from-requires-clause-fits
item_from-requires-clause-fits c = read_fits c.args.season.now c.in_ok-first.first.now c.in-Entry.line c.in-Entry.ensures.row

pub item_from-requires-clause-asked : goal.item_from-requires-clause-asked
item_from-requires-clause-asked c = entry_asked c.args.season.now c.in_ok-first.first.now c.in-Entry.line c.in-Entry.ensures.row

pub returns-in-Entry-clause-only : goal.returns-in-Entry-clause-only
returns-in-Entry-clause-only c = λ item is.
    let season = c.args.season.now in
    let text = c.args.text.now in
    let first = c.in_ok-first.first.now in
    let rest = c.next_line.new.self in
    let law : NamedDays season = λ month of_month day. c.named_days.ensures season month of_month day c.check_year.ensures in
    let after = c.next_line-in-Entry in
    let read = first_read season text c.new-lines.result first rest item (Entry c.in-Entry.line) law is c.new-lines.ensures c.in_ok-first.ensures.lines c.in-Entry.ensures in
    entry_read season text c.new-lines.result first rest item c.in-Entry.line (option_copied after.result) c.item_from.result law is c.new-lines.ensures c.in_ok-first.ensures.lines read
    (next_is rest after.new.self after.result after.ensures.none after.ensures.lines) c.item_from.ensures.one c.item_from.ensures.pair

pub returns-in-Question-clause-fits : goal.returns-in-Question-clause-fits
returns-in-Question-clause-fits c = record { asked = tt; fits = question_fits (line_fields c.in_ok-first.first.now) c.in-Question.flight c.in-Question.ensures.row.1 }

pub returns-in-Question-clause-only : goal.returns-in-Question-clause-only
returns-in-Question-clause-only c = λ item is.
    let season = c.args.season.now in
    let law : NamedDays season = λ month of_month day. c.named_days.ensures season month of_month day c.check_year.ensures in
    query_read item c.in-Question.flight (first_read season c.args.text.now c.new-lines.result c.in_ok-first.first.now c.next_line.new.self item (Question c.in-Question.flight) law is c.new-lines.ensures c.in_ok-first.ensures.lines c.in-Question.ensures)

pub returns-in-Remark-clause-only : goal.returns-in-Remark-clause-only
returns-in-Remark-clause-only c = λ item is.
    let season = c.args.season.now in
    let law : NamedDays season = λ month of_month day. c.named_days.ensures season month of_month day c.check_year.ensures in
    absurd (not_remark item (first_read season c.args.text.now c.new-lines.result c.in_ok-first.first.now c.next_line.new.self item Remark law is c.new-lines.ensures c.in_ok-first.ensures.lines c.in-Remark.ensures))

pub returns-in-LongRemark-clause-only : goal.returns-in-LongRemark-clause-only
returns-in-LongRemark-clause-only c = λ item is.
    let season = c.args.season.now in
    let law : NamedDays season = λ month of_month day. c.named_days.ensures season month of_month day c.check_year.ensures in
    absurd (not_remark item (first_read season c.args.text.now c.new-lines.result c.in_ok-first.first.now c.next_line.new.self item LongRemark law is c.new-lines.ensures c.in_ok-first.ensures.lines c.in-LongRemark.ensures))

pub returns-in-TooLong-clause-only : goal.returns-in-TooLong-clause-only
returns-in-TooLong-clause-only c = λ item is.
    let season = c.args.season.now in
    let law : NamedDays season = λ month of_month day. c.named_days.ensures season month of_month day c.check_year.ensures in
    absurd (not_none item (first_read season c.args.text.now c.new-lines.result c.in_ok-first.first.now c.next_line.new.self item TooLong law is c.new-lines.ensures c.in_ok-first.ensures.lines c.in-TooLong.ensures))

pub returns-in-Bad-clause-only : goal.returns-in-Bad-clause-only
returns-in-Bad-clause-only c = λ item is.
    let season = c.args.season.now in
    let law : NamedDays season = λ month of_month day. c.named_days.ensures season month of_month day c.check_year.ensures in
    absurd (not_none item (first_read season c.args.text.now c.new-lines.result c.in_ok-first.first.now c.next_line.new.self item (Bad c.in-Bad.field-0) law is c.new-lines.ensures c.in_ok-first.ensures.lines c.in-Bad.ensures))
