use Rattle.std.proofs.Common.{ℕ, List, ◌++◌, ap, ◌∙◌}
use Rattle.schedule_text.specs.Days.{days_text}
use Rattle.scr_reader.specs.Bytes.{three_digits}
use Rattle.scr_reader.specs.Printed.{day_text}
use Rattle.scr_reader.proofs.PutLemmas.{on_ok, middle}
use Rattle.scr_reader.proofs.print.put_middle.Goals as goal

pub returns : goal.returns
returns c =
    let season = c.args.season.now in
    let line = c.args.line.now in
    on_ok _ _ c.put-7.result (λ last. middle c.args.out.now.items (day_text season line.period.first.0) (day_text season line.period.last.0) (days_text line.period.days) (three_digits line.seats) line.craft.0
    c.put.new.out.items c.put_day.new.out.items c.put_day-2.new.out.items c.put-2.new.out.items c.put-3.new.out.items c.put-4.new.out.items c.put-5.new.out.items c.put-6.new.out.items c.put-7.new.out.items
    c.in_ok-put.ensures c.in_ok-put_day.ensures c.in_ok-put_day-2.ensures c.in_ok-put-2.ensures (c.in_ok-put-3.ensures ∙ ap (λ (t : List ℕ). c.put-2.new.out.items ++ t) c.places_of.ensures)
    c.in_ok-put-4.ensures (c.in_ok-put-5.ensures ∙ ap (λ (t : List ℕ). c.put-4.new.out.items ++ t) c.last_three.ensures) c.in_ok-put-6.ensures last) c.put-7.ensures
