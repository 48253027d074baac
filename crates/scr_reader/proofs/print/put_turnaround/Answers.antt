use Rattle.std.proofs.Common.{ℕ, [], ◌∷◌, ◌++◌, ap, ◌∙◌}
use Rattle.schedule_text.specs.Days.{days_text}
use Rattle.scr_reader.specs.Bytes.{three_digits}
use Rattle.scr_reader.specs.Printed.{code_letter, flight_text, dates_text, arrival_group_text, departure_group_text}
use Rattle.scr_reader.proofs.PutLemmas.{on_ok, turnaround}
use Rattle.scr_reader.proofs.print.put_turnaround.Goals as goal

pub returns : goal.returns
returns c =
    let season = c.args.season.now in
    let line = c.args.line.now in
    on_ok _ _ c.put-4.result (λ last. turnaround c.args.out.now.items (flight_text c.args.coming.flight) (flight_text c.args.going.flight) (dates_text season line.period) (days_text line.period.days) (three_digits line.seats ++ line.craft.0)
    (arrival_group_text c.args.coming) (departure_group_text c.args.going line.nights)
    c.put.new.out.items c.put_flight.new.out.items c.put-2.new.out.items c.put_flight-2.new.out.items c.put_middle.new.out.items c.put_arrival_group.new.out.items c.put-3.new.out.items c.put_departure_group.new.out.items c.put-4.new.out.items
    (code_letter c.args.code) c.args.coming.service c.args.going.service
    (c.in_ok-put.ensures ∙ ap (λ (x : ℕ). c.args.out.now.items ++ x ∷ []) c.letter_of.ensures) c.in_ok-put_flight.ensures c.in_ok-put-2.ensures c.in_ok-put_flight-2.ensures c.in_ok-put_middle.ensures c.in_ok-put_arrival_group.ensures
    c.in_ok-put-3.ensures c.in_ok-put_departure_group.ensures last) c.put-4.ensures
