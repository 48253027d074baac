use Rattle.std.proofs.Common.{List, ℕ, ◌++◌, ap, ◌∙◌}
use Rattle.season_days.specs.Seasons.{season_text}
use Rattle.scr_reader.specs.Parts.{date_text}
use Rattle.scr_reader.proofs.PutLemmas.{on_ok, header_put}
use Rattle.scr_reader.proofs.print.put_header.Goals as goal

pub returns : goal.returns
returns c =
    let header = c.args.header.now in
    on_ok _ _ c.put-6.result (λ last. header_put c.args.out.now.items (season_text header.season) (date_text header.month header.day) header.airport.0
    c.put.new.out.items c.put-2.new.out.items c.put-3.new.out.items c.put_date.new.out.items c.put-4.new.out.items c.put-5.new.out.items c.put-6.new.out.items
    c.in_ok-put.ensures (c.in_ok-put-2.ensures ∙ ap (λ (t : List ℕ). c.put.new.out.items ++ t) c.text.ensures.exact) c.in_ok-put-3.ensures c.in_ok-put_date.ensures c.in_ok-put-4.ensures
    c.in_ok-put-5.ensures last) c.put-6.ensures
