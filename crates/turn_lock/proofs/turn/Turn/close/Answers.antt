use Rattle.std.proofs.Common.{◌∙◌, length, ap, sym}
use Rattle.std.proofs.lemmas.Option.{same_Some}
use Rattle.turn_lock.proofs.Ends.{ends, there_is, left_as, all_seen, all_numbers, some_whole, as_many}
use Rattle.turn_lock.proofs.turn.Turn.close.Goals as goal

pub unreachable-requires : goal.unreachable-requires
unreachable-requires g c = let u = c.unite-last.ensures in
    let all = ap length u.callers
    ∙ (as_many g.T.Story.caller c.self.inside.table.shared.key.callers c.args.seats.items
    ∙ (c.requires.all ∙ sym (ap (λ r. r.callers) c.self.view_is))) in
    let e = ends g.T.Story.origin g.T.Story.entries g.T.Story.caller _ _ _ _ _ _ c.close_with-closed.ensures.values.2 u.seat.2 all in
    let t = there_is g.T.Story.origin g.T.Story.entries g.T.Story.caller _ _ _ _ c.take-value.result e c.take-value.ensures.value in
    c.in_default.not-Some t.0 t.1

pub returns : goal.returns
returns g c = let u = c.unite-last.ensures in
    let all = ap length u.callers
    ∙ (as_many g.T.Story.caller c.self.inside.table.shared.key.callers c.args.seats.items
    ∙ (c.requires.all ∙ sym (ap (λ r. r.callers) c.self.view_is))) in
    let e = ends g.T.Story.origin g.T.Story.entries g.T.Story.caller _ _ _ _ _ _ c.close_with-closed.ensures.values.2 u.seat.2 all in
    let t = there_is g.T.Story.origin g.T.Story.entries g.T.Story.caller _ _ _ _ c.take-value.result e c.take-value.ensures.value in
    let l = left_as g.T.Story.origin g.T.Story.entries g.T.Story.caller _ _ _ t.0 c.in-Some.value (same_Some t.0 c.in-Some.value (sym t.1 ∙ c.in-Some.is)) t.2 in record {
      origin = l.origin_is ∙ ap (λ r. r.origin) c.self.view_is;
      seen = all_seen g.T.Story.caller c.self.inside.table.shared.key.callers _ _ _ u.callers l.knows;
      callers = all_numbers g.T.Story.caller c.self.inside.table.shared.key.callers _ _ _ u.callers l.below l.each;
      whole = some_whole g.T.Story.caller c.self.inside.table.shared.key.callers _ _ _ u.callers l.knows l.whole;
    }
