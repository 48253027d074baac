use Rattle.std.proofs.Common.{refl, sym, ap, ◌∙◌}
use Rattle.std.proofs.lemmas.Bool.{ne_eqb}
use Rattle.scr_reader.specs.Streams.{before_break}
use Rattle.session_desk.proofs.HeldLemmas.{broken_after, byte_kept}
use Rattle.session_desk.proofs.pending.Pending.push.Goals as goal

pub returns-then-breaks_with-clause-progress : goal.returns-then-breaks_with-clause-progress
returns-then-breaks_with-clause-progress c text h =
    let other = ne_eqb c.args.byte 10 c.if-byte-eq10.false in
    (broken_after c.stream_laws.ensures c.args.self.now text c.args.byte h other ∙ (sym c.breaks_with.ensures ∙ c.if-breaks_with.true), ap before_break (c.stream_laws.ensures.within text c.args.byte other).0 ∙ c.stream_laws.ensures.unbroken text h.within)

pub returns-clause-progress : goal.returns-clause-progress
returns-clause-progress c text h =
    let other = ne_eqb c.args.byte 10 c.if-byte-eq10.false in
    (byte_kept c.stream_laws.ensures c.args.self.now _ text c.args.byte h other (sym c.breaks_with.ensures ∙ c.if-breaks_with.false) c.in_ok-keep.ensures.lines c.in_ok-keep.ensures.count c.in_ok-keep.ensures.line c.fills_line-full.ensures refl, (c.stream_laws.ensures.within text c.args.byte other).0)

pub returns-then-byte-eq10-clause-progress : goal.returns-then-byte-eq10-clause-progress
returns-then-byte-eq10-clause-progress c = rw c.if-byte-eq10.true c.end_line.ensures.progress
