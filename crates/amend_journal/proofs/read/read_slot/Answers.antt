use Rattle.std.proofs.Common.{ℕ, ◌+◌, ◌*◌, [], ◌∷◌, ◌++◌, ap, ◌∙◌, arith}
use Rattle.desk_disk.specs.Stops.{read_at}
use Rattle.amend_journal.proofs.ReadLemmas.{slot_past_the_end, slot_read}
use Rattle.amend_journal.proofs.read.read_slot.Goals as goal

pub returns-then-size-place-clause-refused : goal.returns-then-size-place-clause-refused
returns-then-size-place-clause-refused g c asks read count =
    slot_past_the_end c.args.season.now (g.K.Disk.view c.args.disk.now).log c.args.size c.args.number asks c.printed_items.ensures.short read count c.requires.few c.requires.long
    (omega (arith, c.if-size-place.true, c.from.ensures))

pub returns-clause-read : goal.returns-clause-read
returns-clause-read g c asks read count =
    slot_read c.args.season.now (g.K.Disk.view c.args.disk.now).log (g.K.Disk.view c.read.new.self).log c.args.size c.args.number c.read.new.into asks c.joined_calls.ensures.read c.joined_calls.ensures.shown c.printed_items.ensures.short
    (c.in_ok-read.ensures.log ∙ ap (λ (n : ℕ). (g.K.Disk.view c.args.disk.now).log ++ read_at (17 + 256 * n) c.read.new.into ∷ []) c.from.ensures)
    (omega (arith, c.read.ensures.whole, c.requires.room)) read count (omega (arith, c.if-size-place.false, c.from.ensures))
