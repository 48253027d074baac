use Rattle.std.proofs.Common.{◌⊎◌, ◌+◌, ◌*◌, ◌<◌, ℕ, [], ◌∷◌, ◌++◌, length, sym, ap, ◌∙◌, arith}
use Rattle.amend_journal.specs.Format.{IsJournalOf}
use Rattle.amend_journal.specs.Durable.{JournalView}
use Rattle.amend_journal.specs.declared.asked.TheConstants.{MOST_PAIRS}
use Rattle.amend_journal.proofs.MomentLemmas.{last_moment}
use Rattle.amend_journal.proofs.JournalLemmas.{put_moments, put_kept}
use Rattle.amend_journal.proofs.journal.Journal.put.Goals as goal

pub invariant_of-self : goal.invariant_of-self
invariant_of-self g c = (c.self.invariant.0, omega (arith, c.self.invariant.1, c.put_slot.ensures.longer))

pub invariant_of-self-2 : goal.invariant_of-self-2
invariant_of-self-2 g c =
    let few : c.self.inside.count < MOST_PAIRS = omega (arith, c.requires, ap (λ (v : JournalView). v.count) c.self.view_is) in
    (omega (arith, few), omega (arith, c.in_ok-put_slot.ensures.shown, c.from.ensures, c.bytes.ensures.whole, ap length c.bytes.ensures.bytes))

pub returns-in_err-put_slot-clause-moments : goal.returns-in_err-put_slot-clause-moments
returns-in_err-put_slot-clause-moments g c =
    let few : c.self.inside.count < MOST_PAIRS = omega (arith, c.requires, ap (λ (v : JournalView). v.count) c.self.view_is) in
    rw (← c.self.view_is)
    (λ s asks asked durable count ready.
    put_moments c.self.inside.season asks asked c.args.slot s (g.K.SlotDisk.stored c.self.inside.disk).log (g.K.SlotDisk.stored c.put_slot.new.self).log c.self.inside.count c.printed_items.ensures.short durable count few ready
    (λ block pair here slot closed. c.put_slot.ensures.moments s block pair (here ∙ ap (λ (n : ℕ). 16 + 256 * n) (sym c.from.ensures)) (c.bytes.ensures.bytes ∙ slot) closed))

pub returns-in_err-put_slot-clause-left : goal.returns-in_err-put_slot-clause-left
returns-in_err-put_slot-clause-left g c =
    let few : c.self.inside.count < MOST_PAIRS = omega (arith, c.requires, ap (λ (v : JournalView). v.count) c.self.view_is) in
    rw (← c.self.view_is)
    (λ s asks asked durable count ready.
    last_moment (λ f. IsJournalOf c.self.inside.season asks f ⊎ IsJournalOf c.self.inside.season (asks ++ asked ∷ []) f) s (g.K.SlotDisk.stored c.self.inside.disk).log (g.K.SlotDisk.stored c.put_slot.new.self).log c.joined_calls.ensures.left
    (put_moments c.self.inside.season asks asked c.args.slot s (g.K.SlotDisk.stored c.self.inside.disk).log (g.K.SlotDisk.stored c.put_slot.new.self).log c.self.inside.count c.printed_items.ensures.short durable count few ready
    (λ block pair here slot closed. c.put_slot.ensures.moments s block pair (here ∙ ap (λ (n : ℕ). 16 + 256 * n) (sym c.from.ensures)) (c.bytes.ensures.bytes ∙ slot) closed)))

pub returns-clause-moments : goal.returns-clause-moments
returns-clause-moments g c =
    let few : c.self.inside.count < MOST_PAIRS = omega (arith, c.requires, ap (λ (v : JournalView). v.count) c.self.view_is) in
    rw (← c.self.view_is)
    (λ s asks asked durable count ready.
    put_moments c.self.inside.season asks asked c.args.slot s (g.K.SlotDisk.stored c.self.inside.disk).log (g.K.SlotDisk.stored c.put_slot.new.self).log c.self.inside.count c.printed_items.ensures.short durable count few ready
    (λ block pair here slot closed. c.put_slot.ensures.moments s block pair (here ∙ ap (λ (n : ℕ). 16 + 256 * n) (sym c.from.ensures)) (c.bytes.ensures.bytes ∙ slot) closed))

pub returns-clause-left : goal.returns-clause-left
returns-clause-left g c =
    let few : c.self.inside.count < MOST_PAIRS = omega (arith, c.requires, ap (λ (v : JournalView). v.count) c.self.view_is) in
    rw (← c.self.view_is)
    (λ s asks asked durable count ready.
    last_moment (λ f. IsJournalOf c.self.inside.season asks f ⊎ IsJournalOf c.self.inside.season (asks ++ asked ∷ []) f) s (g.K.SlotDisk.stored c.self.inside.disk).log (g.K.SlotDisk.stored c.put_slot.new.self).log c.joined_calls.ensures.left
    (put_moments c.self.inside.season asks asked c.args.slot s (g.K.SlotDisk.stored c.self.inside.disk).log (g.K.SlotDisk.stored c.put_slot.new.self).log c.self.inside.count c.printed_items.ensures.short durable count few ready
    (λ block pair here slot closed. c.put_slot.ensures.moments s block pair (here ∙ ap (λ (n : ℕ). 16 + 256 * n) (sym c.from.ensures)) (c.bytes.ensures.bytes ∙ slot) closed)))

pub returns-clause-kept : goal.returns-clause-kept
returns-clause-kept g c =
    let few : c.self.inside.count < MOST_PAIRS = omega (arith, c.requires, ap (λ (v : JournalView). v.count) c.self.view_is) in
    rw (← c.self.view_is)
    (λ s asks asked durable count ready.
    put_kept c.self.inside.season asks asked c.args.slot s (g.K.SlotDisk.stored c.self.inside.disk).log (g.K.SlotDisk.stored c.put_slot.new.self).log c.self.inside.count c.printed_items.ensures.short durable count few ready
    (λ block pair here slot closed. c.in_ok-put_slot.ensures.kept s block pair (here ∙ ap (λ (n : ℕ). 16 + 256 * n) (sym c.from.ensures)) (c.bytes.ensures.bytes ∙ slot) closed))
