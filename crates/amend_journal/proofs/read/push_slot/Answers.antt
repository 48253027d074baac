use Rattle.std.proofs.Common.{get_or, List, [], ◌∷◌, refl, sym, subst}
use Rattle.std.proofs.lemmas.Slice.{pushed}
use Rattle.amend_journal.specs.Private.{HasRead}
use Rattle.amend_journal.specs.declared.asked.Asked.{Asked as AskedValue}
use Rattle.amend_journal.proofs.ReadLemmas.{slot_pushed, slot_spells_none}
use Rattle.amend_journal.proofs.read.push_slot.Goals as goal

pub returns-in_ok-push-in-Some-clause-read : goal.returns-in_ok-push-in-Some-clause-read
returns-in_ok-push-in-Some-clause-read g c =
    let season = c.args.season.now in
    let log = (g.K.Disk.view c.read_slot.new.disk).log in
    let asks = c.args.asks.now.items in
    let read = c.in_ok-read_slot.ensures.read asks c.requires.read c.requires.number in
    let spells = rw c.in-Some.is at c.in_ok-asked.ensures.found in
    let e = pushed (c.in-Some.asked ∷ []) refl c.in_ok-push-in-Some.was c.push.ensures.items in
    subst (λ (l : List AskedValue). HasRead season log c.args.size l (get_or c.read_slot.new.bytes 255 0)) (sym e)
    (slot_pushed season log c.args.size asks c.in-Some.asked c.read_slot.new.bytes c.in_ok-read_slot.ensures.room read spells)

pub returns-in-None-clause-refused : goal.returns-in-None-clause-refused
returns-in-None-clause-refused g c =
    let asks = c.args.asks.now.items in
    let read = c.in_ok-read_slot.ensures.read asks c.requires.read c.requires.number in
    slot_spells_none c.args.season.now (g.K.Disk.view c.read_slot.new.disk).log c.args.size c.args.number asks c.read_slot.new.bytes c.in_ok-read_slot.ensures.room read c.requires.number c.requires.few c.requires.long
    (λ asked spells. let one = c.in_ok-asked.ensures.only asked spells in cc (one, c.in-None.is))
