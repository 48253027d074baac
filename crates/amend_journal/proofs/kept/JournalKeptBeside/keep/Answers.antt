use Rattle.std.proofs.Common.{◌≡◌, None, refl, inr}
use Rattle.amend_journal.specs.Kept.{KeptView}
use Rattle.amend_journal.specs.declared.told.Told.TheVariants.{Broke}
use Rattle.amend_journal.proofs.ToldLemmas.{is_whole, failed_told}
use Rattle.amend_journal.proofs.KeptLemmas.{kept_put, kept_failed}
use Rattle.amend_journal.proofs.kept.JournalKeptBeside.keep.Goals as goal

pub returns-in-Ok-clause-kept : goal.returns-in-Ok-clause-kept
returns-in-Ok-clause-kept g c =
    let k : KeptView = record { began = c.self.inside.began.value; journal = c.self.inside.journal; failure = c.self.inside.failure } in
    let whole : k.failure ≡ None = is_whole k.failure (rw (← c.self.view_is) at c.requires.unbroken) in
    rw (← c.self.view_is)
    (λ history answer kept. kept_put k c.put.new.self c.in_ok-slot.slot c.args.caller c.args.ask.now history whole kept c.in_ok-slot.ensures c.joined_calls.ensures.read_back c.joined_calls.ensures.left_back
    c.put.ensures.season c.put.ensures.later c.put.ensures.moments c.in-Ok.ensures.kept c.in-Ok.ensures.count c.in-Ok.ensures.cause.kept answer)

pub returns-in-Err-clause-marks : goal.returns-in-Err-clause-marks
returns-in-Err-clause-marks g c = λ history. inr (
  Broke c.args.caller c.faults-faults.result,
  rw (is_whole c.args.self.now.failure c.requires.unbroken) (failed_told history (record { caller = c.args.caller; faults = c.faults-faults.result })),
  refl,
  refl,
)

pub returns-in-Err-clause-stays : goal.returns-in-Err-clause-stays
returns-in-Err-clause-stays g c =
    let k : KeptView = record { began = c.self.inside.began.value; journal = c.self.inside.journal; failure = c.self.inside.failure } in
    let whole : k.failure ≡ None = is_whole k.failure (rw (← c.self.view_is) at c.requires.unbroken) in
    rw (← c.self.view_is)
    (λ history kept. kept_failed k c.put.new.self c.in_ok-slot.slot c.args.caller c.args.ask.now history whole kept c.in_ok-slot.ensures c.joined_calls.ensures.read_back c.joined_calls.ensures.left_back
    c.put.ensures.season c.put.ensures.later c.put.ensures.moments c.put.ensures.left c.in-Err.ensures.unchanged c.in-Err.ensures.cause.rose
    (record { caller = c.args.caller; faults = c.faults-faults.result }) c.faults-faults.ensures)
