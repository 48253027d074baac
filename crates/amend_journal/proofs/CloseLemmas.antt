-- What a ledger leaves of its journal at its end.
use Rattle.std.proofs.Common.{◌≡◌, ◌⊎◌, ◌≤◌, ℕ, List, [], ◌∷◌, ◌++◌, sym, ap, subst, ◌∙◌, append_assoc, inl, inr, None, Some, arith}
use Rattle.std.specs.Prelude.{Option, All, Any}
use Rattle.desk_outside.specs.Cause.{Rose}
use Rattle.turn_lock.specs.Seats.{SeatView, HasSeen}
use Rattle.holding_book.specs.declared.answer.Entry.{Entry}
use Rattle.slot_ledger.specs.Beside.{IsUnbroken}
use Rattle.amend_journal.specs.Told.{told_list, told_caller, EndsBroken}
use Rattle.amend_journal.specs.Kept.{AllKept, MayHaveOneMore, KeptView, IsDiskKept}
use Rattle.amend_journal.specs.declared.asked.Asked.{Asked}
use Rattle.amend_journal.specs.declared.told.Told.{Told}
use Rattle.amend_journal.specs.declared.told.Told.TheVariants.{Broke}
use Rattle.amend_journal.specs.declared.told.Failure.{Failure}
use Rattle.amend_journal.proofs.ToldLemmas.{no_failure, failure_is, failed_broken}

pub left_disk : (k : KeptView) (asks : List Asked) (failure : Option Failure) → IsDiskKept k asks failure → AllKept k.began k.journal.disk asks ⊎ MayHaveOneMore k.began k.journal.disk asks
left_disk k asks None h = inl h
left_disk k asks (Some failure) h = inr h.0

-- some pass has seen the whole list; where it has seen no failure there was none
pub kept_unless_seen : {O : Type 0} (k : KeptView) (asks : List Asked) (history : List Entry) (failure : Option Failure) (seats : List (SeatView O Told)) → IsDiskKept k asks failure
    → Any (λ (s : SeatView O Told). s.seen ≡ told_list history failure) seats → All (λ (s : SeatView O Told). IsUnbroken EndsBroken s.seen) seats → AllKept k.began k.journal.disk asks
kept_unless_seen k asks history None seats h whole open_ = h
kept_unless_seen k asks history (Some failure) seats h whole open_ =
    let one : IsUnbroken EndsBroken whole.1.seen = subst (λ s. IsUnbroken EndsBroken s.seen) whole.3 (open_ whole.0 whole.1 whole.2) in
    absurd ((subst (λ (xs : List Told). IsUnbroken EndsBroken xs) whole.4 one).never failure.faults (failed_broken history failure))

-- what a pass has seen of a failure
pub seen_rose : {O : Type 0} (k : KeptView) (asks : List Asked) (history : List Entry) (failure : Option Failure) (seat : SeatView O Told) → IsDiskKept k asks failure
    → HasSeen told_caller (told_list history failure) seat → (faults : ℕ) → EndsBroken seat.seen faults → Rose k.began.disk.faults faults × (faults ≤ k.journal.disk.faults)
seen_rose k asks history failure seat h seen faults ends =
    by failure h (seen.0.1 ∙ ap (λ (xs : List Told). xs ++ seen.0.0) ends.is ∙ append_assoc ends.before (Broke ends.caller faults ∷ []) seen.0.0)
  where
    by : (failure : Option Failure) → IsDiskKept k asks failure → told_list history failure ≡ ends.before ++ Broke ends.caller faults ∷ seen.0.0 → Rose k.began.disk.faults faults × (faults ≤ k.journal.disk.faults)
    by None h e = absurd (no_failure history ends.before seen.0.0 ends.caller faults e)
    by (Some f) h e =
        let same : faults ≡ k.journal.disk.faults = failure_is history f ends.before seen.0.0 ends.caller faults e ∙ h.1 in
        (subst (λ (n : ℕ). Rose k.began.disk.faults n) (sym same) h.0.rose, omega (arith, same))
