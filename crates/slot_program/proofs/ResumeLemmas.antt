-- What was served with a journal: its pairs answered anew, the disk that it leaves, and why a worker
-- ended.
use Rattle.std.proofs.Common.{◌≡◌, ◌<◌, ℕ, true, List, [], ◌∷◌, ◌++◌, Option, Some, None, refl, sym, ap, subst, ◌∙◌, append_assoc}
use Rattle.std.specs.Prelude.{All, IfSome, is_some}
use Rattle.std.proofs.lemmas.List.Elements.{All-nil, All-cons, All-head, All-tail, All-append}
use Rattle.season_days.specs.Term.{Term}
use Rattle.season_days.specs.declared.declaration.Declaration.{Declaration}
use Rattle.scr_reader.specs.Again.{IsFitItem}
use Rattle.scr_reader.specs.declared.line.Item.{Item}
use Rattle.scr_reader.specs.declared.line.Item.TheVariants.{One, Pair, Query}
use Rattle.desk_outside.specs.Cause.{Rose}
use Rattle.desk_disk.specs.Stops.{DiskPassage, DiskStart, Agrees}
use Rattle.desk_disk.specs.Disks.{DiskView}
use Rattle.turn_lock.specs.History.{StartsWith}
use Rattle.holding_book.specs.declared.answer.Entry.{Entry}
use Rattle.holding_book.specs.Books.{SlotBook, IsBook}
use Rattle.holding_book.specs.Asks.{CanAsk, next}
use Rattle.holding_book.specs.Histories.{IsLegal}
use Rattle.amend_journal.specs.Format.{IsFit}
use Rattle.amend_journal.specs.Standing.{HasFault}
use Rattle.amend_journal.specs.Faults.{CountsFault}
use Rattle.amend_journal.specs.declared.fault.OpenFault.{OpenFault}
use Rattle.amend_journal.specs.declared.fault.OpenFault.TheVariants as openings
use Rattle.amend_journal.specs.Durable.{ReadsAs, AreDurable, MayHavePair, LeavesNoWorse, IsLaterDisk}
use Rattle.amend_journal.specs.Told.{told_list, EndsBroken}
use Rattle.amend_journal.specs.Kept.{book_after, KeptView, IsDiskKept}
use Rattle.amend_journal.specs.declared.asked.Asked.{Asked}
use Rattle.amend_journal.specs.declared.told.Told.{Told}
use Rattle.amend_journal.specs.declared.told.Told.TheVariants.{Broke}
use Rattle.amend_journal.specs.declared.told.Failure.{Failure}
use Rattle.desk_commands.specs.Amendments.{IsOneHistory}
use Rattle.desk_commands.specs.Resumed.{answered_anew}
use Rattle.desk_commands.specs.Journals.{ForFile, IsLeftWith, KeepsInTurn, KeepsAsks}
use Rattle.series_model.specs.Submissions.{SubmissionView}
use Rattle.command_words.specs.Words.{Word}
use Rattle.command_words.specs.declared.job.Job.TheVariants.{Resume}
use Rattle.desk_commands.specs.Reports.{JournalRefusal}
use Rattle.desk_commands.specs.Judgements.{NamedBytes, IsSeasonOf}
use Rattle.desk_commands.specs.Jobs.{serve_steps, IsWithoutJournal}
use Rattle.desk_commands.specs.Outside.{OutsideChange}
use Rattle.desk_commands.specs.Desk.{World}
use Rattle.desk_commands.specs.Leads.{MemoryLead}
use Rattle.desk_commands.specs.Stops.{journal_refusal}
use Rattle.desk_commands.specs.Opened.{IsOpened, DiskStops, JournalStops, open_stop}
use Rattle.desk_commands.specs.Ends.{StopsUnopened, JobStopsBy}
use Rattle.desk_commands.specs.declared.stop.Stop.{Stop}
use Rattle.desk_commands.specs.declared.stop.Stop.TheVariants as stops
use Rattle.slot_program.proofs.ServiceLemmas.{CanAskEntry, ReplayKeeps, ReplayIsBook, fits_throughout}

-- ---- pairs answered anew

can_ask : (d : Declaration) (ask : Item) → IsFitItem d.season ask → CanAsk d ask
can_ask d (One line) fit = record { spelled = fit.fits; paired = tt }
can_ask d (Pair historic request) fit = record { spelled = fit.fits; paired = fit.asked.1 }
can_ask d (Query flight) fit = record { spelled = fit.fits; paired = tt }

can_anew : (d : Declaration) (b : SlotBook) (asks : List Asked) → All (IsFit d.season) asks → All (CanAskEntry d) (answered_anew b asks)
can_anew d b [] all = All-nil (CanAskEntry d)
can_anew d b (a ∷ asks) all =
    All-cons (CanAskEntry d) _ _ (can_ask d a.ask (All-head (IsFit d.season) a asks all)) (can_anew d (next b a.ask) asks (All-tail (IsFit d.season) a asks all))

-- a history that is legal from the book after the pairs goes on with them
legal_on : (b : SlotBook) (asks : List Asked) (history : List Entry) → IsLegal (book_after b asks) history → IsLegal b (answered_anew b asks ++ history)
legal_on b [] history h = h
legal_on b (a ∷ asks) history h = (refl, legal_on (next b a.ask) asks history h)

pub one_whole : (b : SlotBook) (asks : List Asked) (history : List Entry) → ReplayKeeps → ReplayIsBook → IsBook b → All (IsFit b.declaration.season) asks
    → IsLegal (book_after b asks) history → All (CanAskEntry b.declaration) history → IsOneHistory b (answered_anew b asks ++ history)
one_whole b asks history same keeps is fit legal can = record {
  legal = legal_on b asks history legal;
  fits = fits_throughout b (answered_anew b asks ++ history) same keeps is
      (All-append (CanAskEntry b.declaration) (answered_anew b asks) history (can_anew b.declaration b asks fit) can);
}

-- ---- a put that failed

never_broke : (history : List Entry) (before later : List Told) (caller faults : ℕ) → told_list history None ≡ before ++ Broke caller faults ∷ later → ⊥
never_broke [] [] later c f e = absurd cc
never_broke [] (x ∷ xs) later c f e = absurd cc
never_broke (h ∷ history) [] later c f e = absurd cc
never_broke (h ∷ history) (x ∷ xs) later c f e = never_broke history xs later c f cc

-- a beginning of the list says that one failed, so one did
pub broken_failed : (history : List Entry) (failure : Option Failure) (seen : List Told) (faults : ℕ) → StartsWith (told_list history failure) seen → EndsBroken seen faults → is_some failure ≡ true
broken_failed history (Some failure) seen faults begins ends = refl
broken_failed history None seen faults begins ends =
    absurd (never_broke history ends.before begins.0 ends.caller faults
    (begins.1 ∙ ap (λ (l : List Told). l ++ begins.0) ends.is ∙ append_assoc ends.before (Broke ends.caller faults ∷ []) begins.0))

-- the ask of it
pub failed_ask : (k : KeptView) (asks : List Asked) (failure : Option Failure) → IsDiskKept k asks failure → Option Asked
failed_ask k asks None h = None
failed_ask k asks (Some failure) h = Some h.0.asked

pub is_failed : (k : KeptView) (asks : List Asked) (failure : Option Failure) (h : IsDiskKept k asks failure) → is_some (failed_ask k asks failure h) ≡ is_some failure
unfolding failed_ask
is_failed k asks None h = refl
is_failed k asks (Some failure) h = refl

-- ---- the disk of a journal that was opened and kept

module _ (season : Term) (pairs : List Asked) (d : DiskView) (k : KeptView) (opened : IsOpened season pairs d k.began) (later : IsLaterDisk k.began.disk k.journal.disk) where
  durable : (s : DiskStart) (file : List ℕ) → ReadsAs s d.log file → Agrees s k.journal.disk.log → AreDurable s k.began.disk.log k.began.season pairs
  durable s file reads agrees = subst (λ (t : Term). AreDurable s k.began.disk.log t pairs) (sym opened.season_is) (opened.durable s file reads (later.agrees s agrees))

  left : (asks : List Asked) (failure : Option Failure) (h : IsDiskKept k asks failure) → IsLeftWith season pairs asks (failed_ask k asks failure h) d k.journal.disk
  unfolding failed_ask
  left asks None h = (
    h.faults ∙ opened.faults,
    λ s file reads agrees. subst (λ (t : Term). AreDurable s k.journal.disk.log t (pairs ++ asks)) opened.season_is (h.durable s pairs (durable s file reads agrees) (sym opened.count)),
  )
  left asks (Some failure) h = (
    subst (λ (n : ℕ). Rose n k.journal.disk.faults) opened.faults h.0.rose,
    λ s file reads agrees. subst (λ (t : Term). MayHavePair s k.journal.disk.log t (pairs ++ asks) h.0.asked) opened.season_is (h.0.left s pairs (durable s file reads agrees) (sym opened.count)),
  )

  moments : (asks : List Asked) (failure : Option Failure) (h : IsDiskKept k asks failure)
      → ForFile d k.journal.disk (λ s file. (mid : List DiskPassage) × LeavesNoWorse s d.log mid season file × KeepsInTurn season s (failed_ask k asks failure h) mid pairs asks k.journal.disk.log)
  unfolding failed_ask
  moments asks None h = λ s file reads agrees. (
    k.began.disk.log,
    opened.images s file reads (later.agrees s agrees),
    subst (λ (t : Term). KeepsInTurn t s None k.began.disk.log pairs asks k.journal.disk.log) opened.season_is (h.moments s pairs (durable s file reads agrees) (sym opened.count)),
  )
  moments asks (Some failure) h = λ s file reads agrees. (
    k.began.disk.log,
    opened.images s file reads (later.agrees s agrees),
    subst (λ (t : Term). KeepsInTurn t s (Some h.0.asked) k.began.disk.log pairs asks k.journal.disk.log) opened.season_is (h.0.moments s pairs (durable s file reads agrees) (sym opened.count)),
  )

  pub keeps_asks : (asks : List Asked) (failure : Option Failure) (h : IsDiskKept k asks failure) → KeepsAsks season pairs asks (failed_ask k asks failure h) d k.journal.disk
  keeps_asks asks failure h = record {
    later = record {
      start = later.start ∙ opened.later.start;
      truly = λ t. later.truly (opened.later.truly t);
      agrees = λ s t. opened.later.agrees s (later.agrees s t);
    };
    fit = opened.fit;
    told = opened.told;
    found = λ s file reads agrees. opened.found s file reads (later.agrees s agrees);
    moments = moments asks failure h;
    left = left asks failure h;
  }

-- ---- where a job with a journal stops behind its steps

pub stop_resumed : (names : List Word) (links port workers : ℕ) (w v : World) (capacity requests certificate : NamedBytes) (change : OutsideChange)
    → ((why : JournalRefusal) → IsWithoutJournal (Resume names links port workers) (capacity ∷ requests ∷ certificate ∷ []) change why → StopsUnopened (Resume names links port workers) w change why v)
    → MemoryLead w (serve_steps names) v
    → (season : SubmissionView) → IsSeasonOf capacity.bytes requests.bytes season → season.declaration.season.year < 100
    → (stop : Stop) → JournalStops season.declaration.season change stop → JobStopsBy names (Resume names links port workers) w change stop v
stop_resumed names links port workers w v capacity requests certificate change refused memory season made year (stops.Unopened why) h =
    refused (journal_refusal why) (record {
      season = season.declaration.season;
      is = record { submission = season; made = made; term = refl };
      year = year;
      doors = h.0;
      refused = h.1;
    })
stop_resumed names links port workers w v capacity requests certificate change refused memory season made year stops.Memory h =
    memory
stop_resumed names links port workers w v capacity requests certificate change refused memory season made year (stops.Missing place) h = absurd h
stop_resumed names links port workers w v capacity requests certificate change refused memory season made year (stops.Large place) h = absurd h
stop_resumed names links port workers w v capacity requests certificate change refused memory season made year (stops.Unread place) h = absurd h
stop_resumed names links port workers w v capacity requests certificate change refused memory season made year (stops.Unwritten place) h = absurd h
stop_resumed names links port workers w v capacity requests certificate change refused memory season made year (stops.OutOfForm place line) h = absurd h
stop_resumed names links port workers w v capacity requests certificate change refused memory season made year (stops.OverLimit limit number) h = absurd h
stop_resumed names links port workers w v capacity requests certificate change refused memory season made year (stops.NotValid line reason) h = absurd h
stop_resumed names links port workers w v capacity requests certificate change refused memory season made year stops.NoNext h = absurd h
stop_resumed names links port workers w v capacity requests certificate change refused memory season made year (stops.ExtraFails line reason) h = absurd h
stop_resumed names links port workers w v capacity requests certificate change refused memory season made year (stops.BadForm place line cause) h = absurd h
stop_resumed names links port workers w v capacity requests certificate change refused memory season made year (stops.PastLimit limit number cause) h = absurd h

-- no client was served yet
pub no_client : (season : Term) (change : OutsideChange) (stop : Stop) → change.after.doors ≡ change.before.doors → DiskStops season change.before.disk change.after.disk stop → JournalStops season change stop
no_client season change (stops.Unopened why) same h = (same, h)
no_client season change stops.Memory same h = tt
no_client season change (stops.Missing place) same h = absurd h
no_client season change (stops.Large place) same h = absurd h
no_client season change (stops.Unread place) same h = absurd h
no_client season change (stops.Unwritten place) same h = absurd h
no_client season change (stops.OutOfForm place line) same h = absurd h
no_client season change (stops.OverLimit limit number) same h = absurd h
no_client season change (stops.NotValid line reason) same h = absurd h
no_client season change stops.NoNext same h = absurd h
no_client season change (stops.ExtraFails line reason) same h = absurd h
no_client season change (stops.BadForm place line cause) same h = absurd h
no_client season change (stops.PastLimit limit number cause) same h = absurd h

-- ---- an opening that was refused

-- by its fault, with what is said of the disk
pub record IsRefusedOpen (season : Term) (fault : OpenFault) (d e : DiskView) : Type 0 where
  pub later : IsLaterDisk d e
  pub told : IfSome d.told (λ t. HasFault season fault t.bytes)
  pub why : ForFile d e (λ s file. HasFault season fault file)
  pub images : ForFile d e (λ s file. LeavesNoWorse s d.log e.log season file)
  pub cause : CountsFault fault d.faults e.faults

pub open_stops : (season : Term) (fault : OpenFault) (d e : DiskView) → IsRefusedOpen season fault d e → DiskStops season (Some d) (Some e) (open_stop fault)
open_stops season openings.NotJournal d e h = ((h.cause, h.told, h.why), record { later = h.later; images = h.images })
open_stops season (openings.BadSlot number) d e h = ((h.cause, h.told, h.why), record { later = h.later; images = h.images })
open_stops season openings.DiskFault d e h = (h.cause, record { later = h.later; images = h.images })
open_stops season openings.Memory d e h = tt
