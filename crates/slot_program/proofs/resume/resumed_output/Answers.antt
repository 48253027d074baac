use Rattle.std.proofs.Common.{rules, ◌≡◌, ◌≤◌, ◌<◌, ◌+◌, ℕ, Bool, false, List, Some, length, map, refl, sym, ap, subst, ◌∙◌, arith}
use Rattle.std.specs.Prelude.{All, is_some, option_map}
use Rattle.std.proofs.lemmas.List.{length-map}
use Rattle.std.proofs.lemmas.Result.{err_from_is_err_and}
use Rattle.season_days.specs.Term.{Term}
use Rattle.season_days.specs.declared.declaration.Declaration.{Declaration}
use Rattle.desk_disk.specs.Disks.{DiskView}
use Rattle.holding_book.specs.declared.answer.Entry.{Entry}
use Rattle.holding_book.specs.Books.{SlotBook}
use Rattle.holding_book.specs.Histories.{IsLegal}
use Rattle.holding_book.specs.Starts.{start_book}
use Rattle.scr_reader.specs.Again.{IsFitItem}
use Rattle.scr_replies.specs.History.{history_text, HasEntryLines}
use Rattle.amend_run.specs.Amended.{FitsThroughout}
use Rattle.amend_journal.specs.Format.{IsFit}
use Rattle.amend_journal.specs.Durable.{JournalView}
use Rattle.amend_journal.specs.Told.{EndsBroken}
use Rattle.amend_journal.specs.Kept.{asks_of, book_after, KeptView, IsKept}
use Rattle.amend_journal.specs.declared.asked.Asked.{Asked}
use Rattle.amend_journal.specs.declared.asked.TheConstants.{MOST_PAIRS}
use Rattle.desk_commands.specs.declared.service_lines.TheConstants.{MOST_ENTRIES}
use Rattle.desk_commands.specs.Outside.{outside_change}
use Rattle.session_desk.specs.declared.worker.DoorWork.{DoorWork}
use Rattle.desk_commands.specs.Journals.{KeepsAsks}
use Rattle.desk_commands.specs.Opened.{IsOpened, DiskStops}
use Rattle.desk_commands.specs.Services.{IsWorker, AreWorkers, some_ended, is_memory_end, links_total}
use Rattle.desk_commands.specs.Resumed.{resumed_status, resumed_lines}
use Rattle.slot_program.proofs.ServiceLemmas.{CanAskEntry, fits_throughout}
use Rattle.slot_program.proofs.ResumeLemmas.{one_whole, broken_failed, failed_ask, is_failed, keeps_asks, no_client}
use Rattle.slot_program.proofs.resume.resumed_output.Goals as goal

-- ---- what is asked of the calls

-- In these answers `term` ties the season that is handed on to that of the submission; derefs are those
-- of the pairs, of the history, and of the works.
pub book_behind-requires-clause-fit : goal.book_behind-requires-clause-fit
book_behind-requires-clause-fit g c =
    let s = c.args.submission.now in
    let term : c.declaration.result.now.season ≡ s.declaration.season = ap (λ (d : Declaration). d.season) c.declaration.ensures.value in
    subst (λ (l : List Asked). All (IsFit s.declaration.season) l) (sym c.deref.ensures.value)
    (subst (λ (t : Term). All (IsFit t) c.in_ok-journal.pairs.items) term c.in_ok-journal.ensures.opened.2.fit)

pub book_behind-requires-clause-many : goal.book_behind-requires-clause-many
book_behind-requires-clause-many g c = subst (λ (l : List Asked). length l ≤ MOST_PAIRS) (sym c.deref.ensures.value) c.in_ok-journal.ensures.opened.2.few

pub served-requires-clause-most : goal.served-requires-clause-most
served-requires-clause-most g c =
    let all : MOST_ENTRIES ≡ MOST_PAIRS = refl in
    omega (arith, all, c.found_pairs-most.ensures.value, c.found_pairs-most.ensures.few)

pub served-requires-clause-empty : goal.served-requires-clause-empty
served-requires-clause-empty g c = λ κs lives. rw c.of-beside.ensures.whole refl

pub served-requires-clause-takes : goal.served-requires-clause-takes
unfolding start_book
served-requires-clause-takes g c = λ κs lives n ask lt fit.
    let s = c.args.submission.now in
    let term : c.declaration.result.now.season ≡ s.declaration.season = ap (λ (d : Declaration). d.season) c.declaration.ensures.value in
    let began : c.of-beside.result.began.season ≡ c.declaration.result.now.season = ap (λ (j : JournalView). j.season) c.of-beside.ensures.began ∙ c.in_ok-journal.ensures.opened.2.season_is in
    let book : c.in_ok-book.book.book.declaration.season ≡ s.declaration.season = ap (λ (d : Declaration). d.season) c.in_ok-book.ensures.declaration in
    (omega (arith, lt, c.requires.few), subst (λ (t : Term). IsFitItem t ask) (book ∙ sym (began ∙ term)) fit)

pub tell_resumed-requires-clause-lines : goal.tell_resumed-requires-clause-lines
unfolding start_book
tell_resumed-requires-clause-lines g c =
    let b = c.in_ok-book.book.book in
    let given : b.declaration.season ≡ c.args.submission.now.declaration.season = ap (λ (d : Declaration). d.season) c.in_ok-book.ensures.declaration in
    let season : b.declaration.season ≡ c.declaration.result.now.season = given ∙ sym (ap (λ (d : Declaration). d.season) c.declaration.ensures.value) in
    let all : All (HasEntryLines c.declaration.result.now.season) c.in_ok-history.history.items =
    subst (λ (t : Term). All (HasEntryLines t) c.in_ok-history.history.items) season
    (c.answer_lines.ensures.history b c.in_ok-history.history.items c.declaration-after.ensures.book c.in_ok-history.ensures.legal c.in_ok-history.ensures.asked) in
    subst (λ (l : List Entry). All (HasEntryLines c.declaration.result.now.season) l) (sym c.deref-2.ensures.value) all

-- ---- where it stops

pub returns-in_err-journal-clause-stop : goal.returns-in_err-journal-clause-stop
returns-in_err-journal-clause-stop g c =
    let term : c.declaration.result.now.season ≡ c.args.submission.now.declaration.season = ap (λ (d : Declaration). d.season) c.declaration.ensures.value in
    let p = err_from_is_err_and c.from_residual.result c.from_residual.ensures.1 in
    rw (p.1, p.2) (no_client c.args.submission.now.declaration.season (outside_change g.D.Door.view g.K.Disk.view c.args.doors.now.items c.args.disk.now c.args.doors.now.items c.opened.new.disk) c.in_err-journal.field-0.0 refl
    (subst (λ (t : Term). DiskStops t (option_map g.K.Disk.view c.args.disk.now) (option_map g.K.Disk.view c.opened.new.disk) c.in_err-journal.field-0.0) term c.in_err-journal.ensures.stop))

-- ---- what is served

pub returns-clause-served : goal.returns-clause-served
unfolding start_book
returns-clause-served g c =
    let s = c.args.submission.now in
    let term : c.declaration.result.now.season ≡ s.declaration.season = ap (λ (d : Declaration). d.season) c.declaration.ensures.value in
    let start : SlotBook = start_book s c.args.certificate.now in
    let pairs = c.in_ok-journal.pairs.items in
    let o = c.in_ok-journal.ensures.opened in
    let opened : IsOpened s.declaration.season pairs o.0 c.in_ok-journal.journal = subst (λ (t : Term). IsOpened t pairs o.0 c.in_ok-journal.journal) term o.2 in
    let after : c.in_ok-book.book.book ≡ book_after start pairs = c.in_ok-book.ensures.book ∙ ap (λ (l : List Asked). book_after start l) c.deref.ensures.value in
    let h = c.in_ok-history.history.items in
    let works = c.in_ok-history.works.items in
    let k : KeptView = c.in_ok-history.kept in
    let ds = map g.D.Door.view c.args.doors.now.items in
    let es = map g.D.Door.view c.served.new.doors.items in
    let kept : IsKept k h = c.in_ok-history.ensures.agrees in
    let began : k.began ≡ c.in_ok-journal.journal = c.in_ok-history.ensures.start ∙ c.of-beside.ensures.began in
    let count : c.of-beside.result.began.count ≡ length pairs = ap (λ (j : JournalView). j.count) c.of-beside.ensures.began ∙ o.2.count in
    let failure : c.is_some-failed.result ≡ is_some k.failure = c.is_some-failed.ensures ∙ ap is_some c.failure-failure.ensures in
    let failed : is_some (failed_ask k (asks_of h) k.failure kept.disk) ≡ is_some k.failure = is_failed k (asks_of h) k.failure kept.disk in
    let can : All (CanAskEntry start.declaration) h = subst (λ (d : Declaration). All (CanAskEntry d) h) c.in_ok-book.ensures.declaration c.in_ok-history.ensures.asked in
    let found : c.len.result ≡ length pairs = search rules in
    record {
      before = o.0;
      after = g.K.Disk.view c.into_disk.result;
      pairs = pairs;
      history = h;
      works = works;
      failed = failed_ask k (asks_of h) k.failure kept.disk;
      handed_in = o.1;
      given_back = refl {a = Some (g.K.Disk.view c.into_disk.result)};
      kept = subst (λ (e : DiskView). KeepsAsks s.declaration.season pairs (asks_of h) (failed_ask k (asks_of h) k.failure kept.disk) o.0 e) (sym c.into_disk.ensures)
          (keeps_asks s.declaration.season pairs o.0 k (subst (λ (j : JournalView). IsOpened s.declaration.season pairs o.0 j) (sym began) opened) kept.later (asks_of h) k.failure kept.disk);
      whole = one_whole start pairs h c.replays_fit.ensures.declaration c.replays_fit.ensures.book c.in_ok-book.ensures.start opened.fit
          (subst (λ (b : SlotBook). IsLegal b h) after c.in_ok-history.ensures.legal) can;
      served = record {
        one = record {
          legal = subst (λ (b : SlotBook). IsLegal b h) after c.in_ok-history.ensures.legal;
          fits = subst (λ (b : SlotBook). FitsThroughout b h) after
              (fits_throughout c.in_ok-book.book.book h c.replays_fit.ensures.declaration c.replays_fit.ensures.book c.declaration-after.ensures.book c.in_ok-history.ensures.asked);
        };
        few = subst (λ (n : ℕ). n + length h ≤ MOST_ENTRIES) count c.in_ok-history.ensures.few;
        callers = subst (λ (n : ℕ). All (λ (e : Entry). e.caller < n) h) (sym (length-map c.args.doors.now.items g.D.Door.view)) c.in_ok-history.ensures.callers;
        workers = subst (λ (b : SlotBook). AreWorkers (IsWorker EndsBroken b c.args.links h) 0 ds works es) after c.in_ok-history.ensures.workers;
        remembered = subst (λ (l : List DoorWork). some_ended is_memory_end l ≡ false) c.deref-3.ensures.value c.in_ok-output.ensures.memory;
        full = λ some. subst (λ (n : ℕ). n + length h ≡ MOST_ENTRIES) count (c.in_ok-history.ensures.full some);
      };
      broken = λ some. let b = c.in_ok-history.ensures.broken some in failed ∙ broken_failed h k.failure b.0 b.2.0 b.1 b.2.1;
      recorded_is = c.in_ok-output.ensures.recorded ∙ (ap (λ (d : Declaration). history_text d.season c.deref-2.result.now) c.declaration.ensures.value ∙ ap (λ (l : List Entry). history_text s.declaration.season l) c.deref-2.ensures.value);
      status_is = c.in_ok-output.ensures.status ∙ (ap (λ (b : Bool). resumed_status b c.deref-3.result.now) (failure ∙ sym failed) ∙ ap (λ (l : List DoorWork). resumed_status (is_some (failed_ask k (asks_of h) k.failure kept.disk)) l) c.deref-3.ensures.value);
      printed = c.in_ok-output.ensures.printed
          ∙ (ap (λ (n : ℕ). resumed_lines n (length c.deref-2.result.now) (links_total c.deref-3.result.now)) found
          ∙ (ap (λ (l : List Entry). resumed_lines (length pairs) (length l) (links_total c.deref-3.result.now)) c.deref-2.ensures.value ∙ ap (λ (l : List DoorWork). resumed_lines (length pairs) (length h) (links_total l)) c.deref-3.ensures.value));
    }
