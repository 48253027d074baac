use Rattle.std.proofs.Common.{◌≡◌, ◌≤◌, ◌<◌, ℕ, List, false, length, map, refl, sym, ap, subst, ◌∙◌, arith}
use Rattle.std.specs.Prelude.{All}
use Rattle.std.proofs.lemmas.List.{length-map}
use Rattle.choice_problem.specs.declared.problems.TheConstants.{MOST_UNITS}
use Rattle.season_days.specs.Term.{Term}
use Rattle.season_days.specs.declared.declaration.Declaration.{Declaration}
use Rattle.series_model.specs.declared.unit.Unit.{Unit as SlotUnit}
use Rattle.holding_book.specs.declared.answer.Entry.{Entry}
use Rattle.holding_book.specs.Books.{SlotBook}
use Rattle.holding_book.specs.Histories.{IsLegal}
use Rattle.holding_book.specs.Starts.{start_book}
use Rattle.scr_replies.specs.History.{history_text, HasEntryLines}
use Rattle.amend_run.specs.Amended.{FitsThroughout}
use Rattle.session_desk.specs.declared.worker.DoorWork.{DoorWork}
use Rattle.desk_commands.specs.Services.{IsWorker, AreWorkers, never_breaks, is_memory_end, some_ended, served_status, links_total, served_lines}
use Rattle.slot_program.proofs.ServiceLemmas.{fits_throughout}
use Rattle.slot_program.proofs.serve.service_output.Goals as goal

pub served-requires-clause-holdings : goal.served-requires-clause-holdings
served-requires-clause-holdings g c =
    let s = c.args.submission.now in
    let start : SlotBook = start_book s c.args.certificate.now in
    let held : length c.in_ok-book.book.book.holdings ≡ length start.holdings = ap (λ (b : SlotBook). length b.holdings) c.in_ok-book.ensures in
    let few : length start.holdings ≤ length s.units = c.few_holdings.ensures s c.args.certificate.now in
    let units : length c.units-units.result.now ≡ length s.units = ap (λ (l : List SlotUnit). length l) c.units-units.ensures.value in
    let most : MOST_UNITS ≡ 4096 = refl in
    omega (arith, held, few, units, most, c.units-units.ensures.few)

pub tell_served-requires-clause-lines : goal.tell_served-requires-clause-lines
unfolding start_book
tell_served-requires-clause-lines g c =
    let b = c.in_ok-book.book.book in
    let given : b.declaration.season ≡ c.args.submission.now.declaration.season = ap (λ (x : SlotBook). x.declaration.season) c.in_ok-book.ensures in
    let season : b.declaration.season ≡ c.declaration.result.now.season = given ∙ sym (ap (λ (d : Declaration). d.season) c.declaration.ensures.value) in
    let all : All (HasEntryLines c.declaration.result.now.season) c.in_ok-history.history.items =
    subst (λ (t : Term). All (HasEntryLines t) c.in_ok-history.history.items) season
    (c.answer_lines.ensures.history b c.in_ok-history.history.items c.declaration-declaration.ensures.book c.in_ok-history.ensures.legal c.in_ok-history.ensures.asked) in
    subst (λ (l : List Entry). All (HasEntryLines c.declaration.result.now.season) l) (sym c.deref.ensures.value) all

pub returns-clause-served : goal.returns-clause-served
unfolding start_book
returns-clause-served g c =
    let b = c.in_ok-book.book.book in
    let start : SlotBook = start_book c.args.submission.now c.args.certificate.now in
    let same : b ≡ start = c.in_ok-book.ensures in
    let h = c.in_ok-history.history.items in
    let works = c.in_ok-history.works.items in
    let s = c.args.submission.now in
    let ds = map g.D.Door.view c.args.doors.now.items in
    let es = map g.D.Door.view c.served.new.doors.items in
    let fits : FitsThroughout b h = fits_throughout b h c.replays_fit.ensures.declaration c.replays_fit.ensures.book c.declaration-declaration.ensures.book c.in_ok-history.ensures.asked in
    record {
      history = h;
      works = works;
      served = record {
        one = record {
          legal = subst (λ (x : SlotBook). IsLegal x h) same c.in_ok-history.ensures.legal;
          fits = subst (λ (x : SlotBook). FitsThroughout x h) same fits;
        };
        few = c.in_ok-history.ensures.few;
        callers = subst (λ (n : ℕ). All (λ (e : Entry). e.caller < n) h) (sym (length-map c.args.doors.now.items g.D.Door.view)) c.in_ok-history.ensures.callers;
        workers = subst (λ (x : SlotBook). AreWorkers (IsWorker never_breaks x c.args.links h) 0 ds works es) same c.in_ok-history.ensures.workers;
        remembered = subst (λ (l : List DoorWork). some_ended is_memory_end l ≡ false) c.deref-2.ensures.value c.in_ok-output.ensures.memory;
        full = c.in_ok-history.ensures.full;
      };
      recorded_is = c.in_ok-output.ensures.recorded ∙ (ap (λ (d : Declaration). history_text d.season c.deref.result.now) c.declaration.ensures.value ∙ ap (λ (l : List Entry). history_text s.declaration.season l) c.deref.ensures.value);
      status_is = c.in_ok-output.ensures.status ∙ ap (λ (l : List DoorWork). served_status l) c.deref-2.ensures.value;
      printed = c.in_ok-output.ensures.printed ∙ (ap (λ (l : List Entry). served_lines (length l) (links_total c.deref-2.result.now)) c.deref.ensures.value ∙ ap (λ (l : List DoorWork). served_lines (length h) (links_total l)) c.deref-2.ensures.value);
    }
