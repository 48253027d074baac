use Rattle.std.proofs.Common.{◌≡◌, ◌<◌, ◌≤◌, ◌∷◌, ℕ, List, length, codes, refl, sym, ap, ◌∙◌, subst, arith}
use Rattle.std.specs.Prelude.{All, IfSome}
use Rattle.season_days.specs.declared.declaration.Declaration.{Declaration}
use Rattle.scr_reader.specs.Streams.{messages_at_end}
use Rattle.scr_reader.specs.declared.line.Line.{Line}
use Rattle.choice_problem.specs.declared.problems.TheConstants.{MOST_UNITS}
use Rattle.holding_book.specs.declared.answer.Entry.{Entry}
use Rattle.holding_book.specs.Asks.{CanAsk}
use Rattle.holding_book.specs.Books.{SlotBook}
use Rattle.amend_run.specs.Amended.{IsFirstHeader}
use Rattle.wait_list.specs.Waiting.{waiting_lines}
use Rattle.desk_commands.specs.Judgements.{NamedBytes, waiting_limit}
use Rattle.desk_commands.specs.Reports.{Refusal, over_limit}
use Rattle.desk_commands.specs.Leads.{RefusesAlone}
use Rattle.desk_commands.specs.Reclearing.{left_waiting}
use Rattle.desk_commands.specs.declared.files.TheConstants.{LONGEST_FILE}
use Rattle.desk_commands.proofs.LeadLemmas.{by_property}
use Rattle.desk_commands.proofs.JudgementLemmas.{one_season}
use Rattle.desk_commands.proofs.WaitingLemmas.{waits_ok, waits_fault, header_of_season, accepts_waiting, refuses_waiting}
use Rattle.desk_commands.proofs.waits.judge_asks.Goals as goal

pub of-requires-clause-can : goal.of-requires-clause-can
of-requires-clause-can c =
    subst (λ (history : List Entry). All (λ (entry : Entry). CanAsk c.in_ok-amended.amended.book.book.declaration entry.ask) history) (sym c.deref.ensures.value) c.in_ok-amended.ensures.can

pub of-requires-clause-few : goal.of-requires-clause-few
of-requires-clause-few c =
    let longest : LONGEST_FILE ≡ 4194304 = refl in
    omega (arith, longest, ap (λ (history : List Entry). length history) c.deref.ensures.value, c.in_ok-amended.ensures.few)

pub returns-in-Ok-clause-left : goal.returns-in-Ok-clause-left
returns-in-Ok-clause-left c =
    let s = c.args.submission in
    let am = c.in_ok-amended.ensures in
    let history = c.in_ok-amended.amended.history.items in
    let book = c.in_ok-amended.amended.book.book in
    let w = waits_ok (waiting_lines book c.deref.result.now) c.in-Ok.waiting c.in-Ok.ensures.answer in
    let first = subst (λ (d : Declaration). IsFirstHeader d.season d.airport (messages_at_end c.args.asks.now) c.in_ok-header.header) c.declaration-declaration.ensures.value c.in_ok-header.ensures in
    record {
      history = history;
      asked = am.asked;
      only = am.only;
      one = am.one;
      book = am.book;
      waiting = w.0 ∙ (ap (waiting_lines book) c.deref.ensures.value ∙ ap (λ (b : SlotBook). waiting_lines b history) am.book);
      few = omega (arith, ap (λ (l : List Line). length l) w.0, w.1);
      spelled = c.in-Ok.ensures.spelled;
      first = first;
      of_season = subst (λ (d : Declaration). IfSome c.in_ok-header.header (λ h. h.season ≡ d.season)) (sym am.declared) (header_of_season s.declaration.season s.declaration.airport (messages_at_end c.args.asks.now) c.in_ok-header.header first);
    }

pub returns-in-Ok-clause-alone : goal.returns-in-Ok-clause-alone
returns-in-Ok-clause-alone c = λ name capacity requests proved rest season spelled alone.
    let am = c.in_ok-amended.ensures in
    let history = c.in_ok-amended.amended.history.items in
    let book = c.in_ok-amended.amended.book.book in
    let w = waits_ok (waiting_lines book c.deref.result.now) c.in-Ok.waiting c.in-Ok.ensures.answer in
    let few : length (left_waiting c.args.submission c.args.certificate.now history) ≤ MOST_UNITS =
    subst (λ (b : SlotBook). length (waiting_lines b history) ≤ MOST_UNITS) am.book (subst (λ (h : List Entry). length (waiting_lines book h) ≤ MOST_UNITS) c.deref.ensures.value w.1) in
    accepts_waiting (one_season c.one_answer.ensures.one c.one_reading.ensures.all c.one_reading.ensures.all_fault c.one_reading.ensures.all_or_fault)
    name capacity requests proved (record { name = name; bytes = c.args.asks.now }) rest c.args.submission c.args.certificate.now season spelled alone history am.asked am.only few

pub returns-in-Err-clause-stop : goal.returns-in-Err-clause-stop
returns-in-Err-clause-stop c = λ names name capacity requests proved rest season spelled alone.
    let am = c.in_ok-amended.ensures in
    let history = c.in_ok-amended.amended.history.items in
    let book = c.in_ok-amended.amended.book.book in
    let asks : NamedBytes = record { name = name; bytes = c.args.asks.now } in
    let moved = ap (λ (h : List Entry). length (waiting_lines book h)) c.deref.ensures.value ∙ ap (λ (b : SlotBook). length (waiting_lines b history)) am.book in
    by_property names _ _ c.waiting_stop.result
    (λ why is.
    let w = waits_fault (waiting_lines book c.deref.result.now) c.in-Err.fault why is c.in-Err.ensures.answer in
    let many = subst (λ (n : ℕ). MOST_UNITS < n) moved w.1 in
    subst (λ (refusal : Refusal). RefusesAlone waiting_limit name (capacity ∷ requests ∷ proved ∷ asks ∷ rest) refusal) (sym (w.0 ∙ ap (over_limit (codes "WAITING")) moved))
    (refuses_waiting (one_season c.one_answer.ensures.one c.one_reading.ensures.all c.one_reading.ensures.all_fault c.one_reading.ensures.all_or_fault)
    name capacity requests proved asks rest c.args.submission c.args.certificate.now season spelled alone history am.asked am.only many))
    (c.waiting_stop.ensures names)
