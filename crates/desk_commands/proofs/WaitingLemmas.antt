-- The judgements of what waits end in one way alone.
use Rattle.std.proofs.Common.{◌≡◌, ℕ, ◌<◌, ◌≤◌, List, [], ◌∷◌, length, Option, Ok, Err, refl, sym, ap, ◌∙◌, subst, arith, inl, inr}
use Rattle.std.specs.Prelude.{All, IfSome, codes}
use Rattle.season_days.specs.Term.{Term}
use Rattle.std.proofs.lemmas.Bool.{cases_lt, lt-ltb, le-ltb}
use Rattle.slot_text.specs.Forms.{IsFirstBadLine}
use Rattle.slot_text.specs.Reads.{GivesOr}
use Rattle.slot_text.specs.declared.station.Station.{Station}
use Rattle.season_days.specs.declared.declaration.Declaration.{Declaration}
use Rattle.scr_reader.specs.declared.header.Header.{Header}
use Rattle.scr_reader.specs.declared.line.Line.{Line}
use Rattle.choice_problem.specs.declared.problems.TheConstants.{MOST_UNITS}
use Rattle.series_model.specs.Submissions.{SubmissionView}
use Rattle.cert_format.specs.Forms.{IsExtraText}
use Rattle.cert_format.specs.Printable.{IsPrintableExtra}
use Rattle.cert_format.specs.declared.cert.StageCert.{StageCert}
use Rattle.cert_format.specs.declared.cert.Certificate.{Certificate}
use Rattle.cert_checker.specs.declared.verdict.Reason.{Reason}
use Rattle.holding_book.specs.declared.answer.Entry.{Entry}
use Rattle.holding_book.specs.Books.{SlotBook}
use Rattle.holding_book.specs.Asks.{CanAsk}
use Rattle.holding_book.specs.Histories.{replay}
use Rattle.holding_book.specs.Starts.{start_book}
use Rattle.amend_run.specs.Amended.{IsAskedBy, IsAmended, IsFirstHeader}
use Rattle.amend_run.specs.declared.run.Amended.{Amended as AmendedValue}
use Rattle.wait_list.specs.Waiting.{waiting_answer}
use Rattle.wait_list.specs.declared.fault.WaitFault.{WaitFault}
use Rattle.wait_list.specs.declared.fault.WaitFault.TheVariants.{TooMany, Memory as NoWaiting}
use Rattle.wait_list.specs.Claims.{IsWaitingProof, WaitingFailsAt}
use Rattle.command_words.specs.Words.{Word}
use Rattle.desk_commands.specs.Amendments.{IsOneHistory}
use Rattle.desk_commands.specs.Reports.{Refusal, out_of_form, over_limit, extra_fails}
use Rattle.desk_commands.specs.Reclearing.{IsAskedOf, last_book, left_waiting, IsWaitingOutput, IsRecleared}
use Rattle.desk_commands.specs.Judgements.{NamedBytes, IsSeasonOf, SpellsCert, SpellsExtra, waiting_limit, extra_form, valid_extra}
use Rattle.desk_commands.specs.Leads.{AcceptsAlone, RefusesAlone}
use Rattle.desk_commands.specs.Waits.{SpellsAlone, ExtraAlone, IsWaitingRefusal, IsLeftBy}
use Rattle.desk_commands.proofs.JudgementLemmas.{in_form_good, same_bad_line, same_ok, same_err, ok_err}

-- ---- laws of waiting lists

abbrev pub NeverFails : Type 0
NeverFails = (b : SlotBook) (lines : List Line) (c : StageCert) (line : ℕ) (reason : Reason) → IsPrintableExtra c → IsWaitingProof b lines c → WaitingFailsAt b lines c line reason → ⊥

abbrev pub OneFails : Type 0
OneFails = (b : SlotBook) (lines : List Line) (c : StageCert) (line other : ℕ) (reason why : Reason) → WaitingFailsAt b lines c line reason → WaitingFailsAt b lines c other why → (line ≡ other) × (reason ≡ why)

-- ---- what the calls gave

start_declared : (s : SubmissionView) (c : Certificate) → (start_book s c).declaration ≡ s.declaration
unfolding start_book
start_declared s c = refl

module _ (s : SubmissionView) (c : Certificate) (asks : List ℕ) (b : SlotBook) (same : b ≡ start_book s c) (amended : AmendedValue) (is : IsAmended b asks amended) where
  abbrev entries : List Entry
  entries = amended.history.items

  pub asked_of : IsAskedOf s c asks entries
  asked_of = record { texts = is.texts; asked = subst (λ (x : SlotBook). IsAskedBy x asks entries is.texts) same is.asked }

  pub only_of : ((history : List Entry) (texts : List (List ℕ)) → IsAskedBy b asks history texts → entries ≡ history) → (other : List Entry) → IsAskedOf s c asks other → other ≡ entries
  only_of law other from = sym (law other from.texts (subst (λ (x : SlotBook). IsAskedBy x asks other from.texts) (sym same) from.asked))

  pub one_of : IsOneHistory (start_book s c) entries
  one_of = subst (λ (x : SlotBook). IsOneHistory x entries) same (record { legal = is.asked.legal; fits = is.fits })

  pub book_of : amended.book.book ≡ last_book s c entries
  book_of = is.book ∙ ap (λ (x : SlotBook). replay x entries) same

  module _ (kept : (x : SlotBook) (history : List Entry) → (replay x history).declaration ≡ x.declaration) where
    own_declared : amended.book.book.declaration ≡ b.declaration
    own_declared = ap (λ (x : SlotBook). x.declaration) is.book ∙ kept b entries

    pub declared_of : amended.book.book.declaration ≡ s.declaration
    declared_of = own_declared ∙ (ap (λ (x : SlotBook). x.declaration) same ∙ start_declared s c)

    pub can_of : All (λ (entry : Entry). CanAsk amended.book.book.declaration entry.ask) entries
    can_of = subst (λ (d : Declaration). All (λ (entry : Entry). CanAsk d entry.ask) entries) (sym own_declared) is.can

-- ---- how many wait

not_memory : (e : WaitFault) (n : ℕ) → e ≡ TooMany n → e ≡ NoWaiting → ⊥
not_memory e n is memory = cc

same_many : (e : WaitFault) (n m : ℕ) → e ≡ TooMany n → e ≡ TooMany m → n ≡ m
same_many e n m is other = cc

module _ (lines : List Line) where
  all_kept : length lines ≤ MOST_UNITS → waiting_answer lines ≡ Ok lines
  all_kept few = rw (le-ltb MOST_UNITS (length lines) few) refl

  too_many : MOST_UNITS < length lines → waiting_answer lines ≡ Err (TooMany (length lines))
  too_many many = rw (lt-ltb MOST_UNITS (length lines) many) refl

  pub waits_ok : (waiting : List Line) → GivesOr NoWaiting (Ok waiting) (waiting_answer lines) → (waiting ≡ lines) × (length lines ≤ MOST_UNITS)
  waits_ok waiting (inr e) = absurd (ok_err (Ok waiting) waiting NoWaiting refl e)
  waits_ok waiting (inl e) =
      elim (cases_lt MOST_UNITS (length lines)) [
        | inl many ↦ absurd (ok_err (waiting_answer lines) waiting (TooMany (length lines)) (sym e) (too_many many))
        | inr few ↦ (same_ok (waiting_answer lines) lines waiting (all_kept few) (sym e), few)
      ]

  waits_many : (e : WaitFault) (n : ℕ) → e ≡ TooMany n → GivesOr NoWaiting (Err e) (waiting_answer lines) → (n ≡ length lines) × (MOST_UNITS < length lines)
  waits_many e n is (inr same) = absurd (not_memory e n is (same_err (Err e) NoWaiting e same refl))
  waits_many e n is (inl same) =
      elim (cases_lt MOST_UNITS (length lines)) [
        | inl many ↦ (same_many e n (length lines) is (same_err (waiting_answer lines) (TooMany (length lines)) e (too_many many) (sym same)), many)
        | inr few ↦ absurd (ok_err (waiting_answer lines) lines e (all_kept few) (sym same))
      ]

  pub waits_fault : (e : WaitFault) (why : Refusal) → IsWaitingRefusal e why → GivesOr NoWaiting (Err e) (waiting_answer lines) → (why ≡ over_limit (codes "WAITING") (length lines)) × (MOST_UNITS < length lines)
  waits_fault (TooMany n) why is given = let w = waits_many (TooMany n) n refl given in (is ∙ ap (over_limit (codes "WAITING")) w.0, w.1)
  waits_fault NoWaiting why is given = absurd is

-- ---- the header of replies is of the season

pub header_of_season : (season : Term) (airport : Station) (messages : List (List (List ℕ))) (header : Option Header) → IsFirstHeader season airport messages header → IfSome header (λ h. h.season ≡ season)
header_of_season season airport [] header is = subst (λ (o : Option Header). IfSome o (λ h. h.season ≡ season)) (sym is) tt
header_of_season season airport (lines ∷ messages) header (inl (message, good, is)) = subst (λ (o : Option Header). IfSome o (λ h. h.season ≡ season)) (sym is) good.of_season
header_of_season season airport (lines ∷ messages) header (inr (line, bad, rest)) = header_of_season season airport messages header rest

-- ---- the judgements

module _ (one_season : (capacity requests : List ℕ) (s t : SubmissionView) → IsSeasonOf capacity requests s → IsSeasonOf capacity requests t → t ≡ s)
    (name : Word) (capacity requests proved asks : NamedBytes) (rest : List NamedBytes) (s : SubmissionView) (c : Certificate) (season : IsSeasonOf capacity.bytes requests.bytes s) (spelled : SpellsCert proved.bytes c) (alone : SpellsAlone proved.bytes c)
    (history : List Entry) (asked : IsAskedOf s c asks.bytes history) (only : (other : List Entry) → IsAskedOf s c asks.bytes other → other ≡ history) where
  abbrev files : List NamedBytes
  files = capacity ∷ requests ∷ proved ∷ asks ∷ rest

  -- what is said of another season, certificate and history of these files is said of these
  moved : (P : SubmissionView → Certificate → List Entry → Type 0) (t : SubmissionView) (d : Certificate) (other : List Entry) → IsSeasonOf capacity.bytes requests.bytes t → SpellsCert proved.bytes d
      → IsAskedOf t d asks.bytes other → P t d other → P s c history
  moved P t d other there spells is h =
      let same_season : t ≡ s = one_season capacity.bytes requests.bytes s t season there in
      let same_cert : d ≡ c = alone d spells in
      let is_s : IsAskedOf s d asks.bytes other = subst (λ (x : SubmissionView). IsAskedOf x d asks.bytes other) same_season is in
      let is_c : IsAskedOf s c asks.bytes other = subst (λ (x : Certificate). IsAskedOf s x asks.bytes other) same_cert is_s in
      let same_history : other ≡ history = only other is_c in
      subst (λ (x : List Entry). P s c x) same_history (subst (λ (x : Certificate). P s x other) same_cert (subst (λ (x : SubmissionView). P x d other) same_season h))

  abbrev count : SubmissionView → Certificate → List Entry → ℕ
  count t d other = length (left_waiting t d other)

  pub accepts_waiting : count s c history ≤ MOST_UNITS → AcceptsAlone waiting_limit name files
  accepts_waiting few = record {
    accepts = (s, c, history, season, spelled, asked, few);
    alone = λ refusal (t, d, other, there, spells, is, many, e).
        let here : MOST_UNITS < count s c history = moved (λ x y z. MOST_UNITS < count x y z) t d other there spells is many in omega (arith, few, here);
  }

  pub refuses_waiting : MOST_UNITS < count s c history → RefusesAlone waiting_limit name files (over_limit (codes "WAITING") (count s c history))
  refuses_waiting many = record {
    refuses = (s, c, history, season, spelled, asked, many, refl);
    alone = λ why (t, d, other, there, spells, is, much, e). moved (λ x y z. why ≡ over_limit (codes "WAITING") (count x y z)) t d other there spells is e;
    rejects = λ (t, d, other, there, spells, is, few).
        let here : count s c history ≤ MOST_UNITS = moved (λ x y z. count x y z ≤ MOST_UNITS) t d other there spells is few in omega (arith, many, here);
  }

module _ (one_season : (capacity requests : List ℕ) (s t : SubmissionView) → IsSeasonOf capacity requests s → IsSeasonOf capacity requests t → t ≡ s)
    (name : Word) (capacity requests proved asks extra : NamedBytes) (rest : List NamedBytes) (s : SubmissionView) (c : Certificate) (season : IsSeasonOf capacity.bytes requests.bytes s) (spelled : SpellsCert proved.bytes c) (alone : SpellsAlone proved.bytes c)
    (history : List Entry) (asked : IsAskedOf s c asks.bytes history) (only : (other : List Entry) → IsAskedOf s c asks.bytes other → other ≡ history)
    (stage : StageCert) (said : SpellsExtra extra.bytes stage) (said_alone : ExtraAlone extra.bytes stage) (printable : IsPrintableExtra stage) where
  abbrev five : List NamedBytes
  five = capacity ∷ requests ∷ proved ∷ asks ∷ extra ∷ rest

  all_moved : (P : SubmissionView → Certificate → List Entry → StageCert → Type 0) (t : SubmissionView) (d : Certificate) (other : List Entry) (x : StageCert) → IsSeasonOf capacity.bytes requests.bytes t → SpellsCert proved.bytes d
      → IsAskedOf t d asks.bytes other → SpellsExtra extra.bytes x → P t d other x → P s c history stage
  all_moved P t d other x there spells is says h =
      let same_season : t ≡ s = one_season capacity.bytes requests.bytes s t season there in
      let same_cert : d ≡ c = alone d spells in
      let is_s : IsAskedOf s d asks.bytes other = subst (λ (y : SubmissionView). IsAskedOf y d asks.bytes other) same_season is in
      let is_c : IsAskedOf s c asks.bytes other = subst (λ (y : Certificate). IsAskedOf s y asks.bytes other) same_cert is_s in
      let same_history : other ≡ history = only other is_c in
      let same_stage : x ≡ stage = said_alone x says in
      subst (λ (y : StageCert). P s c history y) same_stage
      (subst (λ (y : List Entry). P s c y x) same_history (subst (λ (y : Certificate). P s y other x) same_cert (subst (λ (y : SubmissionView). P y d other x) same_season h)))

  abbrev Proves : SubmissionView → Certificate → List Entry → StageCert → Type 0
  Proves t d other x = IsWaitingProof (last_book t d other) (left_waiting t d other) x

  abbrev Fails : ℕ → Reason → SubmissionView → Certificate → List Entry → StageCert → Type 0
  Fails line reason t d other x = WaitingFailsAt (last_book t d other) (left_waiting t d other) x line reason

  pub accepts_extra : NeverFails → Proves s c history stage → AcceptsAlone valid_extra name five
  accepts_extra never proof = record {
    accepts = (s, c, history, stage, season, spelled, asked, said, proof);
    alone = λ refusal (t, d, other, x, line, reason, there, spells, is, says, fails, e).
        never (last_book s c history) (left_waiting s c history) stage line reason printable proof (all_moved (Fails line reason) t d other x there spells is says fails);
  }

  pub refuses_extra : NeverFails → OneFails → (line : ℕ) (reason : Reason) → Fails line reason s c history stage → RefusesAlone valid_extra name five (extra_fails line reason)
  refuses_extra never one line reason fails = record {
    refuses = (s, c, history, stage, line, reason, season, spelled, asked, said, fails, refl);
    alone = λ why (t, d, other, x, n, because, there, spells, is, says, also, e).
        let same = one (last_book s c history) (left_waiting s c history) stage n line because reason (all_moved (Fails n because) t d other x there spells is says also) fails in
        e ∙ ap (λ (k : ℕ). extra_fails k because) same.0 ∙ ap (extra_fails line) same.1;
    rejects = λ (t, d, other, x, there, spells, is, says, proof).
        never (last_book s c history) (left_waiting s c history) stage line reason printable (all_moved Proves t d other x there spells is says proof) fails;
  }

-- ---- the form of one more stage

pub accepts_stage : (name : Word) (capacity requests proved asks : NamedBytes) (bytes : List ℕ) (rest : List NamedBytes) (stage : StageCert) → SpellsExtra bytes stage
    → AcceptsAlone extra_form name (capacity ∷ requests ∷ proved ∷ asks ∷ record { name = name; bytes = bytes } ∷ rest)
accepts_stage name capacity requests proved asks bytes rest stage said =
    record { accepts = (stage, said); alone = λ why (line, bad, e). in_form_good IsExtraText bytes line (stage, said.has_spelling, said.spelled) bad }

pub refuses_stage : (name : Word) (capacity requests proved asks : NamedBytes) (bytes : List ℕ) (rest : List NamedBytes) (line : ℕ) → IsFirstBadLine IsExtraText bytes line
    → RefusesAlone extra_form name (capacity ∷ requests ∷ proved ∷ asks ∷ record { name = name; bytes = bytes } ∷ rest) (out_of_form name line)
refuses_stage name capacity requests proved asks bytes rest line bad =
    record {
      refuses = (line, bad, refl);
      alone = λ other (n, there, e). e ∙ ap (out_of_form name) (same_bad_line IsExtraText bytes n line there bad);
      rejects = λ (stage, said). in_form_good IsExtraText bytes line (stage, said.has_spelling, said.spelled) bad;
    }

-- ---- what is written

pub recleared_of : (s : SubmissionView) (c : Certificate) (asks : List ℕ) (b : SlotBook) (lines : List Line) (header : Option Header) (nodes : ℕ) (extra replies : List ℕ) (status : ℕ) (text : List ℕ) → IsLeftBy s c asks b lines header
    → IsWaitingOutput b lines header nodes extra replies status text → IsRecleared s c asks nodes extra replies status text
recleared_of s c asks b lines header nodes extra replies status text left output = record {
  history = left.history;
  header = header;
  asked = left.asked;
  one = left.one;
  first = left.first;
  few = subst (λ (l : List Line). length l ≤ MOST_UNITS) left.waiting left.few;
  output = subst (λ (x : SlotBook). IsWaitingOutput x (left_waiting s c left.history) header nodes extra replies status text) left.book
      (subst (λ (l : List Line). IsWaitingOutput b l header nodes extra replies status text) left.waiting output);
}

-- a property of the book and the lines that are left is one of what the history leaves
pub of_left : (P : SlotBook → List Line → Type 0) (s : SubmissionView) (c : Certificate) (asks : List ℕ) (b : SlotBook) (lines : List Line) (header : Option Header) (left : IsLeftBy s c asks b lines header) → P b lines
    → P (last_book s c left.history) (left_waiting s c left.history)
of_left P s c asks b lines header left h =
    subst (λ (x : SlotBook). P x (left_waiting s c left.history)) left.book (subst (λ (l : List Line). P b l) left.waiting h)
