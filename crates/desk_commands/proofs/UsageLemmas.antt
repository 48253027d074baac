-- The messages of a season that was read, and the header of the next season's message.
use Rattle.std.proofs.Common.{◌≡◌, ◌≢◌, ℕ, ◌<◌, ◌≤◌, List, [], ◌∷◌, length, Option, Some, None, Ok, refl, sym, ap, ◌∙◌, subst, arith}
use Rattle.std.specs.Prelude.{All}
use Rattle.std.proofs.lemmas.List.Elements.{All-head}
use Rattle.season_days.specs.Term.{Term}
use Rattle.slot_text.specs.declared.station.Station.{Station}
use Rattle.season_days.specs.declared.declaration.Declaration.{Declaration}
use Rattle.scr_reader.specs.Again.{IsAirlineMessage, HeaderFits}
use Rattle.scr_reader.specs.Messages.{ReadsAll}
use Rattle.scr_reader.specs.Printed.{LineFits}
use Rattle.scr_reader.specs.declared.header.Header.{Header}
use Rattle.scr_reader.specs.declared.line.Line.{Line}
use Rattle.scr_reader.specs.declared.message.Message.{Message}
use Rattle.series_model.specs.Submissions.{SubmissionView, submission_answer, submission_of, answer_by, refusal}
use Rattle.series_model.specs.declared.fault.ModelFault.{ModelFault}
use Rattle.cert_format.specs.declared.cert.Certificate.{Certificate}
use Rattle.holding_book.specs.declared.holding.Holding.{Holding}
use Rattle.holding_book.specs.Books.{SlotBook, IsBook}
use Rattle.holding_book.specs.Starts.{start_book}
use Rattle.usage_watch.specs.declared.operated.Operated.{Operated}
use Rattle.usage_watch.specs.NextLines.{confirmed_lines, series_in, kept_in, next_lines}
use Rattle.usage_watch.specs.NextTexts.{IsHistoric, next_messages, next_text}
use Rattle.season_days.specs.Seasons.{same_season_next_year}
use Rattle.desk_commands.specs.Usages.{dated_as, next_header, kept_lines, usage_line, IsWatched}
use Rattle.desk_commands.proofs.AmendLemmas.{start_few}

by_answer : (o : Option ModelFault) (s t : SubmissionView) → answer_by o t ≡ Ok s → s.messages ≡ t.messages
by_answer None s t e = cc
by_answer (Some fault) s t e = absurd cc

pub are_asked : (s : SubmissionView) (messages : List Message) → submission_answer s.declaration messages ≡ Ok s → All IsAirlineMessage messages → All IsAirlineMessage s.messages
are_asked s messages made are = subst (λ (l : List Message). All IsAirlineMessage l) (sym (by_answer (refusal s.declaration messages) s (submission_of s.declaration messages) made)) are

-- ---- the header

none_of : (xs : List Holding) → length xs ≤ 0 → xs ≡ []
none_of [] le = refl
none_of (x ∷ xs) le = absurd (omega (arith, le))

-- without units nothing is kept
pub none_kept : (s : SubmissionView) (c : Certificate) (reports : List Operated) → length s.units ≡ 0 → kept_lines (start_book s c) reports ≡ []
unfolding start_book
none_kept s c reports none =
    let few = start_few s c in
    let empty : (start_book s c).holdings ≡ [] = none_of (start_book s c).holdings (omega (arith, few, none)) in
    ap (λ (hs : List Holding). next_lines s.declaration.season (same_season_next_year s.declaration.season) reports (confirmed_lines hs)) empty

-- the first message's header has a spelling
first_fits : (next : Term) (airport : Station) (messages : List Message) → next.year < 100 → All IsAirlineMessage messages → messages ≢ [] → HeaderFits (dated_as next airport messages)
first_fits next airport [] few are some = absurd (some refl)
first_fits next airport (message ∷ messages) few are some =
    let header = (All-head IsAirlineMessage message messages are).header in
    record { season = few; date = header.date; airport = header.airport }

-- so does that of the next season's message, where it has a line
pub next_fits : (s : SubmissionView) (c : Certificate) (reports : List Operated) → (same_season_next_year s.declaration.season).year < 100 → (s.messages ≡ [] → length s.units ≡ 0) → All IsAirlineMessage s.messages → kept_lines (start_book s c) reports ≢ [] → HeaderFits (next_header s)
next_fits s c reports few none are some = first_fits (same_season_next_year s.declaration.season) s.declaration.airport s.messages few are (λ e. some (none_kept s c reports (none e)))

-- it is of the next season
header_season : (next : Term) (airport : Station) (messages : List Message) → (dated_as next airport messages).season ≡ next
header_season next airport [] = refl
header_season next airport (message ∷ messages) = refl

pub next_header_season : (s : SubmissionView) → (next_header s).season ≡ same_season_next_year s.declaration.season
next_header_season s = header_season (same_season_next_year s.declaration.season) s.declaration.airport s.messages

-- ---- what was found of a book, of which a declaration and holdings were handed out

abbrev pub FitsNext : Type 0
FitsNext = (season next : Term) (reports : List Operated) (held : List Holding) → All (λ (h : Holding). LineFits season h.line) held → All (IsHistoric next) (next_lines season next reports (confirmed_lines held))

module _ (b : SlotBook) (d : Declaration) (hs : List Holding) (declared : d ≡ b.declaration) (held : hs ≡ b.holdings) where
  -- its lines have a spelling
  pub held_fit : IsBook b → All (λ (h : Holding). LineFits d.season h.line) hs
  held_fit book =
      let season : d.season ≡ b.declaration.season = ap (λ (x : Declaration). x.season) declared in
      subst (λ (l : List Holding). All (λ (h : Holding). LineFits d.season h.line) l) (sym held)
      (subst (λ (t : Term). All (λ (h : Holding). LineFits t h.line) b.holdings) (sym season) book.lines)

  -- and those of the next season are historic ones
  pub all_historic : IsBook b → FitsNext → (next : Term) (reports : List Operated) (header : Header) (lines : List Line) → header.season ≡ next → lines ≡ next_lines d.season next reports (confirmed_lines hs) → All (IsHistoric header.season) lines
  all_historic book law next reports header lines season is =
      subst (λ (l : List Line). All (IsHistoric header.season) l) (sym is)
      (subst (λ (t : Term). All (IsHistoric t) (next_lines d.season next reports (confirmed_lines hs))) (sym season) (law d.season next reports hs (held_fit book)))

  module _ (start : SlotBook) (same : b ≡ start) where
    term_is : d.season ≡ start.declaration.season
    term_is = ap (λ (x : Declaration). x.season) declared ∙ ap (λ (x : SlotBook). x.declaration.season) same

    held_is : hs ≡ start.holdings
    held_is = held ∙ ap (λ (x : SlotBook). x.holdings) same

    pub series_are : series_in d.season (confirmed_lines hs) ≡ series_in start.declaration.season (confirmed_lines start.holdings)
    series_are =
        ap (λ (t : Term). series_in t (confirmed_lines hs)) term_is ∙ ap (λ (l : List Holding). series_in start.declaration.season (confirmed_lines l)) held_is

    pub kept_are : (reports : List Operated) → kept_in d.season reports (confirmed_lines hs) ≡ kept_in start.declaration.season reports (confirmed_lines start.holdings)
    kept_are reports =
        ap (λ (t : Term). kept_in t reports (confirmed_lines hs)) term_is ∙ ap (λ (l : List Holding). kept_in start.declaration.season reports (confirmed_lines l)) held_is

    pub lines_are : (next : Term) (reports : List Operated) → next ≡ same_season_next_year start.declaration.season → next_lines d.season next reports (confirmed_lines hs) ≡ kept_lines start reports
    lines_are next reports is =
        ap (λ (t : Term). next_lines t next reports (confirmed_lines hs)) term_is
        ∙ (ap (λ (n : Term). next_lines start.declaration.season n reports (confirmed_lines hs)) is
        ∙ ap (λ (l : List Holding). next_lines start.declaration.season (same_season_next_year start.declaration.season) reports (confirmed_lines l)) held_is)

-- ---- what is written and printed of it

abbrev pub ReadsNext : Type 0
ReadsNext = (header : Header) (lines : List Line) → (lines ≢ [] → HeaderFits header) → All (IsHistoric header.season) lines → ReadsAll (next_text header lines) (next_messages header lines)

module _ (s : SubmissionView) (start : SlotBook) (reports : List Operated) (header : Header) (lines : List Line) (header_is : header ≡ next_header s) (lines_is : lines ≡ kept_lines start reports) where
  written_text : next_text header lines ≡ next_text (next_header s) (kept_lines start reports)
  written_text = ap (λ (h : Header). next_text h lines) header_is ∙ ap (λ (l : List Line). next_text (next_header s) l) lines_is

  historic : All (IsHistoric header.season) lines → All (IsHistoric (next_header s).season) (kept_lines start reports)
  historic all =
      subst (λ (l : List Line). All (IsHistoric (next_header s).season) l) lines_is (subst (λ (h : Header). All (IsHistoric h.season) lines) header_is all)

  pub watched : ReadsNext → (kept_lines start reports ≢ [] → HeaderFits (next_header s)) → All (IsHistoric header.season) lines → (series kept : ℕ) (next text : List ℕ)
      → series ≡ series_in start.declaration.season (confirmed_lines start.holdings) → kept ≡ kept_in start.declaration.season reports (confirmed_lines start.holdings)
      → next ≡ next_text header lines → text ≡ usage_line series kept → IsWatched s start reports next text
  watched law fits all series kept next text series_is kept_is next_is text_is =
      let is = next_is ∙ written_text in
      record {
        written = is;
        read_again = subst (λ (l : List ℕ). ReadsAll l (next_messages (next_header s) (kept_lines start reports))) (sym is) (law (next_header s) (kept_lines start reports) fits (historic all));
        printed = text_is ∙ (ap (λ (n : ℕ). usage_line n kept) series_is ∙ ap (λ (n : ℕ). usage_line (series_in start.declaration.season (confirmed_lines start.holdings)) n) kept_is);
      }
