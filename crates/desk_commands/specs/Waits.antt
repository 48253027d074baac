-- What waits after asks, as the code has it. No clause of `desk` cites this.
use Rattle.std.specs.Prelude.{◌≡◌, ℕ, ◌≤◌, List, [], ◌∷◌, length, All, Option, IfSome, codes}
use Rattle.scr_reader.specs.Printed.{LineFits}
use Rattle.scr_reader.specs.Streams.{messages_at_end}
use Rattle.scr_reader.specs.declared.header.Header.{Header}
use Rattle.scr_reader.specs.declared.line.Line.{Line}
use Rattle.choice_problem.specs.declared.problems.TheConstants.{MOST_UNITS}
use Rattle.cert_format.specs.declared.cert.Certificate.{Certificate}
use Rattle.cert_format.specs.declared.cert.StageCert.{StageCert}
use Rattle.series_model.specs.Submissions.{SubmissionView}
use Rattle.wasg_stages.specs.Valid.{IsValid}
use Rattle.holding_book.specs.declared.answer.Entry.{Entry}
use Rattle.holding_book.specs.Books.{SlotBook}
use Rattle.holding_book.specs.Starts.{start_book}
use Rattle.amend_run.specs.Amended.{IsFirstHeader}
use Rattle.wait_list.specs.declared.fault.WaitFault.{WaitFault}
use Rattle.wait_list.specs.declared.fault.WaitFault.TheVariants as wait_fault
use Rattle.command_words.specs.Words.{Word}
use Rattle.desk_commands.specs.Amendments.{IsOneHistory}
use Rattle.desk_commands.specs.Reclearing.{IsAskedOf, last_book, left_waiting}
use Rattle.desk_commands.specs.Reports.{Refusal, over_limit}
use Rattle.desk_commands.specs.Judgements.{NamedBytes, IsSeasonOf, SpellsCert, SpellsExtra}
use Rattle.desk_commands.specs.Steps.{Step}
use Rattle.desk_commands.specs.Jobs.{waiting_steps}
use Rattle.desk_commands.specs.Desk.{World}
use Rattle.desk_commands.specs.Leads.{Leads}

-- the text spells no other certificate
abbrev pub SpellsAlone : List ℕ → Certificate → Type 0
SpellsAlone bytes c = (other : Certificate) → SpellsCert bytes other → other ≡ c

-- and no other stage
abbrev pub ExtraAlone : List ℕ → StageCert → Type 0
ExtraAlone bytes stage = (other : StageCert) → SpellsExtra bytes other → other ≡ stage

-- so many lines are left that not all may wait
abbrev pub IsWaitingRefusal : WaitFault → Refusal → Type 0
IsWaitingRefusal (wait_fault.TooMany waiting) refusal =
    refusal ≡ over_limit (codes "WAITING") waiting
IsWaitingRefusal wait_fault.Memory refusal = ⊥

-- the one history of the asks, the book after it, the lines that wait, and the header of replies
pub record IsLeftBy (s : SubmissionView) (c : Certificate) (asks : List ℕ) (b : SlotBook)
    (lines : List Line) (header : Option Header) : Type 0 where
  pub history : List Entry
  pub asked : IsAskedOf s c asks history
  pub only : (other : List Entry) → IsAskedOf s c asks other → other ≡ history
  pub one : IsOneHistory (start_book s c) history
  pub book : b ≡ last_book s c history
  pub waiting : lines ≡ left_waiting s c history
  pub few : length lines ≤ MOST_UNITS
  pub spelled : All (LineFits b.declaration.season) lines
  pub first : IsFirstHeader s.declaration.season s.declaration.airport (messages_at_end asks) header
  pub of_season : IfSome header (λ (h : Header). h.season ≡ b.declaration.season)

-- these files were read, the certificate is valid, and so many lines may wait
pub record IsLeft (w : World) (names : List Word) (s : SubmissionView) (b : SlotBook)
    (lines : List Line) (header : Option Header) (v : World) : Type 0 where
  pub capacity : NamedBytes
  pub requests : NamedBytes
  pub certificate : NamedBytes
  pub asks : NamedBytes
  pub proved : Certificate
  pub made : IsSeasonOf capacity.bytes requests.bytes s
  pub spelled : SpellsCert certificate.bytes proved
  pub alone : SpellsAlone certificate.bytes proved
  pub valid : IsValid s proved
  pub left : IsLeftBy s proved asks.bytes b lines header
  pub leads : (steps : List Step) → Leads w (waiting_steps names steps)
      (capacity ∷ requests ∷ certificate ∷ asks ∷ []) steps v
