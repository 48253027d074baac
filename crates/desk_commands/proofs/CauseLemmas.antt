-- Why files are refused, with the cause: each judgement ends in one way alone.
use Rattle.std.specs.Prelude.{◌⊎◌}
use Rattle.std.proofs.Common.{◌≡◌, ℕ, List, ◌∷◌, length, Result, Ok, Err, refl, sym, ap, ◌∙◌, subst, inl, inr}
use Rattle.slot_text.specs.Lines.{lines_of}
use Rattle.season_days.specs.declared.declaration.Declaration.{Declaration}
use Rattle.capacity_file.specs.Declares.{IsCapacityFile}
use Rattle.capacity_file.specs.Faults.{HasCapacityFault}
use Rattle.capacity_file.specs.declared.fault.CapFault.{CapFault}
use Rattle.scr_reader.specs.Messages.{ReadsAll, HasScrFault}
use Rattle.scr_reader.specs.declared.message.Message.{Message}
use Rattle.scr_reader.specs.declared.fault.ScrFault.{ScrFault}
use Rattle.series_model.specs.Submissions.{SubmissionView, submission_answer}
use Rattle.series_model.specs.declared.fault.ModelFault.{ModelFault}
use Rattle.series_model.specs.declared.fault.ModelFault.TheVariants as model_fault
use Rattle.command_words.specs.Words.{Word}
use Rattle.fault_causes.specs.Capacities.{IsCapacityCause}
use Rattle.fault_causes.specs.Requests.{IsMessageCause, IsSubmissionCause, HasSubmissionFault}
use Rattle.fault_causes.specs.declared.cause.Cause.{Cause}
use Rattle.desk_commands.specs.Reports.{Refusal, with_cause}
use Rattle.desk_commands.specs.Judgements.{NamedBytes, IsSeasonOf, capacity_cause, requests_cause, IsCapacityRefusal, IsMessageRefusal, IsSubmissionRefusal, CausesMessage, CausesSubmission}
use Rattle.desk_commands.specs.Leads.{AcceptsAlone, RefusesAlone}
use Rattle.desk_commands.specs.Stops.{IsRefusalBy, IsJudged, caused}
use Rattle.desk_commands.specs.declared.stop.Limit.{Limit}
use Rattle.desk_commands.specs.declared.stop.Stop.{Stop}
use Rattle.desk_commands.specs.declared.stop.Stop.TheVariants as stops
use Rattle.desk_commands.proofs.LeadLemmas.{by_property}
use Rattle.desk_commands.proofs.JudgementLemmas.{one_capacity_refusal, one_message_refusal, one_submission_refusal, same_answer, same_err, ok_err}

-- the refusal of which this is the same with its cause has the property; only refusals of a form or
-- of a limit have one
abbrev pub WithCause : (Refusal → Type 0) → Cause → Refusal → Type 0
WithCause Has cause refusal = (plain : Refusal) × Has plain × (refusal ≡ with_cause plain cause)

pub caused_by : (names : List Word) (Has : Refusal → Type 0) (stop : Stop) (cause : Cause) → IsRefusalBy names Has stop → IsRefusalBy names (WithCause Has cause) (caused stop cause)
caused_by names Has (stops.Missing place) cause h = absurd h
caused_by names Has (stops.Large place) cause h = absurd h
caused_by names Has (stops.Unread place) cause h = absurd h
caused_by names Has (stops.Unwritten place) cause h = absurd h
caused_by names Has (stops.OutOfForm place line) cause h = (_, h, refl)
caused_by names Has (stops.OverLimit limit number) cause h = (_, h, refl)
caused_by names Has (stops.NotValid line reason) cause h = (_, h, refl)
caused_by names Has (stops.Unopened why) cause h = absurd h
caused_by names Has stops.NoNext cause h = (_, h, refl)
caused_by names Has (stops.ExtraFails line reason) cause h = (_, h, refl)
caused_by names Has (stops.BadForm place line own) cause h = (_, h, refl)
caused_by names Has (stops.PastLimit limit number own) cause h = (_, h, refl)
caused_by names Has stops.Memory cause h = tt

-- a stop that is neither has no cause
pub caused_same : (stop : Stop) (cause : Cause) → ((place line : ℕ) → stop ≡ stops.OutOfForm place line → ⊥) → ((limit : Limit) (number : ℕ) → stop ≡ stops.OverLimit limit number → ⊥) → stop ≡ caused stop cause
caused_same (stops.Missing place) cause form over = refl
caused_same (stops.Large place) cause form over = refl
caused_same (stops.Unread place) cause form over = refl
caused_same (stops.Unwritten place) cause form over = refl
caused_same (stops.OutOfForm place line) cause form over = absurd (form place line refl)
caused_same (stops.OverLimit limit number) cause form over = absurd (over limit number refl)
caused_same (stops.NotValid line reason) cause form over = refl
caused_same (stops.Unopened why) cause form over = refl
caused_same stops.NoNext cause form over = refl
caused_same (stops.ExtraFails line reason) cause form over = refl
caused_same (stops.BadForm place line own) cause form over = refl
caused_same (stops.PastLimit limit number own) cause form over = refl
caused_same stops.Memory cause form over = refl

-- a fault that is not want of memory is the text's
pub not_memory : {A : Type 0} {E : Type 0} (fault memory : E) → A ⊎ (fault ≡ memory) → (fault ≡ memory → ⊥) → A
not_memory {A} {E} fault memory (inl has) other = has
not_memory {A} {E} fault memory (inr is) other = absurd (other is)

-- messages that were read of a text and make no submission
pub fault_of_text : (bytes : List ℕ) (d : Declaration) (messages : List Message) (fault : ModelFault) → ReadsAll bytes messages → (submission_answer d messages ≡ Err fault) ⊎ (fault ≡ model_fault.Memory)
    → HasSubmissionFault bytes fault ⊎ (fault ≡ model_fault.Memory)
fault_of_text bytes d messages fault read (inl made) = inl (d, messages, read, made)
fault_of_text bytes d messages fault read (inr is) = inr is

-- one refusal and one cause are one refusal with its cause
one_with : (plain other : Refusal) (cause why : Cause) (a b : Refusal) → other ≡ plain → why ≡ cause → a ≡ with_cause plain cause → b ≡ with_cause other why → b ≡ a
one_with plain other cause why a b same because one two =
    two ∙ (ap (λ (r : Refusal). with_cause r why) same ∙ (ap (λ (x : Cause). with_cause plain x) because ∙ sym one))

-- ---- the capacity file

module _ (one_fault : (text : List ℕ) (a b : CapFault) → HasCapacityFault text a → HasCapacityFault text b → a ≡ b)
    (not_both : (text : List ℕ) (d : Declaration) (fault : CapFault) → IsCapacityFile text d → HasCapacityFault text fault → ⊥)
    (one_cause : (text : List ℕ) (fault : CapFault) (a b : Cause) → IsCapacityCause text fault a → IsCapacityCause text fault b → a ≡ b) where
  pub accepts_capacity_cause : (name : Word) (bytes : List ℕ) (rest : List NamedBytes) (d : Declaration) → IsCapacityFile bytes d → AcceptsAlone capacity_cause name (record { name = name; bytes = bytes } ∷ rest)
  accepts_capacity_cause name bytes rest d is =
      record { accepts = (d, is); alone = λ refusal (fault, plain, cause, has, e, because, same). not_both bytes d fault is has }

  pub refuses_capacity_cause : (name : Word) (bytes : List ℕ) (rest : List NamedBytes) (fault : CapFault) (cause : Cause) (why : Refusal) → HasCapacityFault bytes fault → IsCapacityCause bytes fault cause
      → (plain : Refusal) × IsCapacityRefusal name (length (lines_of bytes)) fault plain × (why ≡ with_cause plain cause) → RefusesAlone capacity_cause name (record { name = name; bytes = bytes } ∷ rest) why
  refuses_capacity_cause name bytes rest fault cause why has because (plain, is, same) =
      record {
        refuses = (fault, plain, cause, has, is, because, same);
        alone = λ other (f, p, c, there, e, by, two).
            let one = one_fault bytes f fault there has in
            one_with plain p cause c why other
            (one_capacity_refusal name (length (lines_of bytes)) fault plain p is (subst (λ (g : CapFault). IsCapacityRefusal name (length (lines_of bytes)) g p) one e))
            (one_cause bytes fault c cause (subst (λ (g : CapFault). IsCapacityCause bytes g c) one by) because) same two;
        rejects = λ (d, declared). not_both bytes d fault declared has;
      }

  pub judged_capacity : (names : List Word) (name : Word) (bytes : List ℕ) (rest : List NamedBytes) (fault : CapFault) (cause : Cause) (plain : Stop) → HasCapacityFault bytes fault → IsCapacityCause bytes fault cause
      → IsRefusalBy names (IsCapacityRefusal name (length (lines_of bytes)) fault) plain → IsJudged names capacity_cause name (record { name = name; bytes = bytes } ∷ rest) (caused plain cause)
  judged_capacity names name bytes rest fault cause plain has because by =
      let Has : Refusal → Type 0 = IsCapacityRefusal name (length (lines_of bytes)) fault in
      by_property names (WithCause Has cause) (RefusesAlone capacity_cause name (record { name = name; bytes = bytes } ∷ rest)) (caused plain cause)
      (λ why is. refuses_capacity_cause name bytes rest fault cause why has because is) (caused_by names Has plain cause by)

-- ---- the requests

module _ (one_declared : (text : List ℕ) (a b : Declaration) → IsCapacityFile text a → IsCapacityFile text b → a ≡ b)
    (one_read : (bytes : List ℕ) (a b : List Message) → ReadsAll bytes a → ReadsAll bytes b → a ≡ b)
    (one_fault : (bytes : List ℕ) (e f : ScrFault) → HasScrFault bytes e → HasScrFault bytes f → e ≡ f)
    (not_both : (bytes : List ℕ) (a : List Message) (e : ScrFault) → ReadsAll bytes a → HasScrFault bytes e → ⊥)
    (one_message : (bytes : List ℕ) (fault : ScrFault) (a b : Cause) → IsMessageCause bytes fault a → IsMessageCause bytes fault b → a ≡ b)
    (one_submission : (bytes : List ℕ) (fault : ModelFault) (a b : Cause) → IsSubmissionCause bytes fault a → IsSubmissionCause bytes fault b → a ≡ b) where
  same : (capacity requests : List ℕ) (d e : Declaration) (messages others : List Message) → IsCapacityFile capacity d → IsCapacityFile capacity e → ReadsAll requests messages → ReadsAll requests others
      → (answer : Result SubmissionView ModelFault) → submission_answer e others ≡ answer → submission_answer d messages ≡ answer
  same = same_answer one_declared one_read one_fault not_both

  not_here : (name : Word) (capacity : NamedBytes) (bytes : List ℕ) (s : SubmissionView) → IsSeasonOf capacity.bytes bytes s → (why : Refusal) → CausesMessage name bytes why ⊎ CausesSubmission name capacity.bytes bytes why → ⊥
  not_here name capacity bytes s season why (inl (fault, plain, cause, has, is, because, one)) = not_both bytes season.messages fault season.read has
  not_here name capacity bytes s season why (inr (d, messages, fault, plain, cause, declared, read, made, is, because, one)) =
      ok_err (submission_answer s.declaration season.messages) s fault season.made
      (same capacity.bytes bytes s.declaration d season.messages messages season.declared declared season.read read (Err fault) made)

  pub accepts_requests_cause : (name : Word) (capacity : NamedBytes) (bytes : List ℕ) (rest : List NamedBytes) (s : SubmissionView) → IsSeasonOf capacity.bytes bytes s
      → AcceptsAlone requests_cause name (capacity ∷ record { name = name; bytes = bytes } ∷ rest)
  accepts_requests_cause name capacity bytes rest s season = record { accepts = (s, season); alone = λ why h. not_here name capacity bytes s season why h }

  -- messages that have a fault
  module _ (name : Word) (capacity : NamedBytes) (bytes : List ℕ) (fault : ScrFault) (cause : Cause) (why : Refusal) (has : HasScrFault bytes fault) (because : IsMessageCause bytes fault cause) (plain : Refusal)
      (is : IsMessageRefusal name fault plain) (one : why ≡ with_cause plain cause) where
    same_message : (other : Refusal) → CausesMessage name bytes other ⊎ CausesSubmission name capacity.bytes bytes other → other ≡ why
    same_message other (inl (f, p, c, there, e, by, two)) =
        let alike = one_fault bytes f fault there has in
        one_with plain p cause c why other
        (one_message_refusal name fault plain p is (subst (λ (g : ScrFault). IsMessageRefusal name g p) alike e))
        (one_message bytes fault c cause (subst (λ (g : ScrFault). IsMessageCause bytes g c) alike by) because) one two
    same_message other (inr (d, messages, f, p, c, declared, read, made, e, by, two)) = absurd (not_both bytes messages fault read has)

    pub refuses_message_cause : (rest : List NamedBytes) → RefusesAlone requests_cause name (capacity ∷ record { name = name; bytes = bytes } ∷ rest) why
    refuses_message_cause rest =
        record {
          refuses = inl (fault, plain, cause, has, is, because, one);
          alone = λ other h. same_message other h;
          rejects = λ (s, season). not_both bytes season.messages fault season.read has;
        }

  -- messages that make no submission
  module _ (name : Word) (capacity : NamedBytes) (bytes : List ℕ) (d : Declaration) (messages : List Message) (fault : ModelFault) (cause : Cause) (why : Refusal) (declared : IsCapacityFile capacity.bytes d)
      (read : ReadsAll bytes messages) (made : submission_answer d messages ≡ Err fault) (because : IsSubmissionCause bytes fault cause) (plain : Refusal) (is : IsSubmissionRefusal name fault plain)
      (one : why ≡ with_cause plain cause) where
    same_submission : (other : Refusal) → CausesMessage name bytes other ⊎ CausesSubmission name capacity.bytes bytes other → other ≡ why
    same_submission other (inl (f, p, c, has, e, by, two)) = absurd (not_both bytes messages f read has)
    same_submission other (inr (e, others, f, p, c, there, given, answer, h, by, two)) =
        let alike : f ≡ fault = same_err (submission_answer d messages) fault f made (same capacity.bytes bytes d e messages others declared there read given (Err f) answer) in
        one_with plain p cause c why other
        (one_submission_refusal name fault plain p is (subst (λ (g : ModelFault). IsSubmissionRefusal name g p) alike h))
        (one_submission bytes fault c cause (subst (λ (g : ModelFault). IsSubmissionCause bytes g c) alike by) because) one two

    pub refuses_submission_cause : (rest : List NamedBytes) → RefusesAlone requests_cause name (capacity ∷ record { name = name; bytes = bytes } ∷ rest) why
    refuses_submission_cause rest =
        record {
          refuses = inr (d, messages, fault, plain, cause, declared, read, made, is, because, one);
          alone = λ other h. same_submission other h;
          rejects = λ (s, season). ok_err (submission_answer d messages) s fault
              (same capacity.bytes bytes d s.declaration messages season.messages declared season.declared read season.read (Ok s) season.made) made;
        }

  -- so of the stops of the code
  pub judged_message : (names : List Word) (name : Word) (capacity : NamedBytes) (bytes : List ℕ) (rest : List NamedBytes) (fault : ScrFault) (cause : Cause) (plain : Stop) → HasScrFault bytes fault → IsMessageCause bytes fault cause
      → IsRefusalBy names (IsMessageRefusal name fault) plain → IsJudged names requests_cause name (capacity ∷ record { name = name; bytes = bytes } ∷ rest) (caused plain cause)
  judged_message names name capacity bytes rest fault cause plain has because by =
      by_property names (WithCause (IsMessageRefusal name fault) cause) (RefusesAlone requests_cause name (capacity ∷ record { name = name; bytes = bytes } ∷ rest)) (caused plain cause)
      (λ why (first, is, one). refuses_message_cause name capacity bytes fault cause why has because first is one rest) (caused_by names (IsMessageRefusal name fault) plain cause by)

  pub judged_submission : (names : List Word) (name : Word) (capacity : NamedBytes) (bytes : List ℕ) (rest : List NamedBytes) (d : Declaration) (messages : List Message) (fault : ModelFault) (cause : Cause) (plain : Stop)
      → IsCapacityFile capacity.bytes d → ReadsAll bytes messages → submission_answer d messages ≡ Err fault → IsSubmissionCause bytes fault cause
      → IsRefusalBy names (IsSubmissionRefusal name fault) plain → IsJudged names requests_cause name (capacity ∷ record { name = name; bytes = bytes } ∷ rest) (caused plain cause)
  judged_submission names name capacity bytes rest d messages fault cause plain declared read made because by =
      by_property names (WithCause (IsSubmissionRefusal name fault) cause) (RefusesAlone requests_cause name (capacity ∷ record { name = name; bytes = bytes } ∷ rest)) (caused plain cause)
      (λ why (first, is, one). refuses_submission_cause name capacity bytes d messages fault cause why declared read made because first is one rest) (caused_by names (IsSubmissionRefusal name fault) plain cause by)
