-- Each judgement ends in one way alone.
use Rattle.std.proofs.Common.{◌≡◌, ℕ, ◌+◌, ◌<◌, ◌≤◌, ◌-◌, List, [], ◌∷◌, length, take, Option, Some, None, Result, Ok, Err, refl, sym, ap, ◌∙◌, subst, arith, inl, inr}
use Rattle.std.specs.Prelude.{◌⊎◌}
use Rattle.std.proofs.lemmas.Bool.{cases_order}
use Rattle.std.proofs.lemmas.List.{take-take}
use Rattle.slot_text.specs.Ended.{ended_lines}
use Rattle.slot_text.specs.Forms.{BeginsInForm, IsFirstBadLine}
use Rattle.slot_text.specs.Lines.{lines_of}
use Rattle.slot_text.specs.Reads.{GivesOr}
use Rattle.season_days.specs.declared.declaration.Declaration.{Declaration}
use Rattle.capacity_file.specs.Declares.{IsCapacityFile}
use Rattle.capacity_file.specs.Faults.{HasCapacityFault}
use Rattle.capacity_file.specs.declared.fault.CapFault.{CapFault}
use Rattle.capacity_file.specs.declared.fault.CapFault.TheVariants as capacity_fault
use Rattle.scr_reader.specs.Messages.{ReadsAll, HasScrFault}
use Rattle.scr_reader.specs.declared.message.Message.{Message}
use Rattle.scr_reader.specs.declared.fault.ScrFault.{ScrFault}
use Rattle.scr_reader.specs.declared.fault.ScrFault.TheVariants as message_fault
use Rattle.series_model.specs.Submissions.{SubmissionView, submission_answer, answer_by, submission_of, refusal}
use Rattle.series_model.specs.declared.fault.ModelFault.{ModelFault}
use Rattle.series_model.specs.declared.fault.ModelFault.TheVariants as model_fault
use Rattle.cert_format.specs.Forms.{IsCertText}
use Rattle.cert_format.specs.declared.cert.Certificate.{Certificate}
use Rattle.wasg_stages.specs.Valid.{IsValid}
use Rattle.cert_checker.specs.Certificates.{FailsAt}
use Rattle.cert_checker.specs.declared.verdict.Reason.{Reason}
use Rattle.command_words.specs.Words.{Word}
use Rattle.desk_commands.specs.Reports.{Refusal, out_of_form, not_valid}
use Rattle.desk_commands.specs.Judgements.{NamedBytes, IsSeasonOf, SpellsCert, capacity_form, requests_form, certificate_form, valid_certificate, IsCapacityRefusal, IsMessageRefusal, IsSubmissionRefusal, RefusesRequests}
use Rattle.desk_commands.specs.Leads.{AcceptsAlone, RefusesAlone}

-- ---- one first bad line

fewer_lines : (k n : ℕ) (xs ys : List (List ℕ)) → k ≤ n → take n xs ≡ take n ys → take k xs ≡ take k ys
fewer_lines k n xs ys le e = sym (take-take k n xs le) ∙ ap (take k) e ∙ take-take k n ys le

begins_with_fewer : (IsInForm : List ℕ → Type 0) (text : List ℕ) (k n : ℕ) → k ≤ n → BeginsInForm IsInForm text n → BeginsInForm IsInForm text k
begins_with_fewer IsInForm text k n le begins =
    record { whole = begins.whole; in_form = begins.in_form; same = fewer_lines k n (ended_lines text) (ended_lines begins.whole) le begins.same }

not_before : (IsInForm : List ℕ → Type 0) (text : List ℕ) (a b : ℕ) → IsFirstBadLine IsInForm text a → IsFirstBadLine IsInForm text b → a < b → ⊥
not_before IsInForm text a b x y lt = x.bad (begins_with_fewer IsInForm text a (b - 1) (omega arith) y.before)

pub same_bad_line : (IsInForm : List ℕ → Type 0) (text : List ℕ) (a b : ℕ) → IsFirstBadLine IsInForm text a → IsFirstBadLine IsInForm text b → a ≡ b
same_bad_line IsInForm text a b x y =
    elim (cases_order a b) [
      | inl same ↦ same
      | inr (inl before) ↦ absurd (not_before IsInForm text a b x y before)
      | inr (inr after_it) ↦ absurd (not_before IsInForm text b a y x after_it)
    ]

pub in_form_good : (IsInForm : List ℕ → Type 0) (text : List ℕ) (line : ℕ) → IsInForm text → IsFirstBadLine IsInForm text line → ⊥
in_form_good IsInForm text line is bad = bad.bad (record { whole = text; in_form = is; same = refl })

-- ---- the capacity file

pub one_capacity_refusal : (name : Word) (lines : ℕ) (fault : CapFault) (one other : Refusal) → IsCapacityRefusal name lines fault one → IsCapacityRefusal name lines fault other → other ≡ one
one_capacity_refusal name lines (capacity_fault.BadLine line) one other a b = b ∙ sym a
one_capacity_refusal name lines (capacity_fault.Missing word) one other a b = b ∙ sym a
one_capacity_refusal name lines (capacity_fault.Twice line) one other a b = b ∙ sym a
one_capacity_refusal name lines (capacity_fault.OverLimit limit number) one other a b = b ∙ sym a
one_capacity_refusal name lines capacity_fault.Memory one other a b = absurd a

module _ (one_fault : (text : List ℕ) (a b : CapFault) → HasCapacityFault text a → HasCapacityFault text b → a ≡ b)
    (not_both : (text : List ℕ) (d : Declaration) (fault : CapFault) → IsCapacityFile text d → HasCapacityFault text fault → ⊥) where
  pub accepts_capacity : (name : Word) (bytes : List ℕ) (rest : List NamedBytes) (d : Declaration) → IsCapacityFile bytes d → AcceptsAlone capacity_form name (record { name = name; bytes = bytes } ∷ rest)
  accepts_capacity name bytes rest d is = record { accepts = (d, is); alone = λ refusal (fault, has, e). not_both bytes d fault is has }

  pub refuses_capacity : (name : Word) (bytes : List ℕ) (rest : List NamedBytes) (fault : CapFault) (why : Refusal) → HasCapacityFault bytes fault ⊎ (fault ≡ capacity_fault.Memory)
      → IsCapacityRefusal name (length (lines_of bytes)) fault why → RefusesAlone capacity_form name (record { name = name; bytes = bytes } ∷ rest) why
  refuses_capacity name bytes rest fault why (inr e) is = absurd (subst (λ (f : CapFault). IsCapacityRefusal name (length (lines_of bytes)) f why) e is)
  refuses_capacity name bytes rest fault why (inl has) is =
      record {
        refuses = (fault, has, is);
        alone = λ other (f, there, e). one_capacity_refusal name (length (lines_of bytes)) fault why other is
            (subst (λ (g : CapFault). IsCapacityRefusal name (length (lines_of bytes)) g other) (one_fault bytes f fault there has) e);
        rejects = λ (d, declared). not_both bytes d fault declared has;
      }

-- ---- the requests

pub one_message_refusal : (name : Word) (fault : ScrFault) (one other : Refusal) → IsMessageRefusal name fault one → IsMessageRefusal name fault other → other ≡ one
one_message_refusal name (message_fault.BadLine line field) one other a b = b ∙ sym a
one_message_refusal name (message_fault.BadHeader line) one other a b = b ∙ sym a
one_message_refusal name (message_fault.Unpaired line) one other a b = b ∙ sym a
one_message_refusal name (message_fault.TooLong line) one other a b = b ∙ sym a
one_message_refusal name message_fault.Memory one other a b = absurd a

pub one_submission_refusal : (name : Word) (fault : ModelFault) (one other : Refusal) → IsSubmissionRefusal name fault one → IsSubmissionRefusal name fault other → other ≡ one
one_submission_refusal name (model_fault.OtherSeason line) one other a b = b ∙ sym a
one_submission_refusal name (model_fault.OtherAirport line) one other a b = b ∙ sym a
one_submission_refusal name (model_fault.NotInitial line) one other a b = b ∙ sym a
one_submission_refusal name (model_fault.TooMany units) one other a b = b ∙ sym a
one_submission_refusal name model_fault.Memory one other a b = absurd a

-- what is answered is made of the declaration
answered : (fault : Option ModelFault) (x s : SubmissionView) → answer_by fault x ≡ Ok s → x ≡ s
answered None x s e = cc
answered (Some fault) x s e = absurd (cc)

pub season_made : (capacity requests : List ℕ) (d : Declaration) (messages : List Message) (s : SubmissionView) → IsCapacityFile capacity d → ReadsAll requests messages → submission_answer d messages ≡ Ok s
    → IsSeasonOf capacity requests s
season_made capacity requests d messages s declared read made =
    let same : d ≡ s.declaration = ap (λ (x : SubmissionView). x.declaration) (answered (refusal d messages) (submission_of d messages) s made) in
    record {
      messages = messages;
      declared = subst (λ (e : Declaration). IsCapacityFile capacity e) same declared;
      read = read;
      made = subst (λ (e : Declaration). submission_answer e messages ≡ Ok s) same made;
    }

pub same_ok : {X E : Type 0} (r : Result X E) (x y : X) → r ≡ Ok x → r ≡ Ok y → y ≡ x
same_ok {X} {E} r x y a b = cc

-- an error that was answered, or memory that ran out
pub answered_err : {X E : Type 0} (memory : E) (answer : Result X E) (fault : E) → GivesOr memory (Err fault) answer → (answer ≡ Err fault) ⊎ (fault ≡ memory)
answered_err {X} {E} memory answer fault (inl e) = inl (sym e)
answered_err {X} {E} memory answer fault (inr e) = inr (cc)

-- where no byte is left, all lines were counted
pub all_counted : (count n : ℕ) (lines : List ℕ) → lines ≡ [] → count + length (lines_of lines) ≡ n → count ≡ n
unfolding lines_of
all_counted count n lines e h =
    let none : length (lines_of lines) ≡ 0 = subst (λ (l : List ℕ). length (lines_of l) ≡ 0) (sym e) refl in
    omega (arith, h, none)

pub same_err : {X E : Type 0} (r : Result X E) (x y : E) → r ≡ Err x → r ≡ Err y → y ≡ x
same_err {X} {E} r x y a b = cc

pub ok_err : {X E : Type 0} (r : Result X E) (x : X) (y : E) → r ≡ Ok x → r ≡ Err y → ⊥
ok_err {X} {E} r x y a b = cc

module _ (one_declared : (text : List ℕ) (a b : Declaration) → IsCapacityFile text a → IsCapacityFile text b → a ≡ b)
    (one_read : (bytes : List ℕ) (a b : List Message) → ReadsAll bytes a → ReadsAll bytes b → a ≡ b)
    (one_fault : (bytes : List ℕ) (e f : ScrFault) → HasScrFault bytes e → HasScrFault bytes f → e ≡ f)
    (not_both : (bytes : List ℕ) (a : List Message) (e : ScrFault) → ReadsAll bytes a → HasScrFault bytes e → ⊥) where
  -- whichever declaration and messages of the texts are answered, the answer is the same
  pub same_answer : (capacity requests : List ℕ) (d e : Declaration) (messages others : List Message) → IsCapacityFile capacity d → IsCapacityFile capacity e → ReadsAll requests messages → ReadsAll requests others
      → (answer : Result SubmissionView ModelFault) → submission_answer e others ≡ answer → submission_answer d messages ≡ answer
  same_answer capacity requests d e messages others dd de rm ro answer h =
      subst (λ (m : List Message). submission_answer d m ≡ answer) (one_read requests others messages ro rm)
      (subst (λ (x : Declaration). submission_answer x others ≡ answer) (one_declared capacity e d de dd) h)

  pub one_season : (capacity requests : List ℕ) (s t : SubmissionView) → IsSeasonOf capacity requests s → IsSeasonOf capacity requests t → t ≡ s
  one_season capacity requests s t one two =
      same_ok (submission_answer s.declaration one.messages) s t one.made
      (same_answer capacity requests s.declaration t.declaration one.messages two.messages one.declared two.declared one.read two.read (Ok t) two.made)

  not_here : (name : Word) (capacity : NamedBytes) (bytes : List ℕ) (s : SubmissionView) → IsSeasonOf capacity.bytes bytes s → (why : Refusal) → RefusesRequests name capacity.bytes bytes why → ⊥
  not_here name capacity bytes s season why (inl (fault, has, e)) = not_both bytes season.messages fault season.read has
  not_here name capacity bytes s season why (inr (d, messages, fault, declared, read, made, e)) =
      ok_err (submission_answer s.declaration season.messages) s fault season.made
      (same_answer capacity.bytes bytes s.declaration d season.messages messages season.declared declared season.read read (Err fault) made)

  pub accepts_requests : (name : Word) (capacity : NamedBytes) (bytes : List ℕ) (rest : List NamedBytes) (s : SubmissionView) → IsSeasonOf capacity.bytes bytes s
      → AcceptsAlone requests_form name (capacity ∷ record { name = name; bytes = bytes } ∷ rest)
  accepts_requests name capacity bytes rest s season = record { accepts = (s, season); alone = λ why h. not_here name capacity bytes s season why h }

  same_message : (name : Word) (capacity : NamedBytes) (bytes : List ℕ) (fault : ScrFault) (why : Refusal) → HasScrFault bytes fault → IsMessageRefusal name fault why → (other : Refusal)
      → RefusesRequests name capacity.bytes bytes other → other ≡ why
  same_message name capacity bytes fault why has is other (inl (f, there, e)) =
      one_message_refusal name fault why other is (subst (λ (g : ScrFault). IsMessageRefusal name g other) (one_fault bytes f fault there has) e)
  same_message name capacity bytes fault why has is other (inr (d, messages, f, declared, read, made, e)) = absurd (not_both bytes messages fault read has)

  pub refuses_message : (name : Word) (capacity : NamedBytes) (bytes : List ℕ) (rest : List NamedBytes) (fault : ScrFault) (why : Refusal) → HasScrFault bytes fault ⊎ (fault ≡ message_fault.Memory)
      → IsMessageRefusal name fault why → RefusesAlone requests_form name (capacity ∷ record { name = name; bytes = bytes } ∷ rest) why
  refuses_message name capacity bytes rest fault why (inr e) is = absurd (subst (λ (f : ScrFault). IsMessageRefusal name f why) e is)
  refuses_message name capacity bytes rest fault why (inl has) is =
      record {
        refuses = inl (fault, has, is);
        alone = λ other h. same_message name capacity bytes fault why has is other h;
        rejects = λ (s, season). not_both bytes season.messages fault season.read has;
      }

  same_submission : (name : Word) (capacity : NamedBytes) (bytes : List ℕ) (d : Declaration) (messages : List Message) (fault : ModelFault) (why : Refusal) → IsCapacityFile capacity.bytes d → ReadsAll bytes messages
      → submission_answer d messages ≡ Err fault → IsSubmissionRefusal name fault why → (other : Refusal) → RefusesRequests name capacity.bytes bytes other → other ≡ why
  same_submission name capacity bytes d messages fault why declared read made is other (inl (f, has, e)) = absurd (not_both bytes messages f read has)
  same_submission name capacity bytes d messages fault why declared read made is other (inr (e, others, f, there, given, answer, h)) =
      let same : f ≡ fault = same_err (submission_answer d messages) fault f made (same_answer capacity.bytes bytes d e messages others declared there read given (Err f) answer) in
      one_submission_refusal name fault why other is (subst (λ (g : ModelFault). IsSubmissionRefusal name g other) same h)

  pub refuses_submission : (name : Word) (capacity : NamedBytes) (bytes : List ℕ) (rest : List NamedBytes) (d : Declaration) (messages : List Message) (fault : ModelFault) (why : Refusal)
      → IsCapacityFile capacity.bytes d → ReadsAll bytes messages → (submission_answer d messages ≡ Err fault) ⊎ (fault ≡ model_fault.Memory) → IsSubmissionRefusal name fault why
      → RefusesAlone requests_form name (capacity ∷ record { name = name; bytes = bytes } ∷ rest) why
  refuses_submission name capacity bytes rest d messages fault why declared read (inr e) is = absurd (subst (λ (f : ModelFault). IsSubmissionRefusal name f why) e is)
  refuses_submission name capacity bytes rest d messages fault why declared read (inl made) is =
      record {
        refuses = inr (d, messages, fault, declared, read, made, is);
        alone = λ other h. same_submission name capacity bytes d messages fault why declared read made is other h;
        rejects = λ (s, season). ok_err (submission_answer d messages) s fault
            (same_answer capacity.bytes bytes d s.declaration messages season.messages declared season.declared read season.read (Ok s) season.made) made;
      }

  -- ---- a valid certificate

  module _ (one_verdict : (s : SubmissionView) (c : Certificate) (line : ℕ) (reason : Reason) → IsValid s c → FailsAt s c line reason → ⊥) where
    pub accepts_valid : (name : Word) (capacity requests spelled : NamedBytes) (rest : List NamedBytes) (s : SubmissionView) (c : Certificate) → IsSeasonOf capacity.bytes requests.bytes s → SpellsCert spelled.bytes c
        → ((other : Certificate) → SpellsCert spelled.bytes other → other ≡ c) → IsValid s c → AcceptsAlone valid_certificate name (capacity ∷ requests ∷ spelled ∷ rest)
    accepts_valid name capacity requests spelled rest s c season spells only valid =
        record {
          accepts = (s, c, season, spells, valid);
          alone = λ why (t, d, line, reason, there, spelled_there, fails, e).
              one_verdict s c line reason valid
              (subst (λ (x : Certificate). FailsAt s x line reason) (only d spelled_there)
              (subst (λ (x : SubmissionView). FailsAt x d line reason) (one_season capacity.bytes requests.bytes s t season there) fails));
        }

    pub refuses_valid : ((s : SubmissionView) (c : Certificate) (line other : ℕ) (reason why : Reason) → FailsAt s c line reason → FailsAt s c other why → (line ≡ other) × (reason ≡ why))
        → (name : Word) (capacity requests spelled : NamedBytes) (rest : List NamedBytes) (s : SubmissionView) (c : Certificate) (line : ℕ) (reason : Reason) → IsSeasonOf capacity.bytes requests.bytes s
        → SpellsCert spelled.bytes c → ((other : Certificate) → SpellsCert spelled.bytes other → other ≡ c) → FailsAt s c line reason
        → RefusesAlone valid_certificate name (capacity ∷ requests ∷ spelled ∷ rest) (not_valid line reason)
    refuses_valid one_line name capacity requests spelled rest s c line reason season spells only fails =
        record {
          refuses = (s, c, line, reason, season, spells, fails, refl);
          alone = λ other (t, d, n, why, there, spelled_there, fails_there, e).
              let here : FailsAt s c n why =
              subst (λ (x : Certificate). FailsAt s x n why) (only d spelled_there)
              (subst (λ (x : SubmissionView). FailsAt x d n why) (one_season capacity.bytes requests.bytes s t season there) fails_there) in
              let same = one_line s c n line why reason here fails in
              e ∙ ap (λ (k : ℕ). not_valid k why) same.0 ∙ ap (not_valid line) same.1;
          rejects = λ (t, d, there, spelled_there, valid).
              one_verdict s c line reason
              (subst (λ (x : Certificate). IsValid s x) (only d spelled_there)
              (subst (λ (x : SubmissionView). IsValid x d) (one_season capacity.bytes requests.bytes s t season there) valid)) fails;
        }

-- ---- the form of a certificate

pub accepts_certificate : (name : Word) (capacity requests : NamedBytes) (bytes : List ℕ) (rest : List NamedBytes) (c : Certificate) → SpellsCert bytes c
    → AcceptsAlone certificate_form name (capacity ∷ requests ∷ record { name = name; bytes = bytes } ∷ rest)
accepts_certificate name capacity requests bytes rest c spells =
    record { accepts = (c, spells); alone = λ why (line, bad, e). in_form_good IsCertText bytes line (c, spells.has_spelling, spells.spelled) bad }

pub refuses_certificate : (name : Word) (capacity requests : NamedBytes) (bytes : List ℕ) (rest : List NamedBytes) (line : ℕ) → IsFirstBadLine IsCertText bytes line
    → RefusesAlone certificate_form name (capacity ∷ requests ∷ record { name = name; bytes = bytes } ∷ rest) (out_of_form name line)
refuses_certificate name capacity requests bytes rest line bad =
    record {
      refuses = (line, bad, refl);
      alone = λ other (n, there, e). e ∙ ap (out_of_form name) (same_bad_line IsCertText bytes n line there bad);
      rejects = λ (c, spells). in_form_good IsCertText bytes line (c, spells.has_spelling, spells.spelled) bad;
    }
