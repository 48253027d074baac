use Rattle.std.proofs.Common.{[], ◌∷◌, ◌≡◌, ℕ, List, subst, sym}
use Rattle.std.proofs.lemmas.Result.{err_from_is_err_and}
use Rattle.series_model.specs.Submissions.{SubmissionView}
use Rattle.command_words.specs.Words.{Word}
use Rattle.desk_commands.specs.Judgements.{NamedBytes, waiting_limit}
use Rattle.desk_commands.specs.Steps.{Step, reads, judges}
use Rattle.desk_commands.specs.Jobs.{name_at, certificate_steps, waiting_steps}
use Rattle.desk_commands.specs.Desk.{World, world_of}
use Rattle.desk_commands.specs.Leads.{AcceptsAlone}
use Rattle.desk_commands.specs.Stops.{IsJudged}
use Rattle.desk_commands.specs.Waits.{IsLeft, IsLeftBy}
use Rattle.desk_commands.specs.declared.files.TheConstants.{LONGEST_FILE}
use Rattle.desk_commands.proofs.LeadLemmas.{leads_judge, judged_stops}
use Rattle.desk_commands.proofs.waits.read_waiting.Goals as goal

-- the judgement of the asks, and then these steps
abbrev judged : List Word → List Step → List Step
judged names steps = judges waiting_limit (name_at names 3) ∷ steps

abbrev last : List Word → List Step → List Step
last names steps = reads (name_at names 3) LONGEST_FILE ∷ judged names steps

pub returns-in_err-submission-clause-stop : goal.returns-in_err-submission-clause-stop
returns-in_err-submission-clause-stop g c =
    let names = c.args.names.now in
    let p = err_from_is_err_and c.from_residual.result c.from_residual.ensures.1 in
    rw (p.1, p.2) (λ steps. c.in_err-submission.ensures.stop (certificate_steps names (last names steps)))

pub returns-in_err-certificate-clause-stop : goal.returns-in_err-certificate-clause-stop
returns-in_err-certificate-clause-stop g c =
    let w : World = world_of g.C.Cabinet.files g.C.Cabinet.fault_count g.C.Cabinet.log c.args.cabinet.now in
    let names = c.args.names.now in
    let p = err_from_is_err_and c.from_residual-in_err-certificate.result c.from_residual-in_err-certificate.ensures.1 in
    let s = c.in_ok-submission.ensures.found in
    rw (p.1, p.2) (λ steps. c.in_err-certificate.ensures.stop w (waiting_steps names steps) (last names steps) s.0 s.1 s.2 (s.3 (certificate_steps names (last names steps))))

pub returns-in_err-asks-clause-stop : goal.returns-in_err-asks-clause-stop
returns-in_err-asks-clause-stop g c =
    let w : World = world_of g.C.Cabinet.files g.C.Cabinet.fault_count g.C.Cabinet.log c.args.cabinet.now in
    let names = c.args.names.now in
    let p = err_from_is_err_and c.from_residual-in_err-asks.result c.from_residual-in_err-asks.ensures.1 in
    let s = c.in_ok-submission.ensures.found in
    let f = c.in_ok-certificate.ensures.leads in
    rw (p.1, p.2) (λ steps.
    let lead = f.3 w (waiting_steps names steps) (last names steps) s.0 s.1 s.2 (s.3 (certificate_steps names (last names steps))) in
    c.in_err-asks.ensures.stop w (waiting_steps names steps) (s.0 ∷ s.1 ∷ f.0 ∷ []) (judged names steps) lead)

pub returns-in_err-left-clause-stop : goal.returns-in_err-left-clause-stop
returns-in_err-left-clause-stop g c =
    let w : World = world_of g.C.Cabinet.files g.C.Cabinet.fault_count g.C.Cabinet.log c.args.cabinet.now in
    let v : World = world_of g.C.Cabinet.files g.C.Cabinet.fault_count g.C.Cabinet.log c.read_file.new.cabinet in
    let names = c.args.names.now in
    let p = err_from_is_err_and c.from_residual-in_err-left.result c.from_residual-in_err-left.ensures.1 in
    let s = c.in_ok-submission.ensures.found in
    let f = c.in_ok-certificate.ensures.leads in
    let name = name_at names 3 in
    let files : List NamedBytes = s.0 ∷ s.1 ∷ f.0 ∷ record { name = name; bytes = c.in_ok-asks.asks.items } ∷ [] in
    let why = subst (λ (l : List ℕ). IsJudged names waiting_limit name (s.0 ∷ s.1 ∷ f.0 ∷ record { name = name; bytes = l } ∷ []) c.in_err-left.field-0.0) c.deref.ensures.value (c.in_err-left.ensures.stop names name s.0 s.1 f.0 [] s.2 f.1 f.2) in
    rw (p.1, p.2) (λ steps.
    let lead = f.3 w (waiting_steps names steps) (last names steps) s.0 s.1 s.2 (s.3 (certificate_steps names (last names steps))) in
    let one = c.in_ok-asks.ensures.leads w (waiting_steps names steps) (s.0 ∷ s.1 ∷ f.0 ∷ []) (judged names steps) lead in
    judged_stops names waiting_limit name files c.in_err-left.field-0.0 w v (waiting_steps names steps) steps why one)

pub returns-clause-left : goal.returns-clause-left
returns-clause-left g c =
    let w : World = world_of g.C.Cabinet.files g.C.Cabinet.fault_count g.C.Cabinet.log c.args.cabinet.now in
    let v : World = world_of g.C.Cabinet.files g.C.Cabinet.fault_count g.C.Cabinet.log c.read_file.new.cabinet in
    let names = c.args.names.now in
    let s = c.in_ok-submission.ensures.found in
    let f = c.in_ok-certificate.ensures.leads in
    let name = name_at names 3 in
    let asks : NamedBytes = record { name = name; bytes = c.in_ok-asks.asks.items } in
    let left = c.in_ok-left.left in
    let same : left.submission ≡ c.in_ok-submission.submission = c.in_ok-left.ensures.same in
    let accepted = subst (λ (l : List ℕ). AcceptsAlone waiting_limit name (s.0 ∷ s.1 ∷ f.0 ∷ record { name = name; bytes = l } ∷ [])) c.deref.ensures.value (c.in_ok-left.ensures.alone name s.0 s.1 f.0 [] s.2 f.1 f.2) in
    let by = subst (λ (l : List ℕ). IsLeftBy c.in_ok-submission.submission c.in_ok-certificate.certificate l left.book.book left.waiting left.header) c.deref.ensures.value c.in_ok-left.ensures.left in
    subst (λ (x : SubmissionView). IsLeft w names x left.book.book left.waiting left.header v) (sym same)
    (record {
      capacity = s.0;
      requests = s.1;
      certificate = f.0;
      asks = asks;
      proved = c.in_ok-certificate.certificate;
      made = s.2;
      spelled = f.1;
      alone = f.2;
      valid = c.in_ok-certificate.ensures.valid;
      left = by;
      leads = λ steps.
          let lead = f.3 w (waiting_steps names steps) (last names steps) s.0 s.1 s.2 (s.3 (certificate_steps names (last names steps))) in
          let one = c.in_ok-asks.ensures.leads w (waiting_steps names steps) (s.0 ∷ s.1 ∷ f.0 ∷ []) (judged names steps) lead in
          leads_judge waiting_limit name (s.0 ∷ s.1 ∷ f.0 ∷ asks ∷ []) accepted w v (waiting_steps names steps) steps one;
    })
