use Rattle.std.proofs.Common.{[], ◌∷◌, refl}
use Rattle.std.proofs.lemmas.Result.{err_from_is_err_and}
use Rattle.command_words.specs.declared.job.Job.TheVariants.{Reclear}
use Rattle.desk_commands.specs.Jobs.{reclear_steps, two_files, IsReclearing}
use Rattle.desk_commands.specs.Desk.{World, world_of}
use Rattle.desk_commands.proofs.LeadLemmas.{memory_read}
use Rattle.desk_commands.proofs.EndLemmas.{stop_job}
use Rattle.desk_commands.proofs.WaitingLemmas.{recleared_of}
use Rattle.desk_commands.proofs.reclear.read_output.Goals as goal

pub returns-in_err-left-clause-stop : goal.returns-in_err-left-clause-stop
returns-in_err-left-clause-stop g c =
    let w : World = world_of g.C.Cabinet.files g.C.Cabinet.fault_count g.C.Cabinet.log c.args.cabinet.now in
    let v : World = world_of g.C.Cabinet.files g.C.Cabinet.fault_count g.C.Cabinet.log c.read_waiting.new.cabinet in
    let names = c.args.names.now in
    let p = err_from_is_err_and c.from_residual.result c.from_residual.ensures.1 in
    rw (p.1, p.2) (stop_job names (Reclear names c.args.nodes c.args.workers) w v c.in_err-left.field-0.0 (c.in_err-left.ensures.stop []))

pub reclear_output-requires-clause-spelled : goal.reclear_output-requires-clause-spelled
reclear_output-requires-clause-spelled g c = λ κs lives. let is = c.in_ok-left.ensures.left in is.left.spelled

pub reclear_output-requires-clause-header : goal.reclear_output-requires-clause-header
reclear_output-requires-clause-header g c = λ κs lives. let is = c.in_ok-left.ensures.left in is.left.of_season

pub returns-in_err-output-clause-stop : goal.returns-in_err-output-clause-stop
returns-in_err-output-clause-stop g c =
    let w : World = world_of g.C.Cabinet.files g.C.Cabinet.fault_count g.C.Cabinet.log c.args.cabinet.now in
    let v : World = world_of g.C.Cabinet.files g.C.Cabinet.fault_count g.C.Cabinet.log c.read_waiting.new.cabinet in
    let is = c.in_ok-left.ensures.left in
    let p = err_from_is_err_and c.from_residual-in_err-output.result c.from_residual-in_err-output.ensures.1 in
    rw (p.1, p.2) (λ o. memory_read w v v (reclear_steps c.args.names.now) (is.capacity ∷ is.requests ∷ is.certificate ∷ is.asks ∷ []) [] (is.leads []) refl)

pub returns-clause-found : goal.returns-clause-found
returns-clause-found g c =
    let names = c.args.names.now in
    let is = c.in_ok-left.ensures.left in
    let left = c.in_ok-left.left in
    let out = c.in_ok-output.output in
    let work : IsReclearing names c.args.nodes is.capacity.bytes is.requests.bytes is.certificate.bytes is.asks.bytes (two_files names 4 out.extra.items out.replies.items) out.answer.status out.answer.text.items =
    record {
      season = left.submission;
      proved = is.proved;
      extra = out.extra.items;
      replies = out.replies.items;
      made = is.made;
      spelled = is.spelled;
      valid = is.valid;
      output = recleared_of left.submission is.proved is.asks.bytes left.book.book left.waiting left.header c.args.nodes out.extra.items out.replies.items out.answer.status out.answer.text.items is.left c.in_ok-output.ensures;
      written = refl;
    } in (is.capacity, is.requests, is.certificate, is.asks, work, is.leads [])
