use Rattle.std.proofs.Common.{[], refl}
use Rattle.command_words.specs.declared.job.Job.TheVariants.{Trial}
use Rattle.desk_commands.specs.Outside.{still}
use Rattle.desk_commands.proofs.LeadLemmas.{leads_start}
use Rattle.desk_commands.proofs.EndLemmas.{read_done}
use Rattle.desk_commands.proofs.AnswerLemmas.{done_answer}
use Rattle.desk_commands.proofs.commands.carry_out_trial.Goals as goal

pub returns : goal.returns
returns g c = λ w o.
    let a = c.in_ok-answer.answer in
    let job = Trial c.args.number c.args.units in
    done_answer job w (still o) w a.status a.text.items (read_done job w w [] (leads_start w []) (still o) a.status a.text.items (refl, c.in_ok-answer.ensures))
