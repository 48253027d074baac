use Rattle.std.proofs.Common.{sym, ◌∙◌, []}
use Rattle.std.specs.List.{cons_option}
use Rattle.series_model.proofs.NumberedLemmas.{last-found, last-past}
use Rattle.series_model.proofs.numbered.or_last.Goals as goal

pub returns-in-Ok : goal.returns-in-Ok
returns-in-Ok c = λ options n is. last-found options (cons_option c.args.last []) n c.in-Ok.times (sym c.in-Ok.is ∙ is)

pub returns-in-Err : goal.returns-in-Err
returns-in-Err c = λ options n is. c.last_if.ensures ∙ last-past options (cons_option c.args.last []) n c.in-Err.left (sym c.in-Err.is ∙ is)
