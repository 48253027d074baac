use Rattle.std.proofs.Common.{sym, subst, ◌∙◌, arith}
use Rattle.scr_reader.specs.Printed.{LineFits}
use Rattle.scr_reader.specs.declared.line.Line.{Line}
use Rattle.scr_reader.specs.declared.line.Code.TheVariants.{N, B, F}
use Rattle.season_maker.specs.Generated.{summer_2025}
use Rattle.season_maker.proofs.FitLemmas.{arrival_fits, turnaround_fits}
use Rattle.season_maker.proofs.DrawLemmas.{after_none, after_one, after_two, line_zero, new_is, entrant_is, turnaround_is}
use Rattle.season_maker.proofs.units.draw_line.Goals as goal

pub returns-in-0-clause-line : goal.returns-in-0-clause-line
returns-in-0-clause-line c = λ number is. c.arrival_at.ensures ∙ sym (line_zero number c.args.unit (omega arith))

pub returns-in-0-clause-state : goal.returns-in-0-clause-state
returns-in-0-clause-state c = λ number is. after_none number c.args.unit _ (omega arith) is

pub returns-in-1-clause-line : goal.returns-in-1-clause-line
returns-in-1-clause-line c = λ number is. new_is number c.args.unit _ _ _ (omega arith) is c.draw_minute.ensures.drawn c.arrival_at-in-1.ensures

pub returns-in-1-clause-state : goal.returns-in-1-clause-state
returns-in-1-clause-state c = λ number is. after_one number c.args.unit _ _ (λ h. omega arith) (λ h. omega arith) is c.draw_minute.ensures.state

pub returns-in-2-clause-line : goal.returns-in-2-clause-line
returns-in-2-clause-line c = λ number is. entrant_is number c.args.unit _ _ _ (omega arith) is c.draw_minute-in-2.ensures.drawn c.arrival_at-in-2.ensures

pub returns-in-2-clause-state : goal.returns-in-2-clause-state
returns-in-2-clause-state c = λ number is. after_one number c.args.unit _ _ (λ h. omega arith) (λ h. omega arith) is c.draw_minute-in-2.ensures.state

pub returns-in_default-clause-line : goal.returns-in_default-clause-line
returns-in_default-clause-line c = λ number is. turnaround_is number c.args.unit _ _ (omega arith) is c.draw_turnaround.ensures.line

pub returns-in_default-clause-state : goal.returns-in_default-clause-state
returns-in_default-clause-state c = λ number is. after_two number c.args.unit _ _ (omega arith) is c.draw_turnaround.ensures.state

pub returns-in-0-clause-fits : goal.returns-in-0-clause-fits
returns-in-0-clause-fits c = subst (λ (line : Line). LineFits summer_2025 line) (sym c.arrival_at.ensures) (arrival_fits F c.args.unit _ c.requires (omega arith))

pub returns-in-1-clause-fits : goal.returns-in-1-clause-fits
returns-in-1-clause-fits c = subst (λ (line : Line). LineFits summer_2025 line) (sym c.arrival_at-in-1.ensures) (arrival_fits N c.args.unit _ c.requires (omega arith))

pub returns-in-2-clause-fits : goal.returns-in-2-clause-fits
returns-in-2-clause-fits c = subst (λ (line : Line). LineFits summer_2025 line) (sym c.arrival_at-in-2.ensures) (arrival_fits B c.args.unit _ c.requires (omega arith))

pub returns-in_default-clause-fits : goal.returns-in_default-clause-fits
returns-in_default-clause-fits c = subst (λ (line : Line). LineFits summer_2025 line) (sym c.draw_turnaround.ensures.line) (turnaround_fits c.args.unit _ _ c.requires (omega arith) (omega arith))
