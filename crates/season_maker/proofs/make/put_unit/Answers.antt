use Rattle.std.proofs.Common.{sym, subst}
use Rattle.season_days.specs.Term.{Term}
use Rattle.scr_reader.specs.Printed.{LineFits}
use Rattle.season_maker.proofs.make.put_unit.Goals as goal

pub print_item-requires : goal.print_item-requires
print_item-requires c = subst (λ (season : Term). LineFits season c.draw_line-line.result) (sym c.requires.season) c.draw_line-line.ensures.fits
