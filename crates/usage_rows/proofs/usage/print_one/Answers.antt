use Rattle.std.proofs.Common.{[]}
use Rattle.std.proofs.lemmas.List.Elements.{All-nil, All-cons}
use Rattle.usage_watch.specs.NextTexts.{IsHistoric}
use Rattle.usage_rows.proofs.usage.print_one.Goals as goal

pub print_next-requires : goal.print_next-requires
print_next-requires c = All-cons (IsHistoric c.args.header.now.season) c.args.line [] (record { fits = c.requires.fits; code = c.requires.code }) (All-nil (IsHistoric c.args.header.now.season))
