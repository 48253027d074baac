use Rattle.std.proofs.Common.{[], arith}
use Rattle.std.proofs.lemmas.List.Elements.{All-nil, All-cons}
use Rattle.scr_reader.specs.Printed.{LineFits}
use Rattle.holding_book.specs.declared.holding.Holding.{Holding}
use Rattle.usage_rows.proofs.usage.watch_one.Goals as goal

pub watch-requires : goal.watch-requires
watch-requires c = record {
  fit = All-cons (λ (h : Holding). LineFits c.args.season.now h.line) _ [] c.requires (All-nil (λ (h : Holding). LineFits c.args.season.now h.line));
  few = omega arith;
}
