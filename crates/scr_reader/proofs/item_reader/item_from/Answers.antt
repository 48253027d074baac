use Rattle.scr_reader.proofs.FitsLemmas.{read_fits}
use Rattle.scr_reader.proofs.item_reader.item_from.Goals as goal

pub returns-then-asks_change-clause-fit : goal.returns-then-asks_change-clause-fit
returns-then-asks_change-clause-fit c =
    record {
      asked = (c.in-C.is, c.asks_change.ensures.0 c.if-asks_change.true);
      fits = (c.requires.fits, read_fits c.args.season.now _ c.in_ok-asking-in-C.asking c.in_ok-asking-in-C.ensures.found);
    }
