use Rattle.std.proofs.Common.{refl}
use Rattle.closing_search.specs.declared.endings.Ending.TheVariants as free
use Rattle.season_run.proofs.trials.settle_busy.Goals as goal

pub returns-in-Closed-clause-searches : goal.returns-in-Closed-clause-searches
returns-in-Closed-clause-searches g c =
    record {
      ending = free.Closed c.in-Closed.closed;
      ends = rw c.in-Closed.is at c.in_ok-closed.ensures.ending;
      keeps = rw c.in-Closed.is at c.in_ok-closed.ensures.start;
      follows = c.closed_end.ensures.value;
    }

pub returns-in_ok-outcome-in-Open-clause-searches : goal.returns-in_ok-outcome-in-Open-clause-searches
returns-in_ok-outcome-in-Open-clause-searches g c =
    record {
      ending = free.Open c.in-Open.best c.in-Open.vector;
      ends = rw c.in-Open.is at c.in_ok-closed.ensures.ending;
      keeps = rw c.in-Open.is at c.in_ok-closed.ensures.start;
      follows = rw c.visited_end.ensures (
        record { outcome = c.in_ok-outcome-in-Open.ensures.outcome; whole = refl },
        c.in_ok-outcome-in-Open.ensures.keeps,
      );
    }
