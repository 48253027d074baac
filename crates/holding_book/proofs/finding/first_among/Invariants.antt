use Rattle.std.proofs.Common.{◌≡◌, take, None}
use Rattle.holding_book.specs.Lines.{matches}
use Rattle.holding_book.specs.Private.Found.{passes_at, first_of}
use Rattle.holding_book.proofs.finding.first_among.Given as goal

abbrev pub invariant-loop-n : goal.invariant-loop-n
invariant-loop-n l = first_of (passes_at (λ _ holding. matches l.season l.state l.line holding) l.holdings) (take l.n l.places) ≡ None
