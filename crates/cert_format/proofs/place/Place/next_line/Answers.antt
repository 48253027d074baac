use Rattle.std.proofs.Common.{sym, ◌∙◌}
use Rattle.std.proofs.lemmas.Bool.{eqb-true}
use Rattle.cert_format.proofs.LineLemmas.{nothing_left}
use Rattle.cert_format.proofs.place.Place.next_line.Goals as goal

pub returns-then-is_empty : goal.returns-then-is_empty
returns-then-is_empty c = nothing_left c.args.self.rest.now (eqb-true _ _ (sym c.is_empty.ensures ∙ c.if-is_empty.true))
