use Rattle.std.proofs.Common.{sym, ◌∙◌}
use Rattle.std.proofs.lemmas.Option.{none-some}
use Rattle.scr_reader.proofs.HeaderLemmas.{no_airport}
use Rattle.scr_reader.proofs.header.read_airport.Goals as goal

pub returns-in-None-clause-fault : goal.returns-in-None-clause-fault
returns-in-None-clause-fault c =
    let found = c.in_ok-text.ensures.found in
    no_airport c.args.number _ c.in_ok-text.text.now found.1 found.0 (λ s fits e. absurd (none-some _ (c.in-None.ensures.only s fits (e ∙ sym c.trim.ensures))))
