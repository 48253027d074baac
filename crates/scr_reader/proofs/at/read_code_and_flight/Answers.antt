use Rattle.std.proofs.Common.{◌≡◌, ◌∙◌, refl}
use Rattle.std.proofs.lemmas.Option.{none-some, same_Some}
use Rattle.scr_reader.proofs.AtLemmas.{code_and_rest}
use Rattle.scr_reader.proofs.at.read_code_and_flight.Goals as goal

pub returns-in_err-flight-clause-only : goal.returns-in_err-flight-clause-only
returns-in_err-flight-clause-only c = λ code flight is.
    absurd (none-some _ (c.in_err-flight.ensures.only flight (code_and_rest c.args.text.now code flight is).1))

pub returns-clause-only : goal.returns-clause-only
returns-clause-only c = λ code flight is.
    let parts = code_and_rest c.args.text.now code flight is in
    let a : c.in_ok-flight.flight ≡ flight = same_Some _ _ (c.in_ok-flight.ensures.only flight parts.1) in
    let b : c.in_ok-code.code ≡ code = same_Some _ _ (c.in_ok-code.ensures ∙ parts.0) in
    rw (a, b) refl
