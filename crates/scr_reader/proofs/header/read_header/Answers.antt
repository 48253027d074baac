use Rattle.std.proofs.Common.{refl, sym, ◌∙◌}
use Rattle.scr_reader.specs.Private.Texts.{texts_in}
use Rattle.scr_reader.proofs.HeaderLemmas.{with_address, without_address}
use Rattle.scr_reader.proofs.header.read_header.Goals as goal

pub returns-then-has_address_line-clause-fault : goal.returns-then-has_address_line-clause-fault
returns-then-has_address_line-clause-fault c =
    with_address c.args.first (texts_in c.args.run.now) c.read_names_after.result _ (sym c.has_address_line.ensures ∙ c.if-has_address_line.true) c.line_at.ensures c.in_ok-check_title.ensures.found c.read_names_after.ensures.fault

pub returns-clause-fault : goal.returns-clause-fault
returns-clause-fault c =
    without_address c.args.first (texts_in c.args.run.now) c.read_names.result _ (sym c.has_address_line.ensures ∙ c.if-has_address_line.false) c.line_at.ensures c.in_ok-check_title.ensures.found (c.read_names.ensures.fault c.args.first refl)
