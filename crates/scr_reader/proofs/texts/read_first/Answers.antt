use Rattle.std.proofs.Common.{inr, arith}
use Rattle.std.proofs.lemmas.List.{length-map}
use Rattle.scr_reader.specs.Private.Texts.{text_in}
use Rattle.scr_reader.specs.declared.fault.ScrFault.TheVariants.{Memory}
use Rattle.scr_reader.proofs.TextLemmas.{first_none, first_is}
use Rattle.scr_reader.proofs.texts.read_first.Goals as goal

pub returns : goal.returns
returns c =
    first_is c.args.lines.now c.split_at.result.1.now c.split_at-2.result.0.now c.count_blank-blank.result c.count_front-count.result _ Memory c.read_run.result c.split_at.ensures.back c.count_blank-blank.ensures.runs c.count_front-count.ensures.exact
    (c.count_blank-blank.ensures.full (omega (arith, c.count_blank-blank.ensures.within, c.if-blank-lines.false))) c.split_at-2.ensures.front c.read_run.ensures

pub returns-then-blank-lines : goal.returns-then-blank-lines
returns-then-blank-lines c =
    inr (first_none c.args.lines.now c.count_blank-blank.result _ c.if-blank-lines.true c.count_blank-blank.ensures.runs (omega (arith, length-map c.args.lines.now text_in)))
