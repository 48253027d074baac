use Rattle.std.proofs.Common.{◌≡◌, List, length, ap, rules, inr, arith}
use Rattle.std.proofs.lemmas.List.{length-map}
use Rattle.scr_reader.specs.declared.rows.Reading.{Reading}
use Rattle.std.specs.Prelude.{IsErrAnd}
use Rattle.scr_reader.specs.Private.Texts.{text_in, texts_in}
use Rattle.scr_reader.specs.Messages.{run_from}
use Rattle.scr_reader.specs.declared.fault.ScrFault.TheVariants.{Memory}
use Rattle.scr_reader.proofs.MessageLemmas.{header_fault, decided_fault, finished, stopped, same_header, header_fits, readings_length}
use Rattle.scr_reader.proofs.run_reader.read_run.Goals as goal

pub returns-in_err-header : goal.returns-in_err-header
returns-in_err-header c =
    let lines = texts_in c.args.run.now in
    let err : IsErrAnd c.from_residual.result (λ e. e ≡ c.in_err-header.field-0.0) = search rules in
    decided_fault (run_from c.args.first lines) Memory c.in_err-header.field-0.0 c.from_residual.result err (inr (header_fault c.args.first lines c.in_err-header.field-0.0 c.in_err-header.ensures.fault))

pub split_at-requires : goal.split_at-requires
split_at-requires c = omega (arith, c.count_header-skipped.ensures, header_fits (texts_in c.args.run.now) c.in_ok-header.header c.in_ok-header.ensures.found, length-map c.args.run.now text_in)

pub pair_rows-requires : goal.pair_rows-requires
pair_rows-requires c =
    let read = readings_length c.in_ok-header.header.season (texts_in c.split_at.result.1.now) c.in_ok-rows.rows.items c.in_ok-rows.ensures.found in
    let same : length c.as_slice.result.now ≡ length c.in_ok-rows.rows.items = ap (λ (l : List Reading). length l) c.as_slice.ensures.value in
    omega (arith, c.requires.short, read, same, length-map c.split_at.result.1.now text_in, c.split_at.ensures.back_len)

pub returns-in_err-items : goal.returns-in_err-items
returns-in_err-items c =
    let lines = texts_in c.args.run.now in
    let f = c.in_err-items.field-0.0 in
    let err : IsErrAnd c.from_residual-in_err-items.result (λ e. e ≡ f) = search rules in
    decided_fault (run_from c.args.first lines) Memory f c.from_residual-in_err-items.result err
    (stopped c.args.run.now c.split_at.result.1.now c.args.first c.count_header-skipped.result c.in_ok-header.header c.in_ok-rows.rows.items c.as_slice.result.now f Memory c.count_header-skipped.ensures c.split_at.ensures.back
    (same_header lines c.in_ok-header.header c.in_ok-header.ensures.found c.in_ok-header.ensures.same) c.in_ok-rows.ensures.found c.as_slice.ensures.value c.in_err-items.ensures.fault)

pub returns : goal.returns
returns c =
    let lines = texts_in c.args.run.now in
    finished c.args.run.now c.split_at.result.1.now c.args.first c.count_header-skipped.result c.in_ok-header.header c.in_ok-rows.rows.items c.as_slice.result.now c.in_ok-items.items.items c.new.result c.count_header-skipped.ensures c.split_at.ensures.back
    (same_header lines c.in_ok-header.header c.in_ok-header.ensures.found c.in_ok-header.ensures.same) c.in_ok-rows.ensures.found c.as_slice.ensures.value c.in_ok-items.ensures.found c.new.ensures
