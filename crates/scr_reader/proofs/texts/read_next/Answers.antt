use Rattle.std.proofs.Common.{◌≡◌, ◌⊎◌, sym, ◌∙◌, rules, arith}
use Rattle.std.specs.Prelude.{IsErrAnd}
use Rattle.std.proofs.lemmas.List.{length-map}
use Rattle.scr_reader.specs.Private.Texts.{text_in, texts_in}
use Rattle.scr_reader.specs.Private.Decided.{Stops}
use Rattle.scr_reader.specs.declared.fault.ScrFault.TheVariants.{Memory}
use Rattle.scr_reader.proofs.TextLemmas.{skip_one, advance_run, stop_run, if_err}
use Rattle.scr_reader.proofs.texts.read_next.Goals as goal

pub returns-then-count-eq0-clause-on : goal.returns-then-count-eq0-clause-on
returns-then-count-eq0-clause-on c = skip_one c.args.number (texts_in c.args.rest.now) _ (omega (arith, c.requires.some, length-map c.args.rest.now text_in)) (sym c.count_front-count.ensures.exact ∙ c.if-count-eq0.true)

pub returns-in_err-read_run-clause-stop : goal.returns-in_err-read_run-clause-stop
returns-in_err-read_run-clause-stop c =
    let f = c.in_err-read_run.field-0.0 in
    let err : IsErrAnd c.from_residual.result (λ e. e ≡ f) = search rules in
    if_err c.from_residual.result f (λ g. (g ≡ Memory) ⊎ Stops c.args.number (texts_in c.args.rest.now) g) err
    (stop_run c.args.number c.count_front-count.result c.args.rest.now c.split_at.result.0.now f Memory c.if-count-eq0.false c.count_front-count.ensures.exact c.split_at.ensures.front c.in_err-read_run.ensures)

pub returns-clause-on : goal.returns-clause-on
returns-clause-on c =
    advance_run c.args.number c.count_front-count.result c.args.rest.now c.split_at.result.0.now c.in_ok-read_run.field-0 _ _ c.if-count-eq0.false c.count_front-count.ensures.exact c.count_front-count.ensures.within c.split_at.ensures.front
    c.in_ok-read_run.ensures c.in_ok-push.ensures.items
