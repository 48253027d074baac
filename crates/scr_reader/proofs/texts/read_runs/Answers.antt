use Rattle.std.proofs.Common.{◌≡◌, List, subst, sym, rules}
use Rattle.std.specs.Prelude.{IsErrAnd}
use Rattle.scr_reader.specs.Private.Texts.{texts_in}
use Rattle.scr_reader.specs.Messages.{runs_of, AreMessages, IsFirstFault}
use Rattle.scr_reader.specs.declared.message.Message.{Message}
use Rattle.scr_reader.specs.declared.fault.ScrFault.{ScrFault}
use Rattle.scr_reader.specs.declared.fault.ScrFault.TheVariants.{Memory}
use Rattle.scr_reader.proofs.TextLemmas.{decided_err, progress_stop, progress_step, progress_end}
use Rattle.scr_reader.proofs.texts.read_runs.Goals as goal

pub returns-in_err-at : goal.returns-in_err-at
returns-in_err-at c =
    let f = c.in_err-at.field-0.0 in
    let err : IsErrAnd c.from_residual.result (λ e. e ≡ f) = search rules in
    decided_err (AreMessages (runs_of 1 (texts_in c.args.lines.now))) (IsFirstFault (runs_of 1 (texts_in c.args.lines.now))) Memory f c.from_residual.result err
    (progress_stop c.args.lines.now c.split_at.result.1.now c.loop-at.messages.items c.loop-at.at f Memory c.split_at.ensures.back c.in_err-at.ensures.stop c.loop-at.invariant)

pub loop-at-preserved : goal.loop-at-preserved
loop-at-preserved c = progress_step c.args.lines.now c.split_at.result.1.now c.loop-at.messages.items _ c.loop-at.at _ c.split_at.ensures.back c.in_ok-at.ensures.on c.loop-at.invariant

pub returns : goal.returns
returns c =
    let runs = runs_of 1 (texts_in c.args.lines.now) in
    let P : List Message → Type 0 = λ l. AreMessages runs l × ((other : List Message) → AreMessages runs other → l ≡ other) × ((f : ScrFault) → IsFirstFault runs f → ⊥) in
    subst P (sym c.new.ensures) (progress_end c.args.lines.now c.loop-at.messages.items c.loop-at.at c.loop-at-test.false c.loop-at.invariant)
