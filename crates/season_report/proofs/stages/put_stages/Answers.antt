use Rattle.std.proofs.Common.{◌≡◌, ◌+◌, ◌<◌, ◌≤◌, ◌∙◌, refl, sym, ap, subst, arith, rules, length, get_or, List, ℕ}
use Rattle.std.specs.Prelude.{All, IfSome}
use Rattle.season_days.specs.declared.declaration.TheConstants.{HIGHEST_SHARE}
use Rattle.season_days.specs.Capacity.{IsDeclaration}
use Rattle.cert_format.specs.declared.cert.StageCert.{StageCert}
use Rattle.series_model.specs.declared.state.UnitState.{UnitState}
use Rattle.series_model.specs.Stages.{AreStates, GivenFits, IsFeasibleChoice, after_stage}
use Rattle.report_lines.specs.Peaks.{AreEarlier}
use Rattle.season_report.specs.Decisions.{states_before}
use Rattle.season_report.specs.Private.{IsOpen, texts_of}
use Rattle.season_report.proofs.StateLemmas.{first_length, stage_length}
use Rattle.season_report.proofs.GivenLemmas.{first_open, open_after}
use Rattle.season_report.proofs.StageLemmas.{first_earlier, first_fits, states_next, text_next, text_end, reasons_later, reasons_end, choice_here, untried_none, fits_after}
use Rattle.season_report.proofs.stages.put_stages.Goals as goal

pub loop-block-init : goal.loop-block-init
loop-block-init c =
    let s = c.args.submission.now in
    let is = c.in_ok-states.ensures.states in
    record {
      stage = omega arith;
      states = is;
      fit = c.in_ok-states.ensures.fit;
      fresh = first_open s.units c.in_ok-states.states.items is;
      fits = first_fits c.feasible_fits.ensures.start s.declaration s.units c.in_ok-states.states.items is;
      text = refl;
      reasons = refl;
      count = refl;
      units = ap (λ (st : List UnitState). length st) is ∙ first_length s.units;
      loads = refl;
      earlier = first_earlier c.feasible_fits.ensures.start s.declaration s.units c.in_ok-states.states.items c.args.given.now is c.requires.loads c.requires.zeros;
    }

pub put_stage-requires-clause-states : goal.put_stage-requires-clause-states
put_stage-requires-clause-states c = subst (AreStates c.args.submission.now) (sym c.deref.ensures.value) c.loop-block.invariant.fit

pub put_stage-requires-clause-fresh : goal.put_stage-requires-clause-fresh
put_stage-requires-clause-fresh c = subst (All (IsOpen c.loop-block.stage)) (sym c.deref.ensures.value) c.loop-block.invariant.fresh

pub put_stage-requires-clause-choice : goal.put_stage-requires-clause-choice
put_stage-requires-clause-choice c =
    let s = c.args.submission.now in
    let cert = c.args.cert.now in
    let i = c.loop-block.block-index in
    let items : c.items-block-items.result.now ≡ cert.stages = c.items-block-items.ensures in
    let there : i < length c.items-block-items.result.now = search rules in
    let lt : i < length cert.stages = omega (arith, there, ap (λ (xs : List StageCert). length xs) items) in
    let is : c.block-item.result ≡ get_or cert.stages i c.block-item.result = c.block-item.is ∙ ap (λ (xs : List StageCert). get_or xs i c.block-item.result) items in
    choice_here s cert c.deref.result.now i c.loop-block.stage c.block-item.result (c.valid_choices.ensures s cert c.requires.valid) lt is c.loop-block.invariant.stage (c.deref.ensures.value ∙ c.loop-block.invariant.states)

pub put_stage-requires-clause-untried : goal.put_stage-requires-clause-untried
put_stage-requires-clause-untried c =
    let cert = c.args.cert.now in
    let i = c.loop-block.block-index in
    let items : c.items-block-items.result.now ≡ cert.stages = c.items-block-items.ensures in
    let there : i < length c.items-block-items.result.now = search rules in
    let lt : i < length cert.stages = omega (arith, there, ap (λ (xs : List StageCert). length xs) items) in
    let is : c.block-item.result ≡ get_or cert.stages i c.block-item.result = c.block-item.is ∙ ap (λ (xs : List StageCert). get_or xs i c.block-item.result) items in
    untried_none cert.version cert.stages i c.block-item.result c.requires.valid.form.stages lt is

pub put_stage-requires-clause-count : goal.put_stage-requires-clause-count
put_stage-requires-clause-count c =
    c.loop-block.invariant.count ∙ c.requires.count ∙ sym c.loop-block.invariant.units ∙ sym (ap (λ (st : List UnitState). length st) c.deref.ensures.value)

pub put_stage-requires-clause-loads : goal.put_stage-requires-clause-loads
put_stage-requires-clause-loads c = c.loop-block.invariant.loads ∙ c.requires.loads

pub put_stage-requires-clause-earlier : goal.put_stage-requires-clause-earlier
put_stage-requires-clause-earlier c =
    subst (λ (st : List UnitState). AreEarlier c.args.submission.now.declaration st c.loop-block.given) (sym c.deref.ensures.value) c.loop-block.invariant.earlier

pub put_stage-requires-clause-fits : goal.put_stage-requires-clause-fits
put_stage-requires-clause-fits c = subst (GivenFits c.args.submission.now.declaration) (sym c.deref.ensures.value) c.loop-block.invariant.fits

pub overflow_add-stage : goal.overflow_add-stage
overflow_add-stage c =
    let cert = c.args.cert.now in
    let items : c.items-block-items.result.now ≡ cert.stages = c.items-block-items.ensures in
    let there : c.loop-block.block-index < length c.items-block-items.result.now = search rules in
    omega (arith, c.loop-block.invariant.stage, c.requires.valid.form.count, there, ap (λ (xs : List StageCert). length xs) items)

pub loop-block-preserved : goal.loop-block-preserved
loop-block-preserved c =
    let s = c.args.submission.now in
    let d = s.declaration in
    let cert = c.args.cert.now in
    let i = c.loop-block.block-index in
    let stage = c.loop-block.stage in
    let states = c.loop-block.states.items in
    let block = c.block-item.result in
    let choice = block.choice in
    let inv = c.loop-block.invariant in
    let items : c.items-block-items.result.now ≡ cert.stages = c.items-block-items.ensures in
    let there : i < length c.items-block-items.result.now = search rules in
    let lt : i < length cert.stages = omega (arith, there, ap (λ (xs : List StageCert). length xs) items) in
    let is : block ≡ get_or cert.stages i block = c.block-item.is ∙ ap (λ (xs : List StageCert). get_or xs i block) items in
    let same : c.deref.result.now ≡ states = c.deref.ensures.value in
    let are : c.deref.result.now ≡ states_before s cert stage = same ∙ inv.states in
    let after : c.in_ok-states-2.states.items ≡ after_stage d stage states choice = c.in_ok-states-2.ensures.after in
    let share : d.share ≤ HIGHEST_SHARE = (subst IsDeclaration c.declaration-keeps.ensures.value c.declaration-keeps.ensures.keeps).share in
    let feasible : IfSome choice (IsFeasibleChoice d stage states) = choice_here s cert states i stage block (c.valid_choices.ensures s cert c.requires.valid) lt is inv.stage inv.states in
    record {
      stage = omega (arith, inv.stage);
      states = states_next c.one_more_stage.ensures s cert states c.in_ok-states-2.states.items i stage block lt is inv.stage inv.states after;
      fit = c.in_ok-states-2.ensures.fit;
      fresh = subst (All (IsOpen (stage + 1))) (sym after) (open_after d stage states choice inv.fresh);
      fits = subst (GivenFits d) (sym after) (fits_after c.feasible_fits.ensures.step d stage states choice share inv.fits feasible);
      text = text_next s cert c.args.units.now c.deref.result.now cert.stages i stage block c.loop-block.out.items c.put_stage.new.out.items lt is c.requires.units are c.in_ok-put_stage.ensures.text ∙ inv.text;
      reasons = reasons_later s cert c.deref.result.now cert.stages i stage block (texts_of c.loop-block.reasons) (texts_of c.put_stage.new.reasons) lt is are c.in_ok-put_stage.ensures.reasons ∙ inv.reasons;
      count = c.in_ok-put_stage.ensures.count ∙ inv.count;
      units = ap (λ (st : List UnitState). length st) after ∙ stage_length d stage states choice ∙ inv.units;
      loads = c.in_ok-put_stage.ensures.loads ∙ inv.loads;
      earlier = subst (λ (st : List UnitState). AreEarlier d st c.put_stage.new.given) (sym after)
          (subst (λ (st : List UnitState). AreEarlier d (after_stage d stage st choice) c.put_stage.new.given) same c.in_ok-put_stage.ensures.given);
    }

pub returns-clause-text : goal.returns-clause-text
returns-clause-text c =
    let s = c.args.submission.now in
    let cert = c.args.cert.now in
    let i = c.loop-block.block-index in
    let items : c.items-block-items.result.now ≡ cert.stages = c.items-block-items.ensures in
    let past : length c.items-block-items.result.now ≤ i = search rules in
    let end : length cert.stages ≤ i = omega (arith, past, ap (λ (xs : List StageCert). length xs) items) in
    text_end s cert cert.stages i c.loop-block.stage c.loop-block.out.items _ end c.loop-block.invariant.text

pub returns-clause-reasons : goal.returns-clause-reasons
returns-clause-reasons c =
    let s = c.args.submission.now in
    let cert = c.args.cert.now in
    let i = c.loop-block.block-index in
    let items : c.items-block-items.result.now ≡ cert.stages = c.items-block-items.ensures in
    let past : length c.items-block-items.result.now ≤ i = search rules in
    let end : length cert.stages ≤ i = omega (arith, past, ap (λ (xs : List StageCert). length xs) items) in
    reasons_end s cert cert.stages i c.loop-block.stage (texts_of c.loop-block.reasons) _ end c.loop-block.invariant.reasons

pub returns-clause-given : goal.returns-clause-given
returns-clause-given c =
    let s = c.args.submission.now in
    let cert = c.args.cert.now in
    let i = c.loop-block.block-index in
    let items : c.items-block-items.result.now ≡ cert.stages = c.items-block-items.ensures in
    let past : length c.items-block-items.result.now ≤ i = search rules in
    let last : i ≤ length c.items-block-items.result.now = search rules in
    let five : c.loop-block.stage ≡ 5 = omega (arith, past, last, c.loop-block.invariant.stage, c.requires.valid.form.count, ap (λ (xs : List StageCert). length xs) items) in
    subst (λ (st : List UnitState). AreEarlier s.declaration st c.loop-block.given) (c.loop-block.invariant.states ∙ ap (λ (k : ℕ). states_before s cert k) five) c.loop-block.invariant.earlier
