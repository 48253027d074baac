use Rattle.std.proofs.Common.{rules, ◌≡◌, ◌+◌, ◌<◌, ◌≤◌, length, List, get_or, drop, refl, ◌∙◌, ap, subst, arith}
use Rattle.cert_format.specs.declared.cert.StageCert.{StageCert}
use Rattle.series_model.specs.declared.state.UnitState.{UnitState}
use Rattle.cert_checker.specs.declared.verdict.Verdict.TheVariants.{Yes}
use Rattle.cert_checker.specs.Blocks.{IsBlockVerdict}
use Rattle.cert_checker.proofs.CertificateLemmas.{IsOn-start, IsOn-cut, IsOn-room, IsOn-next, IsOn-finish}
use Rattle.cert_checker.proofs.checks.check_blocks.Goals as goal

pub loop-block-init : goal.loop-block-init
loop-block-init c = record {
  stage = refl;
  on = IsOn-start c.args.submission.now c.args.cert.now c.in_ok-states.states.items c.requires c.in_ok-states.ensures.states c.in_ok-states.ensures.fit;
}

pub check_block-requires-clause-printable : goal.check_block-requires-clause-printable
check_block-requires-clause-printable c =
    let cert = c.args.cert.now in
    let i = c.loop-block.block-index in
    let items : c.items-block-items.result.now ≡ cert.stages = c.items-block-items.ensures in
    let there : i < length c.items-block-items.result.now = search rules in
    let lt : i < length cert.stages = omega (arith, there, ap (λ (xs : List StageCert). length xs) items) in
    let is : c.block-item.result ≡ get_or cert.stages i c.block-item.result = c.block-item.is ∙ ap (λ (xs : List StageCert). get_or xs i c.block-item.result) items in
    let on = IsOn-cut c.args.submission.now cert c.loop-block.stage c.loop-block.states.items c.loop-block.follows c.loop-block.line i c.block-item.result lt is c.loop-block.invariant.on in
    (cert.version, on.printable.0)

pub check_block-requires-clause-lines : goal.check_block-requires-clause-lines
check_block-requires-clause-lines c =
    let cert = c.args.cert.now in
    let i = c.loop-block.block-index in
    let items : c.items-block-items.result.now ≡ cert.stages = c.items-block-items.ensures in
    let there : i < length c.items-block-items.result.now = search rules in
    let lt : i < length cert.stages = omega (arith, there, ap (λ (xs : List StageCert). length xs) items) in
    let is : c.block-item.result ≡ get_or cert.stages i c.block-item.result = c.block-item.is ∙ ap (λ (xs : List StageCert). get_or xs i c.block-item.result) items in
    let on = IsOn-cut c.args.submission.now cert c.loop-block.stage c.loop-block.states.items c.loop-block.follows c.loop-block.line i c.block-item.result lt is c.loop-block.invariant.on in
    IsOn-room c.args.submission.now cert c.loop-block.stage c.loop-block.states.items c.loop-block.follows c.loop-block.line c.block-item.result (drop (i + 1) cert.stages) on

pub loop-block-preserved : goal.loop-block-preserved
loop-block-preserved c =
    let s = c.args.submission.now in
    let cert = c.args.cert.now in
    let i = c.loop-block.block-index in
    let items : c.items-block-items.result.now ≡ cert.stages = c.items-block-items.ensures in
    let there : i < length c.items-block-items.result.now = search rules in
    let lt : i < length cert.stages = omega (arith, there, ap (λ (xs : List StageCert). length xs) items) in
    let is : c.block-item.result ≡ get_or cert.stages i c.block-item.result = c.block-item.is ∙ ap (λ (xs : List StageCert). get_or xs i c.block-item.result) items in
    let on = IsOn-cut s cert c.loop-block.stage c.loop-block.states.items c.loop-block.follows c.loop-block.line i c.block-item.result lt is c.loop-block.invariant.on in
    let passed : c.in_ok-judged.judged.verdict ≡ Yes = search rules in
    let verdict = subst (λ (st : List UnitState). IsBlockVerdict s.declaration c.loop-block.stage st c.loop-block.follows c.loop-block.line c.block-item.result c.in_ok-judged.judged.verdict c.in_ok-judged.judged.next)
    c.deref.ensures.value c.in_ok-judged.ensures in
    record {
      stage = omega (arith, c.loop-block.invariant.stage);
      on = IsOn-next c.one_more_stage.ensures s cert c.loop-block.stage c.loop-block.states.items c.in_ok-states-2.states.items c.loop-block.follows c.next_may_follow-follows.result c.loop-block.line c.in_ok-judged.judged.next
          c.block-item.result (drop (i + 1) cert.stages) c.in_ok-judged.judged.verdict on passed verdict c.in_ok-states-2.ensures.after c.in_ok-states-2.ensures.fit c.next_may_follow-follows.ensures;
    }

pub returns : goal.returns
returns c =
    let cert = c.args.cert.now in
    let items : c.items-block-items.result.now ≡ cert.stages = c.items-block-items.ensures in
    let past : length c.items-block-items.result.now ≤ c.loop-block.block-index = search rules in
    let end : length cert.stages ≤ c.loop-block.block-index = omega (arith, past, ap (λ (xs : List StageCert). length xs) items) in
    IsOn-finish c.args.submission.now cert c.loop-block.stage c.loop-block.states.items c.loop-block.follows c.loop-block.line c.loop-block.block-index end c.loop-block.invariant.on
