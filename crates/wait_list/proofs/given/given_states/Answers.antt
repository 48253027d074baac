use Rattle.std.proofs.Common.{arith, sym, ap, ◌∙◌, ◌+◌, ◌++◌, List, drop, get_or}
use Rattle.series_model.specs.declared.state.UnitState.{UnitState}
use Rattle.wait_list.specs.Waiting.{given_state, given_states}
use Rattle.wait_list.proofs.GivenLemmas.{got, given-next, given-end}
use Rattle.wait_list.proofs.given.given_states.Goals as goal

pub loop-n-preserved : goal.loop-n-preserved
loop-n-preserved c =
    let terms = c.args.terms.now in
    let lines = c.args.lines.now in
    let numbers = c.args.numbers.now in
    let n = c.loop-n.n in
    ap (λ (states : List UnitState). states ++ given_states terms (drop (n + 1) lines) (drop (n + 1) numbers)) c.in_ok-push.ensures.items
    ∙ given-next terms lines numbers n _ c.loop-n.states.items c.given_state-state.result c.loop-n-test.true (c.given_state-state.ensures ∙ ap (given_state terms (get_or lines n _)) (c.copied.ensures ∙ got numbers n c.get.result c.get.ensures.lookup.0 c.get.ensures.lookup.1)) ∙ c.loop-n.invariant

pub returns : goal.returns
returns c =
    sym (given-end c.args.terms.now c.args.lines.now c.args.numbers.now c.loop-n.n c.loop-n.states.items (omega arith)) ∙ c.loop-n.invariant
