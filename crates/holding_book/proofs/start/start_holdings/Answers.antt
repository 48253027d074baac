use Rattle.std.proofs.Common.{Vec, List, ◌++◌, ◌∷◌, [], sym, ap, ◌∙◌, append-nil, take, Some, None}
use Rattle.std.specs.List.{filter_map}
use Rattle.holding_book.specs.declared.holding.Holding.{Holding}
use Rattle.holding_book.specs.Starts.{holding_of}
use Rattle.holding_book.proofs.StartLemmas.{filter_next}
use Rattle.holding_book.proofs.start.start_holdings.Goals.{in-Some+in_ok-push, in_default}
use Rattle.holding_book.proofs.start.start_holdings.Goals as goal

pub loop-state-preserved : goal.loop-state-preserved
loop-state-preserved c =
    let states = c.args.states.now in
    let n = c.loop-state.state-index in
    elim c.match-start_holding.branch [
      | in-Some+in_ok-push w ↦
          let next = filter_next states n _ (Some w.in-Some.holding) c.loop-state-test.true (sym w.in-Some.is ∙ c.start_holding.ensures) in
          ap (λ (v : Vec Holding _). v.items) w.holdings-is ∙ w.in_ok-push.ensures.items ∙ ap (λ (t : List Holding). t ++ w.in-Some.holding ∷ []) c.loop-state.invariant ∙ sym next
      | in_default w ↦
          let next = filter_next states n _ None c.loop-state-test.true (sym w.in_default.is ∙ c.start_holding.ensures) in
          ap (λ (v : Vec Holding _). v.items) w.holdings-is ∙ c.loop-state.invariant ∙ sym (next ∙ append-nil (filter_map holding_of (take n states)))
    ]
