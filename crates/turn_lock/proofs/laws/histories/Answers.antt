use Rattle.turn_lock.proofs.HistoryLemmas.{beginnings_chain, beginnings_nest, whole_beginning, own_begins, others_add_no_own, going_on_chains}
use Rattle.turn_lock.proofs.laws.histories.Goals as goal

pub returns : goal.returns
returns g c = record {
  chain = beginnings_chain;
  nest = beginnings_nest;
  whole = whole_beginning;
  own_begins = own_begins g.T.Story.caller;
  others = others_add_no_own g.T.Story.caller;
  goes_on = going_on_chains g.T.Story.caller;
}
