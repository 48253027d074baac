use Rattle.std.proofs.Common.{rules, ◌≡◌, ◌++◌, sym, ap, ◌∙◌}
use Rattle.incumbent_word.specs.declared.view.View.{View}
use Rattle.search_workers.specs.Searchers.{pieces_of}
use Rattle.search_workers.proofs.RoundLemmas.{searcher_joined, pieces-append}
use Rattle.search_workers.proofs.seats.unite.Goals as goal

pub returns-clause-ready : goal.returns-clause-ready
returns-clause-ready c =
    let s = c.args.searcher.now in
    let o = c.args.other in
    let k = c.keep_lesser.ensures in
    let done : c.append.new.self.items ≡ s.done.items ++ o.done.items = search rules in
    record {
      own = search rules;
      searcher = rw (k.seat, k.best, k.done, done) (searcher_joined c.args._task.now c.args._pieces.now s.seat.view o.seat.view c.join.new.self.view
          s.cost o.cost c.keep_lesser.new.searcher.cost s.best o.best s.done.items o.done.items c.requires.first.searcher c.requires.second.searcher c.join.ensures.both k.cost);
      claims = rw (k.seat, k.done, done) (ap (λ (v : View). v.worker.pieces) c.join.ensures.both ∙ (ap (λ l. l ++ o.seat.view.worker.pieces) c.requires.first.claims
          ∙ (ap (λ l. pieces_of s.done.items ++ l) c.requires.second.claims ∙ sym (pieces-append s.done.items o.done.items))));
    }
