use Rattle.branch_tree.proofs.walks.Walk.over.Goals as goal

pub choice_loads-requires-clause-there : goal.choice_loads-requires-clause-there
choice_loads-requires-clause-there c = rw c.deref-2.ensures.value c.requires.passable.there

pub least_loads-requires-clause-ranks : goal.least_loads-requires-clause-ranks
least_loads-requires-clause-ranks c = rw (c.deref-3.ensures.value, c.deref-4.ensures.value) c.requires.ranks

pub invariant_of-result : goal.invariant_of-result
invariant_of-result c =
    let loads = c.in_ok-cost.ensures in
    let least = c.in_ok-least.ensures in record {
      listed = c.requires.passable;
      limits_count = c.requires.count;
      lists_are = rw c.deref-3.ensures.value at least.lists;
      limited = c.requires.limits;
      ranked = c.requires.ranks;
      kept = record {
        valid = c.requires.ranges;
        few_units = loads.few;
        units = loads.units;
        cheapest = c.in_ok-cheapest.ensures.cheapest;
        choice = c.in_ok-cheapest.ensures.choice;
        cost_is = rw c.deref.ensures.value at loads.cost;
        loads_count = rw c.deref-2.ensures.value at loads.count;
        loads_are = rw (c.deref.ensures.value, c.deref-2.ensures.value) at loads.loads;
        least_count = rw c.deref-3.ensures.value at least.count;
        least_are = rw c.deref-3.ensures.value at least.least;
        zeros_count = rw c.deref-3.ensures.value at least.zeros_count;
        zeros_are = least.zeros;
      };
    }
