use Rattle.std.proofs.Common.{◌+◌, add-one, inl}
use Rattle.capacity_file.proofs.StepLemmas.{after_empty}
use Rattle.capacity_file.proofs.SingleLemmas.{bad_line}
use Rattle.capacity_file.proofs.LoopLemmas.{entry_outcome}
use Rattle.capacity_file.proofs.draft.Draft.add_line.Goals as goal

pub returns-in-Empty : goal.returns-in-Empty
returns-in-Empty c = λ lines next k. after_empty lines c.args.count c.args.line.now c.args.self.now.singles c.args.self.now.rules.items next c.in-Empty.ensures k

pub returns-in-Bad : goal.returns-in-Bad
returns-in-Bad c = λ lines next k.
    inl (bad_line lines c.args.count (c.args.count + 1) c.args.line.now c.args.self.now.singles c.args.self.now.rules.items (add-one c.args.count) next k c.in-Bad.ensures.0 c.in-Bad.ensures.1)

pub returns-in-Stated : goal.returns-in-Stated
returns-in-Stated c = λ lines next k.
    entry_outcome lines c.args.count (c.args.count + 1) c.args.line.now c.args.self.now.singles c.add_entry.new.self.singles c.args.self.now.rules.items c.add_entry.new.self.rules.items c.in-Stated.entry c.add_entry.result
    (add-one c.args.count) next c.in-Stated.ensures k c.add_entry.ensures
