use Rattle.std.proofs.Common.{List, ℕ, ◌++◌, ap, ◌∙◌}
use Rattle.desk_outside.specs.Buffers.{BufferView}
use Rattle.desk_outside.specs.Passages.{Counted}
use Rattle.desk_links.specs.Links.{taken_of}
use Rattle.desk_links.specs.contracts.memory_link.MemoryLink.{the_view}
use Rattle.desk_links.proofs.LinkLemmas.{taken-put, taken-put_failed, unsent}
use Rattle.desk_links.proofs.memory_link.MemoryLinkLink.put.Goals as goal

pub invariant_of-self : goal.invariant_of-self
invariant_of-self c =
    (ap (λ (u : Counted). taken_of u.log) c.note.ensures ∙ taken-put c.self.inside.passed.log c.args.bytes.now ∙ c.self.invariant.0, c.self.invariant.1)

pub invariant_of-self-else-is_none : goal.invariant_of-self-else-is_none
invariant_of-self-else-is_none c =
    (ap (λ (u : Counted). taken_of u.log) c.fault.ensures.counted ∙ ap (λ (u : Counted). taken_of u.log) c.note-else-is_none.ensures ∙ taken-put_failed c.self.inside.passed.log c.args.bytes.now ∙ c.self.invariant.0, c.self.invariant.1)

pub returns-else-is_none-clause-sent : goal.returns-else-is_none-clause-sent
returns-else-is_none-clause-sent c =
    unsent _ (the_view c.self.inside) c.args.self.now c.append.new.self.bytes c.fault.new.self.log c.fault.new.self.faults c.args.bytes.now c.free-free.result c.next_failure-failure.result c.self.view_is
    (ap (λ (u : Counted). u.log) c.fault.ensures.counted ∙ ap (λ (u : Counted). u.log) c.note-else-is_none.ensures)
    (ap (λ (b : BufferView). b.bytes) c.append.ensures ∙ ap (λ (l : List ℕ). c.self.inside.given.bytes ++ l) c.sent.ensures.bytes)
