use Rattle.std.proofs.Common.{◌≡◌, ◌++◌, ◌∷◌, [], true, take, refl, ap, subst}
use Rattle.desk_outside.specs.Passages.{Counted, took}
use Rattle.desk_links.specs.LinksInMemory.{ScriptView}
use Rattle.desk_links.specs.contracts.memory_link.MemoryLink.{the_view}
use Rattle.desk_links.proofs.LinkLemmas.{taken_kept, ended_kept, has_taken}
use Rattle.desk_links.proofs.memory_link.MemoryLinkLink.take.Goals as goal

pub invariant_of-self-2 : goal.invariant_of-self-2
invariant_of-self-2 c =
    let logged : c.note.new.self.log ≡ c.self.inside.passed.log ++ took (take c.give-count.result c.give-count.new.into) ∷ [] = ap (λ (u : Counted). u.log) c.note.ensures in (
      taken_kept c.self.inside.passed.log c.note.new.self.log c.self.inside.script c.give-count.new.self (take c.give-count.result c.give-count.new.into) c.give-count.result c.self.invariant.0 c.give-count.ensures.bytes c.give-count.ensures.after logged,
      λ e. ended_kept c.self.inside.script c.give-count.new.self c.next_size-most.result c.give-count.result c.self.inside.over c.self.invariant.1 c.give-count.ensures.count (c.next_size-most.ensures.some c.requires) c.give-count.ensures.after c.give-count.ensures.inside (subst (λ b. b ≡ true) c.either-self-inside.ensures e),
    )

pub returns-clause-taken : goal.returns-clause-taken
returns-clause-taken c =
    let kept = invariant_of-self-2 c in
    has_taken (the_view c.self.inside) c.args.self.now c.give-count.new.self.input c.self.inside.given.bytes c.note.new.self.log c.either-self-inside.result c.note.new.self.faults c.give-count.new.self.taken c.give-count.new.into c.give-count.result c.self.view_is
    c.give-count.ensures.within (ap (λ (u : Counted). u.log) c.note.ensures) (ap (λ (s : ScriptView). s.input) c.give-count.ensures.after) refl c.either-self-inside.ensures kept.0 kept.1
