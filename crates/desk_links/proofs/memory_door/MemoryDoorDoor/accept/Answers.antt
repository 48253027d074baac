use Rattle.std.proofs.Common.{List, sym, subst, arith}
use Rattle.std.specs.List.{All}
use Rattle.std.proofs.lemmas.List.Elements.{All-drop}
use Rattle.desk_links.specs.LinksInMemory.{HeldLink, IsUnused}
use Rattle.desk_links.proofs.memory_door.MemoryDoorDoor.accept.Goals as goal

pub overflow_add-self : goal.overflow_add-self
overflow_add-self c = omega (arith, c.self.invariant.3, c.in-Some.ensures.cases, c.self.inside.links.ok.0)

pub invariant_of-self-in-Some : goal.invariant_of-self-in-Some
invariant_of-self-in-Some c = (
  c.self.invariant.0,
  c.self.invariant.1,
  subst (λ (links : List HeldLink). All IsUnused links) (sym c.pop_front.ensures.rest) (All-drop IsUnused 1 c.self.inside.links.items c.self.invariant.2),
  omega (arith, c.self.invariant.3, c.in-Some.ensures.cases, c.self.inside.links.ok.0, c.pop_front.new.self.ok.0),
)

pub invariant_of-self-in-None : goal.invariant_of-self-in-None
invariant_of-self-in-None c = (
  c.self.invariant.0,
  c.self.invariant.1,
  subst (λ (links : List HeldLink). All IsUnused links) (sym c.pop_front.ensures.rest) (All-drop IsUnused 1 c.self.inside.links.items c.self.invariant.2),
  omega (arith, c.self.invariant.3, c.in-None.ensures.cases, c.self.inside.links.ok.0, c.pop_front.new.self.ok.0),
)
