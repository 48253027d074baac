use Rattle.std.specs.Prelude.{All}
use Rattle.desk_links.specs.LinksInMemory.{IsUnused}
use Rattle.memory_desk.proofs.clients.links_of.Given as goal

abbrev pub invariant-loop-input : goal.invariant-loop-input
invariant-loop-input l = All IsUnused l.links.items
