use Rattle.std.proofs.Common.{◌≡◌, ◌++◌, map, drop}
use Rattle.command_words.proofs.words.copy_names.Given as goal

abbrev pub invariant-loop-name : goal.invariant-loop-name
invariant-loop-name l = l.items.items ++ map (λ name. name.now) (drop l.name-index l.names) ≡ map (λ name. name.now) l.names
