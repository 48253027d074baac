-- The lines of a text by which its messages and their items are named.
use Rattle.std.specs.Prelude.{ℕ, List, [], ◌∷◌, ◌++◌, map}
use Rattle.scr_reader.specs.declared.message.Placed.{Placed}
use Rattle.scr_reader.specs.declared.message.Message.{Message}

abbrev pub item_line : Placed → ℕ
item_line placed = placed.line

-- the line of the season, and those of the items
abbrev pub named_lines : Message → List ℕ
named_lines message = message.line ∷ map item_line message.items

abbrev pub all_named_lines : List Message → List ℕ
all_named_lines [] = []
all_named_lines (message ∷ messages) = named_lines message ++ all_named_lines messages
