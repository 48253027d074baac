-- What the words after a command are: options with their values, and names.
use Rattle.std.specs.Prelude.{◌==◌, if◌then◌else◌, Bool, true, false, List, [], ◌∷◌, map}
use Rattle.std.specs.Prelude.{Option, Some, None, option_map}
use Rattle.std.specs.List.{list_any, before_first, after_first}
use Rattle.std.specs.Str.{bytes_eq}
use Rattle.command_words.specs.Words.{Word}

-- an option that is given a value, or a name
pub data Use : Type 0 where
  given : Word → Word → Use
  named : Word → Use

-- What a word looks like: it doesn't begin with `-`, or is that sign alone; it is `--`; it begins
-- with `--`, and this follows; or it begins with one `-`, and more follows.
pub data Look : Type 0 where
  plain : Look
  dashes : Look
  long : Word → Look
  short : Look

abbrev pub look_long : Word → Look
look_long [] = dashes
look_long (b ∷ w) = long (b ∷ w)

abbrev pub look_after : Word → Look
look_after [] = plain
look_after (b ∷ w) = if b == 45 then look_long w else short

abbrev pub look : Word → Look
look [] = plain
look (b ∷ w) = if b == 45 then look_after w else plain

-- the name is one of these
abbrev pub is_known : List Word → Word → Bool
is_known known name = list_any (λ o. bytes_eq o name) known

abbrev pub with_use : Use → Option (List Use) → Option (List Use)
with_use u = option_map (λ us. u ∷ us)

-- behind `--`, `=` (61) stands between an option's name and its value
abbrev pub has_value : Word → Bool
has_value text = list_any (λ b. b == 61) text

abbrev pub name_in : Word → Word
name_in text = before_first (λ b. b == 61) text

abbrev pub value_in : Word → Word
value_in text = after_first (λ b. b == 61) text

-- `--name=value` is a use, and after `--name` the option waits for its value, where the command has
-- the option
abbrev pub long_use : List Word → Word → Option (List Use) → Option (List Use) → Option (List Use)
long_use known text rest waiting =
    if is_known known (name_in text)
    then (if has_value text then with_use (given (name_in text) (value_in text)) rest else waiting)
    else None

abbrev pub look_use : List Word → Look → Word → List Word → Option (List Use) → Option (List Use)
    → Option (List Use)
look_use known plain w ws rest waiting = with_use (named w) rest
look_use known dashes w ws rest waiting = Some (map named ws)
look_use known (long text) w ws rest waiting = long_use known text rest waiting
look_use known short w ws rest waiting = None

-- a value that is a word of its own doesn't begin with `-`, but may be that sign alone
abbrev pub value_use : Word → Look → Word → Option (List Use) → Option (List Use)
value_use name plain w rest = with_use (given name w) rest
value_use name dashes w rest = None
value_use name (long text) w rest = None
value_use name short w rest = None

abbrev pub waiting_name : Look → Word
waiting_name plain = []
waiting_name dashes = []
waiting_name (long text) = name_in text
waiting_name short = []

-- The uses that the words are, read from left to right, for a command with these options, where an
-- option may still wait for its value; none where a word fits nothing, or a value is missing. After
-- `--` all words are names.
unfoldable pub uses_of : List Word → Option Word → List Word → Option (List Use)
uses_of known None [] = Some []
uses_of known (Some name) [] = None
uses_of known None (w ∷ ws) =
    look_use known (look w) w ws (uses_of known None ws)
    (uses_of known (Some (waiting_name (look w))) ws)
uses_of known (Some name) (w ∷ ws) = value_use name (look w) w (uses_of known None ws)

-- no option is given that was given before, or twice
abbrev pub once_after : List Word → List Use → Bool
once_after seen [] = true
once_after seen (given name value ∷ uses) =
    if is_known seen name then false else once_after (name ∷ seen) uses
once_after seen (named w ∷ uses) = once_after seen uses
