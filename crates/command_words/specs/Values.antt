-- The names among the uses, the values of options, and numbers as words.
use Rattle.std.specs.Prelude.{ℕ, List, [], ◌∷◌, map, length, Option, Some, None, ◌&&◌, ◌==◌}
use Rattle.std.specs.Prelude.{if◌then◌else◌, nat_le}
use Rattle.std.specs.Fmt.{decimal}
use Rattle.std.specs.Option.{option_map_or}
use Rattle.std.specs.Str.{bytes_eq}
use Rattle.std.specs.Str.Parse.{digits_value}
use Rattle.command_words.specs.Words.{Word}
use Rattle.command_words.specs.Uses.{Use, given, named}

abbrev pub names_in : List Use → List Word
names_in [] = []
names_in (given name value ∷ uses) = names_in uses
names_in (named w ∷ uses) = w ∷ names_in uses

-- the value that the option is given first
abbrev pub value_given : Word → List Use → Option Word
value_given option [] = None
value_given option (given name value ∷ uses) =
    if bytes_eq name option then Some value else value_given option uses
value_given option (named w ∷ uses) = value_given option uses

-- the value of each option, in the order of the options
abbrev pub values_given : List Word → List Use → List (Option Word)
values_given options uses = map (λ option. value_given option uses) options

-- exactly so many names
abbrev pub names_exactly : ℕ → List Word → Option (List Word)
names_exactly count names = if length names == count then Some names else None

-- the number from `least` to `most` whose decimal digits the word is
abbrev pub number_within : ℕ → ℕ → Word → Option ℕ
number_within least most w =
    if bytes_eq w (decimal (digits_value 10 w))
    && (nat_le least (digits_value 10 w) && nat_le (digits_value 10 w) most)
    then Some (digits_value 10 w) else None

-- the same, or the usual number where the option is not given
abbrev pub number_or : ℕ → ℕ → ℕ → Option Word → Option ℕ
number_or least most usual value = option_map_or (number_within least most) value (Some usual)
