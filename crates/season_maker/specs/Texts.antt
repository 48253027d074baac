-- The two files of a generated season.
use Rattle.std.specs.Prelude.{ℕ, List, [], ◌∷◌, ◌++◌, codes}
use Rattle.std.specs.Fmt.{decimal}
use Rattle.slot_text.specs.Ended.{ended}
use Rattle.scr_reader.specs.Printed.{message_text}
use Rattle.season_maker.specs.Generated.{hourly_limit, generated_message}

-- the lines of the capacity file
abbrev pub generated_lines : ℕ → List (List ℕ)
generated_lines units =
    codes "AIRPORT ABC" ∷ codes "SEASON S25" ∷ codes "STEP 5" ∷ codes "FLEX 30" ∷ codes "GROUND 40"
    ∷ codes "REFUSE 60" ∷ (codes "CAP ARR 60 0600 2200 1234567 " ++ decimal (hourly_limit units))
    ∷ []

-- each with its LF
abbrev pub generated_capacity : ℕ → List ℕ
generated_capacity units = ended (generated_lines units)

-- the message in its printed spelling
abbrev pub generated_requests : ℕ → ℕ → List ℕ
generated_requests number units = message_text (generated_message number units)
