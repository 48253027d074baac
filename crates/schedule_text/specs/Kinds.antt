-- Kinds of movements as text.
use Rattle.std.specs.Prelude.{ℕ, List, codes}
use Rattle.season_days.specs.declared.declaration.Kind.{Kind}
use Rattle.season_days.specs.declared.declaration.Kind.TheVariants.{Arr, Dep, Tot}

-- arrivals, departures, and both together
abbrev pub kind_text : Kind → List ℕ
kind_text Arr = codes "ARR"
kind_text Dep = codes "DEP"
kind_text Tot = codes "TOT"
