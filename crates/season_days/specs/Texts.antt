-- What the faults print.
use Rattle.std.specs.Prelude.{ℕ, List, codes}
use Rattle.slot_text.specs.Texts.{memory_text}
use Rattle.season_days.specs.declared.day.DayFault.{DayFault}
use Rattle.season_days.specs.declared.day.DayFault.TheVariants.{NoSuchDate, OutsideSeason, Reversed, NoDates, Memory}

abbrev pub day_fault_text : DayFault → List ℕ
day_fault_text NoSuchDate = codes "no such date"
day_fault_text OutsideSeason = codes "a date outside the season"
day_fault_text Reversed = codes "a period that ends before it begins"
day_fault_text NoDates = codes "a period without dates"
day_fault_text Memory = memory_text
