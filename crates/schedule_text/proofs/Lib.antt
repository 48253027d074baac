mod DayLemmas
mod SameLemmas
