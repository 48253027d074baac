mod DayLemmas
mod FitLemmas
mod DrawLemmas
mod TextLemmas
mod CapacityLemmas
mod SubmissionLemmas
mod WordLemmas
mod SizeLemmas
