mod ReadLemmas
mod ReplayLemmas
mod TurnLemmas
