mod ExactLemmas
mod FoundLemmas
