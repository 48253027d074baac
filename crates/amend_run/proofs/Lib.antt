mod DueLemmas
mod RunLemmas
mod TotalLemmas
mod OnceLemmas
