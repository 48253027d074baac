mod TreeLemmas
mod FloorLemmas
mod NameLemmas
mod StageLemmas
mod TrialLemmas
mod RunLemmas
mod SeasonLemmas
mod TieLemmas
