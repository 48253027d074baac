mod BitLemmas
mod RunLemmas
