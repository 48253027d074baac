mod ZipLemmas
mod ChoiceLemmas
mod ProofLemmas
mod PartLemmas
mod LoadLemmas
mod BuildLemmas
mod FeasibleLemmas
