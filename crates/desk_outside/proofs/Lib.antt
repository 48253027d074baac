mod Walks
mod SlotLemmas
mod CabinetLemmas
mod WriteLemmas
mod FilesLemmas
