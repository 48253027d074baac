mod OutsideLemmas
mod ServiceLemmas
mod JournalLemmas
mod ResumeLemmas
mod WordLemmas
mod StageProofs
mod DeskLemmas
