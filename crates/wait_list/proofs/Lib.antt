mod WaitLemmas
mod GivenLemmas
mod ProblemLemmas
mod ClaimLemmas
mod CheckLemmas
mod ExtraLemmas
