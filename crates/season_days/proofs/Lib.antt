-- They cite the calendar lemmas in the proofs of jiff_core: no clause of the library says how the
-- numbers of days follow one another, nor how long a month is.
mod SeasonLemmas
mod CivilLemmas
mod PeriodLemmas
mod CountLemmas
mod CutLemmas
mod AnswerLemmas
mod PartLemmas
mod CutCountLemmas
