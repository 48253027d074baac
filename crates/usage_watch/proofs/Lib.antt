mod ReportLemmas
mod ReadingLemmas
mod MarkLemmas
mod TallyLemmas
mod WeekdayLemmas
mod NextLemmas
mod TextLemmas
