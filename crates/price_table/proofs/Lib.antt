mod WorthLemmas
mod TableLemmas
mod BoundLemmas
mod TotalLemmas
mod FewLemmas
mod StridedLemmas
mod FoldedLemmas
