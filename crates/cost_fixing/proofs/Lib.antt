mod ListLemmas
mod WithLemmas
mod FixLemmas
mod LimitLemmas
mod StepLemmas
mod AlikeLemmas
