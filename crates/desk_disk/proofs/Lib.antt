mod Walks
mod StopLemmas
