mod LinkLemmas
mod RealLemmas
