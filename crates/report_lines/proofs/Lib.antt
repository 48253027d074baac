mod WindowLemmas
mod PeakLemmas
mod RuledOutLemmas
mod AboveLemmas
mod LeastLemmas
mod DemandLemmas
mod TextLemmas
