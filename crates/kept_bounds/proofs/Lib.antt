mod ChangeLemmas
mod KeptLemmas
