mod CountLemmas
mod PlaceLemmas
mod JointLemmas
