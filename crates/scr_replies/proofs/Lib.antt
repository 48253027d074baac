mod StateLemmas
mod ReceivedLemmas
mod AnswerLemmas
