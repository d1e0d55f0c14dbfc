mod AnswerLemmas
mod ServesLemmas
