pub mod lemmas
pub mod CheckLemmas
pub mod EndLemmas
pub mod Going
pub mod JoinLemmas
pub mod LimitLemmas
pub mod PacingLemmas
pub mod ResourceLemmas
pub mod TurnLemmas
mod Marks
mod Showing
