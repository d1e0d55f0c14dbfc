pub mod lemmas
pub mod MemberLemmas
pub mod MomentLemmas
pub mod Fractions
pub mod MomentText
pub mod TableLemmas
