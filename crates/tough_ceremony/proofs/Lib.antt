pub mod Rolls
pub mod Noting
pub mod Counting
pub mod Adding
pub mod Refusing
