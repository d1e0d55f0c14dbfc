pub mod Key
pub mod Same
pub mod Demo
pub mod Parsed
pub mod Results
pub mod Equal
pub mod Equals
pub mod Failing
