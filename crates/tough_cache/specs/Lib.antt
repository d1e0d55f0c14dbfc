pub mod Streams
pub mod Versioned
