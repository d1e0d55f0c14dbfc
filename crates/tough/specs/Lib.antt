pub mod Program
pub mod Watching
