pub mod Plain
pub mod Assembling
pub mod Asking
pub mod Ending
pub mod HonestLoads
pub mod Trails
pub mod Stored
pub mod Noting
