pub mod Looking
pub mod Making
