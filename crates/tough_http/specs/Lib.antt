pub mod Answers
pub mod DefaultUrls
pub mod HttpUrls
pub mod Settings
pub mod Transports
