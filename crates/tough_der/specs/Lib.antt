pub mod Der
pub mod Reading
pub mod Keys
pub mod Pem
