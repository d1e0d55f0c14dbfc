pub mod Armour
pub mod Written
