pub mod Bits
pub mod Modular
pub mod Powers
pub mod LittleEndian
pub mod Products
pub mod Remainders
pub mod Multiples
