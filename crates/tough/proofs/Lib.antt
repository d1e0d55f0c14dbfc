mod Driven
mod Vouching
