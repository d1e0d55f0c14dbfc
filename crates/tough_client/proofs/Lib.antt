mod Planned
mod Savings
mod Starting
mod Turns
mod Opened
mod Vouched
