mod Opening
mod Grows
mod Misplaced
mod Digests
