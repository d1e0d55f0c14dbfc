mod Pieces
mod Beginnings
mod Fetches
mod Addings
mod Firsts
mod Verdicts
mod Updatings
mod Closings
