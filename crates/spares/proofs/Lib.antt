mod Moves
mod Closings
mod Groups
mod Sharing
mod Turns
