mod Quiet
mod Accepted
mod Chosen
mod Counting
mod Meant
