mod Consumed
mod Looks
mod Wholes
