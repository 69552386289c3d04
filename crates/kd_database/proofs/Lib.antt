mod Counting
mod Opening
