pub mod Puzzle
pub mod Searched
pub mod Order
pub mod Rest
pub mod Turns
pub mod Continues
