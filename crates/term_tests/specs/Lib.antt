pub mod Puzzles
