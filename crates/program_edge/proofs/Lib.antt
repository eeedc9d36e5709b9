pub mod Putting
pub mod Splitting
pub mod PuttingLines
pub mod OneConclusion
