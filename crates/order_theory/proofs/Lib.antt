pub mod ListAccessible
pub mod PathAccessible
pub mod PathLaws
pub mod Fallers
pub mod Filters
pub mod PathPair
pub mod PathDecides
pub mod KeptWhole
pub mod Contexts
pub mod Linear
pub mod Coefficients
pub mod KnuthAccessible
pub mod KnuthLaws
pub mod KnuthPair
pub mod Removals
mod Examples
pub mod Absent
pub mod Usable
pub mod UsableProblems
mod UsableExamples
