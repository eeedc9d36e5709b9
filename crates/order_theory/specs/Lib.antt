pub mod PathOrder
pub mod PathTest
pub mod ArgumentFilter
pub mod Keeping
pub mod MovesInContexts
pub mod LinearInterpretation
pub mod KnuthBendix
pub mod UsableRules
